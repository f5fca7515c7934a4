-- What the steps of a taking know. Private contracts alone cite this file; no public one does.
use Rattle.std.specs.Prelude.{ℕ, ◌+◌, ◌*◌, ◌≤◌, ◌<◌, cond, ◌≡◌, Result, Ok, Err, MatchResult, List, ◌++◌, length, take, drop}
use Rattle.table.specs.Records.{nodes, configurations, events}
use Rattle.table.specs.Bytes.{trailer}
use Rattle.table.specs.Inside.{Loaded}
use Rattle.table.specs.Verdict.{ending}
use Rattle.store.specs.Store.{in_use, node_of, piece_length}
use Rattle.taking.specs.declared.TakeRefusal.{TakeRefusal}
use Rattle.taking.specs.declared.TakeRefusal.TheVariants.{NoRoom}
use Rattle.taking.specs.declared.Taken.{Taken}
use Rattle.taking.specs.Taking.{has_rooms, Left, Kept}

-- past 25: a piece stands at byte `at`, all of it among the bytes in use
pub record Holding (t s : List ℕ) (at : ℕ) : Type 0 where
  pub loaded : Loaded t
  pub node : node_of s at < nodes t
  pub begins : 2 ≤ at
  pub ends : at + piece_length t s at ≤ 2 + in_use s
  pub all : 2 + in_use s ≤ length s

-- it was taken, or there was no room
pub record TookAt (t s : List ℕ) (at : ℕ) (tableRoom stateRoom s' tableRoom' stateRoom' : List ℕ) (r : Result Taken TakeRefusal) : Type 0 where
  pub outcome_is : ending r ≡ cond (has_rooms t (node_of s at) tableRoom stateRoom) (Ok tt) (Err NoRoom)
  pub leaves : MatchResult r
      (λ x. Left t s at tableRoom stateRoom s' tableRoom' stateRoom' x)
      (λ why. Kept s tableRoom stateRoom s' tableRoom' stateRoom')

-- what stands in a part of a table behind its n nodes
abbrev pub behind_nodes : List ℕ → ℕ → List ℕ
behind_nodes t n =
    let m = configurations t in
    take (4 * m) (drop (6 * nodes t) t) ++ trailer n m (events t) (6 * n + 4 * m) (4 * m)
