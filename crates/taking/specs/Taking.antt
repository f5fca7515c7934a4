-- What taking a piece answers, and what it leaves in the store and in the lent rooms (L8). t is the table, s the store, e the event.
use Rattle.std.specs.Prelude.{ℕ, ◌+◌, ◌*◌, Bool, cond, ◌&&◌, ◌≡◌, Result, Ok, Err, MatchResult, List, ◌++◌, eqb, leb, length, take, drop}
use Rattle.table.specs.Records.{size_at}
use Rattle.table.specs.Part.{part_table, part_length}
use Rattle.table.specs.Verdict.{refusal_number, refusal_index, Verdict, verdict_of, ending}
use Rattle.store.specs.Store.{node_of, piece_length, store_good, newest, without}
use Rattle.taking.specs.declared.TakeRefusal.{TakeRefusal}
use Rattle.taking.specs.declared.TakeRefusal.TheVariants.{Table, BadStore, NoPiece, NoRoom}
use Rattle.taking.specs.declared.Taken.{Taken}

-- "taking gives 1 to 8, 25, 14 no such piece, 15 no room to take it"
abbrev pub taking_number : TakeRefusal → ℕ
taking_number (Table why) = refusal_number why
taking_number BadStore = 25
taking_number NoPiece = 14
taking_number NoRoom = 15

-- only a table's refusal has an index other than 0
abbrev pub taking_index : TakeRefusal → ℕ
taking_index (Table why) = refusal_index why
taking_index BadStore = 0
taking_index NoPiece = 0
taking_index NoRoom = 0

-- the piece's table has room, and so has its state; j is the body's node
abbrev pub has_rooms : List ℕ → ℕ → List ℕ → List ℕ → Bool
has_rooms t j tableRoom stateRoom = leb (part_length t j) (length tableRoom) && leb (4 * size_at t j) (length stateRoom)

-- a refused table is the outcome; an accepted one goes on
abbrev pub on_accepted : Verdict → Result (Unit {0}) TakeRefusal → Result (Unit {0}) TakeRefusal
on_accepted (Ok figures) go = go
on_accepted (Err why) go = Err (Table why)

-- the checks in their order
unfoldable pub take_outcome : List ℕ → List ℕ → ℕ → List ℕ → List ℕ → Result (Unit {0}) TakeRefusal
take_outcome t s e tableRoom stateRoom =
    let at = newest t s e in
    let roomy = cond (has_rooms t (node_of s at) tableRoom stateRoom) (Ok tt) (Err NoRoom) in
    let found = cond (eqb at 0) (Err NoPiece) roomy in
    let stored = cond (store_good t s) found (Err BadStore) in
    on_accepted (verdict_of t) stored

-- the piece at byte `at` was taken: "A taken piece leaves as a table (the body's nodes, all configurations, the same V) and a state", each at the
-- start of its room, which past it is as it was; and it "closes the gap"
pub record Left (t s : List ℕ) (at : ℕ) (tableRoom stateRoom s' tableRoom' stateRoom' : List ℕ) (r : Taken) : Type 0 where
  pub table_length : r.table ≡ part_length t (node_of s at)
  pub state_length : r.state ≡ 4 * size_at t (node_of s at)
  pub table_is : tableRoom' ≡ part_table t (node_of s at) ++ drop r.table tableRoom
  pub state_is : stateRoom' ≡ take r.state (drop (at + 4) s) ++ drop r.state stateRoom
  pub store_is : s' ≡ without (piece_length t s at) at s

-- nothing was taken and nothing written
pub record Kept (s tableRoom stateRoom s' tableRoom' stateRoom' : List ℕ) : Type 0 where
  pub store_is : s' ≡ s
  pub table_is : tableRoom' ≡ tableRoom
  pub state_is : stateRoom' ≡ stateRoom

-- the whole of what a taking answers and leaves: "the newest piece of an event"
pub record Took (t s : List ℕ) (e : ℕ) (tableRoom stateRoom s' tableRoom' stateRoom' : List ℕ) (r : Result Taken TakeRefusal) : Type 0 where
  pub outcome_is : ending r ≡ take_outcome t s e tableRoom stateRoom
  pub leaves : MatchResult r
      (λ x. Left t s (newest t s e) tableRoom stateRoom s' tableRoom' stateRoom' x)
      (λ why. Kept s tableRoom stateRoom s' tableRoom' stateRoom')
