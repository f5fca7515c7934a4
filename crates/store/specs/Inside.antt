-- What private functions of the store go by. No public contract cites this file.
use Rattle.std.specs.Prelude.{ℕ, ◌+◌, ◌≤◌, ◌<◌, Bool, true, ◌≡◌, ⊤, List, eqb}
use Rattle.events.specs.Events.{lowest}
use Rattle.store.specs.declared.good.Ways.{Ways}
use Rattle.store.specs.declared.good.Ways.TheVariants.{Few, Each, Free}
use Rattle.table.specs.Records.{nodes, size_at}
use Rattle.table.specs.Part.{never_runs}
use Rattle.table.specs.Inside.{Loaded}

-- node j stands in the subtree of node i of a loaded table
pub record Under (t : List ℕ) (i j : ℕ) : Type 0 where
  pub loaded : Loaded t
  pub among : j < nodes t
  pub from : i ≤ j
  pub ends : j < i + size_at t i

-- the next node on the way from node i down to node j is r: no node passed over stands above j
pub record Next (t : List ℕ) (i j r : ℕ) : Type 0 where
  pub down : i < r
  pub under : Under t r j
  pub passed : (k : ℕ) → i < k → k < r → k + size_at t k ≤ j

-- no node is a repetition of count or cap 0
unfoldable pub all_run : List ℕ → Bool
all_run t = eqb (lowest (nodes t) (never_runs t)) (nodes t)

-- where no way down is gone, no node is one
abbrev pub Spared : List ℕ → Ways → Type 0
Spared t (Few n) = ⊤
Spared t Each = ⊤
Spared t Free = all_run t ≡ true
