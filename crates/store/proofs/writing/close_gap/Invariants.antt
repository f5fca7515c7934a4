-- `close_gap` meets its contract: after k turns the first k bytes are moved.
use Prim.Native.Nat.{◌-◌, ◌≤◌}
use mathlib.Core.Path.{◌≡◌}
use mathlib.Core.List.{◌++◌}
use lib.ListN.{length, take, drop}
use Rattle.store.proofs.writing.close_gap.Given as goal

abbrev pub invariant-loop-k : goal.invariant-loop-k
invariant-loop-k l = (l.k ≤ l.rest) × (length l.part ≡ length l.initial.part) × (l.part ≡ take l.k (drop l.n l.initial.part) ++ drop l.k l.initial.part)

abbrev pub decreases-loop-k : goal.decreases-loop-k
decreases-loop-k l = l.rest - l.k
