-- `table::nodes::first_bad` meets its contract: all records before i are good.
use Prim.Native.Nat.{ℕ, ◌<◌}
use mathlib.Core.Bool.{true}
use mathlib.Core.Path.{◌≡◌}
use Rattle.table.specs.Good.{good_node}
use Rattle.table.proofs.nodes.first_bad.Given as goal

abbrev pub invariant-loop-i : goal.invariant-loop-i
invariant-loop-i l = (k : ℕ) → k < l.i → good_node l.table k ≡ true
