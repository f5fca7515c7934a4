-- `table::configurations::lowest_bad` meets its contract: all before j are good.
use Prim.Native.Nat.{ℕ, ◌<◌}
use mathlib.Core.Bool.{true}
use mathlib.Core.Path.{◌≡◌}
use Rattle.table.specs.Good.{good_configuration}
use Rattle.table.proofs.configurations.lowest_bad.Given as goal

abbrev pub invariant-loop-j : goal.invariant-loop-j
invariant-loop-j l = (k : ℕ) → k < l.j → good_configuration l.table k ≡ true
