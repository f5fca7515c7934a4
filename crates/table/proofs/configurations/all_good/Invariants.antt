-- `table::configurations::all_good` meets its contract: up to configuration j all is passed.
use Prim.Native.Nat.{◌+◌, ◌*◌}
use Rattle.table.proofs.Passing.{SomeReached}
use Rattle.table.proofs.configurations.all_good.Given as goal

abbrev pub invariant-loop-j : goal.invariant-loop-j
invariant-loop-j l = SomeReached l.table (6 * l.n + 4 * l.j) l.way
