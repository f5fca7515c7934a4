-- All nodes up to i run.
use Rattle.store.proofs.Ways.{Run}
use Rattle.store.proofs.good.all_run.Given as goal

abbrev pub invariant-loop-i : goal.invariant-loop-i
invariant-loop-i l = Run l.table l.i
