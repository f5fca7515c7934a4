-- All nodes above node j are met on the way down to it.
use Prim.Native.Nat.{◌-◌}
use Rattle.store.specs.Inside.{Under}
use Rattle.store.proofs.Ways.{Free}
use Rattle.store.proofs.good.runs_above.Given as goal

abbrev pub invariant-loop-i : goal.invariant-loop-i
invariant-loop-i l = Under l.table l.i l.j × Free l.table l.j l.i

abbrev pub decreases-loop-i : goal.decreases-loop-i
decreases-loop-i l = l.j - l.i
