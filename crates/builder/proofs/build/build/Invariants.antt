-- `build` meets its contract: before byte i the table holds what the bytes from there on place.
use Rattle.builder.proofs.BuiltWhole.{Under}
use Rattle.builder.proofs.build.build.Given as goal

abbrev pub invariant-loop-i : goal.invariant-loop-i
invariant-loop-i l = Under l.text l.n l.m l.table l.levels l.front l.depth l.i

abbrev pub decreases-loop-i : goal.decreases-loop-i
decreases-loop-i l = l.i
