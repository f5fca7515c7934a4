-- `back_to_acting` meets its contract: all bytes that it has gone over are idle.
use Rattle.builder.specs.Building.{Idle}
use Rattle.builder.proofs.build.back_to_acting.Given as goal

abbrev pub invariant-loop-i : goal.invariant-loop-i
invariant-loop-i l = Idle l.text l.i l.from
