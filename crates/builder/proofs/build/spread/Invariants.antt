-- `spread` meets its contract: the nodes looked at so far have the kind, and the next one stands where the last one's first part ends.
use Prim.Native.Nat.{◌-◌}
use lib.ListN.{length}
use Rattle.builder.proofs.LabelsSpread.{Spreading}
use Rattle.builder.proofs.build.spread.Given as goal

abbrev pub invariant-loop-at : goal.invariant-loop-at
invariant-loop-at l = Spreading l.kind l.initial.nodes l.nodes l.at

abbrev pub decreases-loop-at : goal.decreases-loop-at
decreases-loop-at l = length l.nodes - l.at
