-- The bytes of nodes copied, four at a time.
use Prim.Native.Nat.{◌+◌, ◌-◌, ◌*◌, ◌≤◌}
use mathlib.Core.Path.{◌≡◌}
use Rattle.steps.specs.Parking.{Copied}
use Rattle.steps.proofs.parking.copy_nodes.Given as goal

abbrev pub invariant-loop-node : goal.invariant-loop-node
invariant-loop-node l = (l.node ≤ l.nodes) × (l.at ≡ l.to + 4 * l.node) × Copied l.from l.to l.node l.initial.pass l.pass

abbrev pub decreases-loop-node : goal.decreases-loop-node
decreases-loop-node l = l.nodes - l.node
