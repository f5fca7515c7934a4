-- All nodes from i up to `near` have been looked at, two by two.
use Prim.Native.Nat.{◌≤◌}
use Rattle.state.specs.Resting.{zero_node}
use Rattle.state.proofs.Firsts.{Hold}
use Rattle.state.proofs.resting.zero_twos.Given as goal

abbrev pub invariant-loop-i : goal.invariant-loop-i
invariant-loop-i l = (l.i ≤ l.near) × Hold (zero_node l.state) l.i l.near

abbrev pub decreases-loop-i : goal.decreases-loop-i
decreases-loop-i l = l.i
