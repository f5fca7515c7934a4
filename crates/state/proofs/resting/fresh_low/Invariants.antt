-- All nodes up to `at` rest.
use Prim.Native.Nat.{◌-◌, ◌≤◌}
use Rattle.state.specs.Resting.{rests}
use Rattle.state.proofs.Firsts.{Hold}
use Rattle.state.proofs.resting.fresh_low.Given as goal

abbrev pub invariant-loop-at : goal.invariant-loop-at
invariant-loop-at l = (l.i ≤ l.at) × (l.at ≤ l.near) × Hold (rests l.table l.state) l.i l.at

abbrev pub decreases-loop-at : goal.decreases-loop-at
decreases-loop-at l = l.near - l.at
