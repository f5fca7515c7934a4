-- The nodes looked at are zero.
use Prim.Native.Nat.{ℕ, ◌≤◌, ◌<◌}
use mathlib.Core.Bool.{true}
use mathlib.Core.Path.{◌≡◌}
use Rattle.state.specs.Resting.{zero_node}
use Rattle.state.proofs.resting.zero_nodes.Given as goal

abbrev pub invariant-loop-i : goal.invariant-loop-i
invariant-loop-i l = (k : ℕ) → l.a ≤ k → k < l.i → zero_node l.state k ≡ true
