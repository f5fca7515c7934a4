-- All nodes from i up to `near` have been looked at, two by two.
use Prim.Native.Nat.{◌+◌, ◌-◌}
use mathlib.Core.Path.{◌≡◌}
use native.Mathlib.Omega.{arith}
use borrow.Author.Rules.{rules}
use Rattle.state.specs.Resting.{zero_node}
use Rattle.state.proofs.Zeros.{two_zero, two_not_zero}
use Rattle.state.proofs.Firsts.{hold_more}
use Rattle.state.proofs.resting.zero_twos.Goals as goal

-- return i;
pub returns-then-two_at-ne0 : goal.returns-then-two_at-ne0
returns-then-two_at-ne0 c =
    let e : c.loop-i.i - 2 + 1 ≡ c.loop-i.i - 1 = omega arith in
    record {
      within = c.loop-i.invariant.0;
      zero = c.loop-i.invariant.1;
      not_both = λ h z. two_not_zero _ (c.loop-i.i - 2) _ c.two_at.ensures c.if-two_at-ne0.true (rw e z);
    }

-- while 1 < i {
pub loop-i-preserved : goal.loop-i-preserved
loop-i-preserved c =
    let Z = zero_node c.args.state.now in
    let e : c.loop-i.i - 2 + 1 + 1 ≡ c.loop-i.i = omega arith in
    let (a, b) = two_zero c.args.state.now (c.loop-i.i - 2) c.two_at.result c.two_at.ensures c.if-two_at-ne0.false in
    (search rules, hold_more Z (c.loop-i.i - 2) c.args.near a (hold_more Z (c.loop-i.i - 2 + 1) c.args.near b (rw e c.loop-i.invariant.1)))

-- i
pub returns : goal.returns
returns c =
    record { within = c.loop-i.invariant.0; zero = c.loop-i.invariant.1; not_both = λ h. absurd (omega arith) }

pub loop-i-init : goal.loop-i-init
loop-i-init c = (search rules, λ k a b. absurd (omega arith))
