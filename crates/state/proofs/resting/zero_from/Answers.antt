-- One node before the zeros found two by two may be zero too.
use Prim.Native.Nat.{◌+◌, ◌-◌}
use mathlib.Core.Path.{◌≡◌, sym, ◌∙◌}
use native.Mathlib.Omega.{arith}
use Rattle.state.specs.Resting.{zero_node}
use Rattle.state.proofs.Firsts.{hold_more}
use Rattle.state.proofs.resting.zero_from.Goals as goal

-- return 0;
pub returns-then-i-eq0 : goal.returns-then-i-eq0
returns-then-i-eq0 c =
    record { within = omega arith; zero = rw c.if-i-eq0.true at c.zero_twos-i.ensures.zero; first = λ h. absurd (omega arith) }

-- return i;
pub returns-then-not-zero_node : goal.returns-then-not-zero_node
returns-then-not-zero_node c =
    record {
      within = c.zero_twos-i.ensures.within;
      zero = c.zero_twos-i.ensures.zero;
      first = λ h. sym c.zero_node.ensures ∙ c.if-not-zero_node.true;
    }

-- i - 1
pub returns : goal.returns
returns c =
    let f = c.zero_twos-i.ensures in
    let i = c.zero_twos-i.result in
    let e : i - 1 + 1 ≡ i = omega arith in
    let d : i - 1 - 1 ≡ i - 2 = omega arith in
    let z = sym c.zero_node.ensures ∙ c.if-not-zero_node.false in
    record {
      within = omega (arith, f.within);
      zero = hold_more (zero_node c.args.state.now) (i - 1) c.args.near z (rw e f.zero);
      first = λ h. rw d (f.not_both (omega arith) z);
    }
