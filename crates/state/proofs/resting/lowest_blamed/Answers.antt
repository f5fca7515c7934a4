-- `near` has a byte other than zero or is the end, and `low` is the lowest blamed from there on.
use Prim.Native.Nat.{◌+◌, ◌-◌}
use mathlib.Core.Path.{◌≡◌}
use native.Mathlib.Omega.{arith}
use borrow.Author.Rules.{rules}
use Rattle.table.specs.Records.{size_at}
use Rattle.state.specs.Resting.{zero_node, rests}
use Rattle.state.proofs.Firsts.{first_here}
use Rattle.state.proofs.Near.{own_size_lem, judged}
use Rattle.state.proofs.resting.lowest_blamed.Goals as goal

-- while 0 < near {
pub loop-near-init : goal.loop-near-init
loop-near-init c =
    let A = c.args in
    let whole = c.requires.rooted.whole in
    let N = size_at A.table.now 0 in (
      first_here (zero_node A.state.now) A.n N (omega arith) (λ h. absurd (omega arith)),
      first_here (rests A.table.now A.state.now) A.n N (omega arith) (λ h. absurd (omega arith)),
    )

-- low = fresh_low(table, state, from, near, low);
pub fresh_low-low-requires : goal.fresh_low-low-requires
fresh_low-low-requires c =
    record { judged = judged c.args.state.now (own_size_lem c.requires.rooted) (rw (← c.requires.rooted.whole) at c.requires.state_long) c.loop-near.invariant.0 c.zero_from-from.ensures; blamed = c.loop-near.invariant.1 }

-- return low;
pub returns-then-from-eq0 : goal.returns-then-from-eq0
returns-then-from-eq0 c = rw c.if-from-eq0.true at c.fresh_low-low.ensures

-- low = begun_low(table, state, from - 1, near, low);
pub begun_low-low-requires : goal.begun_low-low-requires
begun_low-low-requires c =
    let z = c.zero_from-from.ensures in
    let e : c.zero_from-from.result - 1 + 1 ≡ c.zero_from-from.result = omega arith in
    let j = judged c.args.state.now (own_size_lem c.requires.rooted) (rw (← c.requires.rooted.whole) at c.requires.state_long) c.loop-near.invariant.0 z in
    record { judging = (record { inside = omega (arith, z.within); behind = rw e j }, z.first (omega arith)); blamed = rw e c.fresh_low-low.ensures }

-- while 0 < near {
pub loop-near-preserved : goal.loop-near-preserved
loop-near-preserved c =
    let z = c.zero_from-from.ensures in
    (first_here (zero_node c.args.state.now) (c.zero_from-from.result - 1) _ (omega (arith, z.within)) (λ h. z.first (omega arith)), c.begun_low-low.ensures)

-- low
pub returns : goal.returns
returns c =
    let e : c.loop-near.near ≡ 0 = search rules in
    rw e at c.loop-near.invariant.1
