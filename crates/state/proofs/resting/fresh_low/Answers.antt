-- All nodes up to `at` rest.
use mathlib.Core.Path.{◌≡◌, sym, ◌∙◌}
use native.Mathlib.Omega.{arith}
use borrow.Author.Rules.{rules}
use Rattle.table.proofs.Subtrees.{starts}
use Rattle.state.specs.Resting.{rests}
use Rattle.state.proofs.Firsts.{hold_one, hold_join, first_later}
use Rattle.state.proofs.Near.{judging}
use Rattle.state.proofs.Fresh.{at_in, on_past, at_rests}
use Rattle.state.proofs.resting.fresh_low.Goals as goal

-- while at < near {
pub loop-at-smaller-then-end-near : goal.loop-at-smaller-then-end-near
loop-at-smaller-then-end-near c =
    let j = c.requires.judged in
    omega (arith, c.end-end.ensures, starts j.rooted c.loop-at.at (at_in j c.loop-at.at c.loop-at.invariant.0 (search rules)))

pub loop-at-preserved-then-end-near : goal.loop-at-preserved-then-end-near
loop-at-preserved-then-end-near c =
    (search rules, c.if-end-near.true, on_past c.requires.judged c.loop-at.at c.loop-at.invariant.0 (search rules) _ c.end-end.ensures c.if-end-near.true c.loop-at.invariant.2)

-- let node = Node {
pub invariant_of-node : goal.invariant_of-node
invariant_of-node c = record { judging = judging c.requires.judged c.loop-at.at c.loop-at.invariant.0 (search rules) }

-- if node.fresh_rests() {
pub fresh_rests-requires : goal.fresh_rests-requires
fresh_rests-requires c = rw c.end-end.ensures at c.if-end-near.false

-- while at < near {
pub loop-at-preserved : goal.loop-at-preserved
loop-at-preserved c =
    let R = rests c.args.table.now c.args.state.now in
    let e = at_rests c.requires.judged c.loop-at.at c.loop-at.invariant.0 (search rules) in
    (search rules, search rules, hold_join R _ c.loop-at.at _ c.loop-at.invariant.2 (hold_one R c.loop-at.at (e ∙ sym c.fresh_rests.ensures ∙ c.if-fresh_rests.true)))

-- return at;
pub returns-in-loop-at : goal.returns-in-loop-at
returns-in-loop-at c =
    let j = c.requires.judged in
    let e = at_rests j c.loop-at.at c.loop-at.invariant.0 (search rules) in
    record { from = c.loop-at.invariant.0; within = omega arith; before = c.loop-at.invariant.2; there = λ z. e ∙ sym c.fresh_rests.ensures ∙ c.if-fresh_rests.false }

-- low
pub returns : goal.returns
returns c =
    let A = c.args in
    let e : c.loop-at.at ≡ A.near = search rules in
    first_later (rests A.table.now A.state.now) A.i A.near _ _ c.requires.judged.nearest.from (rw e at c.loop-at.invariant.2) c.requires.blamed

pub loop-at-init : goal.loop-at-init
loop-at-init c = (search rules, c.requires.judged.nearest.from, λ k a b. absurd (omega arith))
