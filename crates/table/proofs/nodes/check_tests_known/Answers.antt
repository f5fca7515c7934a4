-- `table::nodes::check_tests_known` meets its contract: from the last node to i all are good and wait; then height, Loops, figures.
use mathlib.Core.Path.{refl, ◌∙◌}
use native.Mathlib.Omega.{arith}
use Rattle.table.proofs.Answers.{row_deep, endless_answer, weight_answer}
use Rattle.table.proofs.Swept.{swept_none, ready, swept_more, all_seen, whole_weighs, lowest_endless}
use Rattle.table.proofs.nodes.check_tests_known.Goals as goal

-- for i in (0..n).rev() {
pub loop-i-init : goal.loop-i-init
loop-i-init c = (swept_none _ _ _ c.requires.sized_whole.framed.n_is c.requires.roomy, refl)

-- let Some(now) = place(table, m, v, i, early, row, &mut endless, top) else {
pub place-requires-clause-to_place : goal.place-requires-clause-to_place
place-requires-clause-to_place c =
    let P = c.requires.sized_whole in
    rw P.framed.n_is at (ready c.loop-i.invariant.0 c.loop-i-test.true P)

-- return Err(refused(table, n, m, v));
pub refused-requires-clause-too_deep : goal.refused-requires-clause-too_deep
refused-requires-clause-too_deep c g =
    let P = c.requires.sized_whole in
    let seen = c.loop-i.invariant.0.within in
    row_deep P g _ (omega arith) (c.in_default.ensures (g.good _ (omega arith)))

pub loop-i-preserved : goal.loop-i-preserved
loop-i-preserved c =
    let placed = c.in-Some.ensures in
    let n_is = c.requires.sized_whole.framed.n_is in
    (swept_more c.loop-i.invariant.0 c.loop-i-test.true n_is placed, placed.long_row ∙ c.loop-i.invariant.1)

pub refused-requires-then-x-gt64-clause-too_deep : goal.refused-requires-then-x-gt64-clause-too_deep
refused-requires-then-x-gt64-clause-too_deep c g =
    let x = (whole_weighs c.requires.sized_whole c.loop-i.invariant.0 c.loop-i-test.false).height_is in
    let above = c.if-x-gt64.true in
    omega arith

-- return Err(TableRefusal::EndlessLoop(endless));
pub returns-then-endless-n : goal.returns-then-endless-n
returns-then-endless-n c =
    let P = c.requires.sized_whole in
    let S = c.loop-i.invariant.0 in
    let x = (whole_weighs P S c.loop-i-test.false).height_is in
    let k = c.if-x-gt64.false in
    let n_is = P.framed.n_is in
    let l = c.if-endless-n.true in
    let low = lowest_endless P S c.loop-i-test.false in
    endless_answer P (all_seen P S c.loop-i-test.false) (omega arith) _ low (omega arith)

-- weighed(x)
pub returns : goal.returns
returns c =
    let P = c.requires.sized_whole in
    let S = c.loop-i.invariant.0 in
    let x = whole_weighs P S c.loop-i-test.false in
    let k = c.if-x-gt64.false in
    let n_is = P.framed.n_is in
    let l = c.if-endless-n.false in
    let low = lowest_endless P S c.loop-i-test.false in
    c.weighed.ensures ∙ weight_answer P (all_seen P S c.loop-i-test.false) (omega arith) _ low (omega arith) _ x
