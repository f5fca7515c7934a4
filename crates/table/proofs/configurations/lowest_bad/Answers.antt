-- `table::configurations::lowest_bad` meets its contract: all before j are good.
use mathlib.Core.Path.{sym, ◌∙◌}
use native.Mathlib.Omega.{arith}
use borrow.Author.Count.{below_more}
use Rattle.table.specs.Good.{good_configuration}
use Rattle.table.proofs.Lowest.{lowest_bad}
use Rattle.table.proofs.OwnBytes.{framed_begins}
use Rattle.table.proofs.configurations.lowest_bad.Goals as goal

-- if !good(table, v, 6 * n + 4 * j) {
pub good-requires : goal.good-requires
good-requires c =
    record { some_begins = (_, framed_begins c.requires c.loop-j-test.true); v_is = (c.requires.v_is, c.requires.v_most) }

pub loop-j-preserved : goal.loop-j-preserved
loop-j-preserved c =
    let b = framed_begins c.requires c.loop-j-test.true in
    below_more _ _ c.loop-j.invariant (sym (c.good.ensures _ b) ∙ c.if-not-good.false)

pub returns-then-not-good : goal.returns-then-not-good
returns-then-not-good c =
    let m_is = c.requires.m_is in
    let l = c.loop-j-test.true in
    let b = framed_begins c.requires l in
    let bad = sym (c.good.ensures _ b) ∙ c.if-not-good.true in
    (omega arith, lowest_bad (good_configuration c.args.table.now) _ _ (omega arith) c.loop-j.invariant (λ h. bad))

pub returns : goal.returns
returns c k h =
    let m_is = c.requires.m_is in
    c.loop-j.invariant k (omega arith)
