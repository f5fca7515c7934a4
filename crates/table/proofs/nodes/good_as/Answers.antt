-- `table::nodes::good_as` meets its contract: the argument is small enough, and the sizes of the parts add up.
use mathlib.Core.Path.{refl, ◌∙◌}
use native.Mathlib.Omega.{arith}
use borrow.Author.Tests.{le-ltb}
use Rattle.table.proofs.Judged.{as_head, bad_argument, as_laid}
use Rattle.table.proofs.nodes.good_as.Goals as goal

-- argument_at(table, i) < limit_of(k, m, v) && laid
pub returns-then-argument_at-limit_of : goal.returns-then-argument_at-limit_of
returns-then-argument_at-limit_of c =
    let F = c.requires.framed in
    let limit = c.limit_of.ensures c.args.table.now F.m_is F.v_is in
    let headed = as_head c.args.table.now c.args.i c.args.k c.requires.head_is limit refl in
    c.requires.laid_is ∙ as_laid c.requires.within headed (rw c.argument_at.ensures.0 at c.if-argument_at-limit_of.true)

pub returns-else-argument_at-limit_of : goal.returns-else-argument_at-limit_of
returns-else-argument_at-limit_of c =
    let F = c.requires.framed in
    let limit = c.limit_of.ensures c.args.table.now F.m_is F.v_is in
    let headed = as_head c.args.table.now c.args.i c.args.k c.requires.head_is limit refl in
    let above = c.if-argument_at-limit_of.false in
    le-ltb _ _ (omega arith) ∙ bad_argument c.requires.within headed (omega (arith, c.argument_at.ensures.0))
