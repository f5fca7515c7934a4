-- Each test of a body in turn.
use mathlib.Core.Path.{sym, ◌∙◌}
use native.Mathlib.Omega.{arith}
use borrow.Author.Tests.{ne_eqb}
use Rattle.table.specs.declared.kinds.Kind.TheVariants.{Freezable}
use Rattle.table.proofs.Subtrees.{rooted, known_at}
use Rattle.state.proofs.ByNumber.{named, another}
use Rattle.store.proofs.Tests.{no_body_first, no_body_past, no_body_kind, no_body_event, body_by_way}
use borrow.Author.Rules.{rules}
use Rattle.store.proofs.good.is_body.Goals as goal

-- return false;
pub returns-then-j-eq0 : goal.returns-then-j-eq0
returns-then-j-eq0 c =
    rw c.if-j-eq0.true (sym (no_body_first c.args.table.now c.args.event))

-- return false;
pub returns-then-word_at-j : goal.returns-then-word_at-j
returns-then-word_at-j c =
    let A = c.args in
    sym (no_body_past A.table.now A.event A.j (omega (arith, c.word_at.ensures.0)))

-- match kind_of(table, j - 1) {
pub kind_of-requires-clause-known_kind : goal.kind_of-requires-clause-known_kind
kind_of-requires-clause-known_kind c = known_at (rooted c.requires.0) _ (omega (arith, c.word_at.ensures.0))

-- _ => false,
pub returns-in_default : goal.returns-in_default
returns-in_default c =
    let A = c.args in
    sym (no_body_kind A.table.now A.event A.j (another Freezable c.kind_of.ensures c.in_default.not-Freezable))

-- Kind::Freezable => argument_at(table, j - 1) == event && way_free(table, ways, j),
pub returns-else-argument_at-event : goal.returns-else-argument_at-event
returns-else-argument_at-event c =
    let A = c.args in
    ne_eqb _ _ c.if-argument_at-event.false
    ∙ sym (no_body_event A.table.now A.event A.j (λ e. c.if-argument_at-event.false (c.argument_at.ensures.0 ∙ e)))

pub returns-then-argument_at-event : goal.returns-then-argument_at-event
returns-then-argument_at-event c =
    let A = c.args in
    c.way_free.ensures
    ∙ sym (body_by_way A.table.now A.event A.j (search rules) (omega (arith, c.word_at.ensures.0)) (named c.kind_of.ensures Freezable c.in-Freezable.is)
    (sym c.argument_at.ensures.0 ∙ c.if-argument_at-event.true))
