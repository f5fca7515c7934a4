-- `is_named` meets its contract: what is left of the text is held to what is left of the row.
use borrow.Author.Rules.{rules}
use mathlib.Core.Path.{◌≡◌, sym, ◌∙◌}
use mathlib.Core.Logic.{inl, inr}
use Rattle.form.specs.Inside.Rows.{named}
use Rattle.form.proofs.Rows.{starts_over, starts_out, starts_not, starts_ends, starts_on}
use Rattle.form.proofs.names.Names.is_named.Goals as goal

pub loop-x-init : goal.loop-x-init
unfolding named
loop-x-init c =
    let a : c.into_iter-x-iterator.result.a.rest.now ≡ c.from_row.result.now = search rules in
    let b : c.into_iter-x-iterator.result.b.rest.now ≡ c.args.text.now = search rules in
    rw (a, b, c.from_row.ensures)

pub returns-then-b-x : goal.returns-then-b-x
returns-then-b-x c =
    let e = c.in-Some.ensures.steps in
    sym (c.loop-x.invariant ∙ (rw (e.0, e.1) (starts_not _ _ _ _ c.if-b-x.true)))

pub returns-then-ends_name : goal.returns-then-ends_name
returns-then-ends_name c =
    let e = c.in-Some.ensures.steps in
    sym (c.loop-x.invariant ∙ (rw (e.0, e.1) (starts_ends _ _ _ _ c.if-b-x.false (sym c.ends_name.ensures ∙ c.if-ends_name.true))))

pub loop-x-preserved : goal.loop-x-preserved
loop-x-preserved c =
    let e = c.in-Some.ensures.steps in
    c.loop-x.invariant ∙ (rw (e.0, e.1) (starts_on _ _ _ _ c.if-b-x.false (sym c.ends_name.ensures ∙ c.if-ends_name.false)))

pub returns : goal.returns
returns c =
    sym (c.loop-x.invariant ∙ elim c.in-None.ensures.steps [
      | inl e ↦ starts_over c.loop-x.x-iterator.a.rest.now c.loop-x.x-iterator.b.rest.now e.1.0
      | inr e ↦ starts_out c.loop-x.x-iterator.a.rest.now c.loop-x.x-iterator.b.rest.now e.1.0
    ])
