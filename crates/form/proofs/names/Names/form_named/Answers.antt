-- `form_named` meets its contract: no form below k is named, and k is looked at next.
use Prim.Native.Nat.{◌<◌, ◌≤◌}
use mathlib.Core.Path.{◌≡◌, refl, sym, ◌∙◌}
use native.Mathlib.Numerals.{add-one}
use native.Mathlib.Omega.{arith}
use Rattle.form.specs.Inside.Rows.{form_count, form_in}
use Rattle.form.proofs.Rows.{form_here, form_next, form_none}
use Rattle.form.proofs.names.Names.form_named.Goals as goal

pub loop-k-init : goal.loop-k-init
unfolding form_in
loop-k-init c = refl

pub returns-then-is_named : goal.returns-then-is_named
returns-then-is_named c =
    let h : c.loop-k.k < form_count = omega arith in
    (sym (c.loop-k.invariant ∙ form_here c.args.text.now c.loop-k.k h (sym c.is_named.ensures ∙ c.if-is_named.true)), h)

pub loop-k-preserved : goal.loop-k-preserved
loop-k-preserved c =
    let h : c.loop-k.k < form_count = omega arith in
    simp add-one (c.loop-k.invariant ∙ form_next c.args.text.now c.loop-k.k h (sym c.is_named.ensures ∙ c.if-is_named.false))

pub returns : goal.returns
returns c =
    let h : form_count ≤ c.loop-k.k = omega arith in
    let e : c.loop-k.k ≡ form_count = omega arith in
    c.loop-k.invariant ∙ form_none c.args.text.now c.loop-k.k h ∙ e
