-- `other_place` meets its contract: row by row.
use Prim.Native.Nat.{◌<◌, ◌≤◌}
use mathlib.Core.Path.{refl, sym, ◌∙◌}
use native.Mathlib.Numerals.{add-one}
use native.Mathlib.Omega.{arith}
use Rattle.form.specs.Inside.Rows.{form_row, form_count}
use Rattle.scanner.proofs.RowSearch.{place_here, place_next, place_none}
use Rattle.scanner.proofs.rules.other_place.Goals as goal

pub loop-row-init : goal.loop-row-init
loop-row-init c = refl

-- return Some(ROW * row + pc % ROW);
pub returns-then-goes_on : goal.returns-then-goes_on
returns-then-goes_on c =
    let h : c.loop-row.row < form_row form_count = omega arith in
    let e = c.loop-row.invariant ∙ place_here c.args.pc c.args.b c.loop-row.row h (sym c.goes_on.ensures ∙ c.if-goes_on.true) in
    (sym e, omega arith, omega arith)

pub loop-row-preserved : goal.loop-row-preserved
loop-row-preserved c =
    let h : c.loop-row.row < form_row form_count = omega arith in
    simp add-one (c.loop-row.invariant ∙ place_next c.args.pc c.args.b c.loop-row.row h (sym c.goes_on.ensures ∙ c.if-goes_on.false))

-- None
pub returns : goal.returns
returns c =
    let h : form_row form_count ≤ c.loop-row.row = omega arith in
    c.loop-row.invariant ∙ place_none c.args.pc c.args.b c.loop-row.row h
