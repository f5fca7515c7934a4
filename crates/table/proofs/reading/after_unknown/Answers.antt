-- `table::reading::after_unknown` meets its contract.
use borrow.Author.Rules.{rules}
use mir.Syntax.{w64}
use mir.Val.{Fits}
use native.Mathlib.Omega.{arith}
use Rattle.table.proofs.OpenLevels.{unsettled_digit, unknown_all, unknown_next}
use Rattle.table.proofs.reading.after_unknown.Goals as goal

pub returns-then-left-eq2 : goal.returns-then-left-eq2
returns-then-left-eq2 c t o h = unknown_all h (c.leave_unknown-left.ensures o h.number) c.if-left-eq2.true

pub overflow_add-result : goal.overflow_add-result
overflow_add-result c =
    let left = c.leave_unknown-left in
    let f : Fits w64 left.result = search rules in
    let e = left.ensures c.requires.0 c.requires.1 in
    record { fits = omega (arith, e, f.fits, unsettled_digit c.requires.0) }

pub returns : goal.returns
returns c t o h = unknown_next h (c.leave_unknown-left.ensures o h.number) c.if-left-eq2.false
