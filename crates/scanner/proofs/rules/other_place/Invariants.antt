-- `other_place` meets its contract: row by row.
use Prim.Native.Nat.{◌-◌}
use mathlib.Core.Path.{◌≡◌}
use Rattle.form.specs.Inside.Rows.{form_row, form_count, place_from}
use Rattle.scanner.proofs.rules.other_place.Given as goal

abbrev pub invariant-loop-row : goal.invariant-loop-row
invariant-loop-row l = place_from form_count (form_row 0) l.pc l.b ≡ place_from (form_row form_count - l.row) l.row l.pc l.b
