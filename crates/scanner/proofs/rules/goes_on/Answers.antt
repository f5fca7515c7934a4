-- `goes_on` meets its contract: the byte, then the letters before it.
use Prim.Native.Nat.{◌+◌, ◌%◌}
use mathlib.Core.Path.{refl, sym, ◌∙◌}
use native.Mathlib.Omega.{arith}
use borrow.Author.Tests.{eq-eqb, ne_eqb}
use Rattle.form.specs.Inside.Rows.{row_at, code_at}
use Rattle.scanner.proofs.rules.goes_on.Goals as goal

-- return same_codes(names, pc - column, ROW * row, column);
pub same_codes-requires : goal.same_codes-requires
same_codes-requires c =
    record { in_the_table = (omega arith, omega arith) }

pub returns-then-b-code : goal.returns-then-b-code
returns-then-b-code c =
    rw (eq-eqb c.args.b (code_at (row_at c.args.row + c.args.pc % 20)) (c.if-b-code.true ∙ c.code.ensures)) c.same_codes.ensures

-- fn goes_on
pub returns : goal.returns
returns c =
    rw (ne_eqb c.args.b (code_at (row_at c.args.row + c.args.pc % 20)) (λ e. c.if-b-code.false (e ∙ sym c.code.ensures))) refl
