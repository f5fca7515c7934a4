-- `digit` meets its contract: the bytes from 48 to 57 are digits.
use native.Mathlib.Omega.{arith}
use Rattle.letters.proofs.Decimal.{figure_of_digit, no_figure}
use Rattle.letters.proofs.digit.Goals as goal

pub returns-in-48-to-57 : goal.returns-in-48-to-57
returns-in-48-to-57 c = figure_of_digit c.args.byte (omega arith) (omega arith)

pub returns-in_default : goal.returns-in_default
returns-in_default c = no_figure c.args.byte (λ h k. omega arith)

pub returns-in_default-2 : goal.returns-in_default-2
returns-in_default-2 c = no_figure c.args.byte (λ h k. omega arith)
