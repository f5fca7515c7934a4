-- `hex_digit` meets its contract, range by range.
use native.Mathlib.Omega.{arith}
use Rattle.calls.proofs.Digits.{figure_of_digit, figure_of_letter, no_figure}
use Rattle.calls.proofs.reading.hex_digit.Goals as goal

pub returns-in-48-to-57 : goal.returns-in-48-to-57
returns-in-48-to-57 c = figure_of_digit c.args.byte (omega arith) (omega arith)

pub returns-in-97-to-102 : goal.returns-in-97-to-102
returns-in-97-to-102 c = figure_of_letter c.args.byte (omega arith) (omega arith)

pub returns-in_default : goal.returns-in_default
returns-in_default c = no_figure c.args.byte (λ h k. omega arith) (λ h k. omega arith)

pub returns-in_default-2 : goal.returns-in_default-2
returns-in_default-2 c = no_figure c.args.byte (λ h k. omega arith) (λ h k. omega arith)

pub returns-in_default-3 : goal.returns-in_default-3
returns-in_default-3 c = no_figure c.args.byte (λ h k. omega arith) (λ h k. omega arith)
