-- `digit_value` meets its contract.
use Rattle.form.proofs.Digits.{value_told}
use Rattle.form.proofs.digit_value.Goals as goal

pub returns : goal.returns
returns c = value_told c.args.b c.digit.result c.digit.ensures
