-- `ends_name` meets its contract: the tests are those of the definition.
use mathlib.Core.Path.{refl}
use Rattle.form.specs.Inside.Rows.{ends_name}
use Rattle.form.proofs.names.ends_name.Goals as goal

pub returns : goal.returns
unfolding ends_name
returns c = refl
