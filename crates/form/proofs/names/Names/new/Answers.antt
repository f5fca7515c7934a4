-- The bytes in the code are those that the table says.
use mathlib.Core.Path.{refl}
use Rattle.form.specs.Inside.Rows.{names}
use Rattle.form.proofs.names.Names.new.Goals as goal

pub invariant_of-result : goal.invariant_of-result
unfolding names
invariant_of-result c = record { the_names = refl }
