-- `literal` meets its contract: a code stands in the table.
use mathlib.Core.Path.{◌∙◌}
use Rattle.form.proofs.NamesRead.{in_names}
use Rattle.scanner.proofs.rules.literal.Goals as goal

pub other-requires : goal.other-requires
other-requires c = record { in_the_table = in_names c.args.pc (λ e. c.if-x-eq0.false (c.code-x.ensures ∙ e)) }
