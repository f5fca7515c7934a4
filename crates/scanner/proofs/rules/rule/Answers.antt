-- `rule` meets its contract: a code stands in the table.
use native.Mathlib.Omega.{arith}
use Rattle.form.proofs.NamesRead.{in_names}
use Rattle.scanner.proofs.rules.rule.Goals as goal

pub symbol-requires : goal.symbol-requires
symbol-requires c = record { in_the_table = in_names c.args.pc (λ e. omega (arith, c.code-x.ensures, c.if-x-lt-PROGRAM.false, e)) }
