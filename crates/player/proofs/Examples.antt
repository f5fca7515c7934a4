-- The examples of specs/Examples.antt.
use mathlib.Core.Path.{refl}
use Rattle.letters.specs.Decimal.{decimal}
use Rattle.letters.specs.Text.{led, joined}
use Rattle.junior.specs.Program.{kind}
use Rattle.form.specs.Names.{opening}
use Rattle.form.specs.Spelling.{spell_test}
use Rattle.listing.specs.Output.{line}
use Rattle.printer.specs.Outline.{outline}
use Rattle.player.specs.Waiting.{waits_line}
use Rattle.player.specs.Examples.{Examples}

pub examples : Examples
unfolding waits_line line joined led outline decimal kind opening spell_test
examples = record { await_shown = refl; when_shown = refl; until_shown = refl; control_shown = refl }
