-- `write_bad` meets its contract: two fields.
use mathlib.Core.List.{[]}
use native.Mathlib.Omega.{arith}
use Rattle.std.proofs.lemmas.Grind.{common_steps}
use Rattle.letters.specs.Decimal.{decimal}
use Rattle.letters.specs.Text.{bytes}
use Rattle.letters.proofs.Decimal.{decimal_length}
use Rattle.letters.proofs.Writes.{number_ends}
use Rattle.listing.specs.Output.{bad_line}
use Rattle.listing.proofs.Room.{bad_fits}
use Rattle.listing.proofs.Lines.{writes_field, writes_last, written, unwritten}
use Rattle.listing.proofs.write_bad.Goals as goal

-- out.number(number, b' ');
pub number-requires : goal.number-requires
number-requires c = omega (arith, decimal_length 19 c.args.number (omega arith))

-- out.text(b"bad-line\n");
pub text-requires : goal.text-requires
text-requires c = omega (arith, c.number.ensures.long, number_ends 19 c.args.number 32 (omega arith) c.number.ensures)

pub returns : goal.returns
unfolding bad_line
returns c =
    let all = writes_field (decimal c.args.number) (bytes "bad-line") [] c.number.ensures (writes_last (bytes "bad-line") c.text.ensures) in
    written (bad_fits c.args.number (omega arith)) (omega arith) (grind (arith, common_steps, all.puts, all.same_room))
