-- `write_refused` meets its contract: the number, and the refusal.
use mathlib.Core.List.{[], ◌∷◌}
use native.Mathlib.Omega.{arith}
use Rattle.std.proofs.lemmas.Grind.{common_steps}
use Rattle.letters.specs.Decimal.{decimal}
use Rattle.letters.specs.Text.{bytes}
use Rattle.letters.proofs.Decimal.{decimal_length}
use Rattle.letters.proofs.Writes.{number_ends}
use Rattle.listing.specs.Output.{refused_line}
use Rattle.listing.proofs.Room.{refused_fits}
use Rattle.listing.proofs.Lines.{writes_field, written, unwritten}
use Rattle.listing.proofs.write_refused.Goals as goal

-- out.number(number, b' ');
pub number-requires : goal.number-requires
number-requires c = omega (arith, decimal_length 19 c.args.number (omega arith))

pub put_refusal-requires : goal.put_refusal-requires
put_refusal-requires c = omega (arith, c.number.ensures.long, number_ends 19 c.args.number 32 (omega arith) c.number.ensures)

pub returns : goal.returns
unfolding refused_line
returns c =
    let refusal = decimal c.args.refusal ∷ decimal c.args.index ∷ [] in
    let all = writes_field (decimal c.args.number) (bytes "refused") refusal c.number.ensures c.put_refusal.ensures in
    written (refused_fits c.args.number c.args.refusal c.args.index (omega arith) (omega arith) (omega arith)) (omega arith) (grind (arith, common_steps, all.puts, all.same_room))
