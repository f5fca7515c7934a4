-- `write_table_refused` meets its contract: one more field, and the refusal.
use mathlib.Core.List.{[], ◌∷◌}
use native.Mathlib.Omega.{arith}
use Rattle.std.proofs.lemmas.Grind.{common_steps}
use Rattle.letters.specs.Decimal.{decimal}
use Rattle.letters.specs.Text.{bytes}
use Rattle.letters.proofs.Writes.{writes_end}
use Rattle.listing.specs.Output.{table_refused_line}
use Rattle.listing.proofs.Room.{table_refused_fits}
use Rattle.listing.proofs.Lines.{writes_field, written, unwritten}
use Rattle.listing.proofs.write_table_refused.Goals as goal

pub returns : goal.returns
unfolding table_refused_line
returns c =
    let refusal = decimal c.args.refusal ∷ decimal c.args.index ∷ [] in
    let all = writes_field (bytes "table") (bytes "refused") refusal c.text.ensures c.put_refusal.ensures in
    written (table_refused_fits c.args.refusal c.args.index (omega arith) (omega arith)) (omega arith) (grind (arith, common_steps, all.puts, all.same_room))
