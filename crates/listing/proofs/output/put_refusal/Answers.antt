-- `put_refusal` meets its contract: three fields.
use mathlib.Core.List.{[], ◌∷◌}
use native.Mathlib.Omega.{arith}
use Rattle.letters.specs.Decimal.{decimal}
use Rattle.letters.specs.Text.{bytes}
use Rattle.letters.proofs.Decimal.{decimal_length}
use Rattle.letters.proofs.Writes.{writes_end, number_ends}
use Rattle.listing.proofs.Lines.{writes_field, writes_last}
use Rattle.listing.proofs.output.put_refusal.Goals as goal

pub number-requires : goal.number-requires
number-requires c = omega (arith, writes_end c.text.ensures, c.text.ensures.long, decimal_length 19 c.args.refusal (omega arith))

pub number-requires-2 : goal.number-requires-2
number-requires-2 c =
    omega (
      arith,
      writes_end c.text.ensures,
      c.text.ensures.long,
      number_ends 19 c.args.refusal 32 (omega arith) c.number.ensures,
      c.number.ensures.long,
      decimal_length 19 c.args.index (omega arith),
    )

pub returns : goal.returns
returns c =
    let refusal = decimal c.args.refusal in
    let index = decimal c.args.index in
    writes_field (bytes "refused") refusal (index ∷ []) c.text.ensures
    (writes_field refusal index [] c.number.ensures (writes_last index c.number-2.ensures))
