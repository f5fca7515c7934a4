-- `put_atoms` meets its contract: the first atoms are written, a comma behind each.
use mathlib.Core.Path.{◌≡◌, refl}
use native.Mathlib.Omega.{arith}
use lib.ListN.{length, get_or}
use lib.Seq.{take-length}
use Rattle.letters.proofs.Decimal.{decimal_length}
use Rattle.letters.proofs.Writes.{writes_none, number_ends}
use Rattle.listing.specs.Inside.{items}
use Rattle.listing.proofs.Lists.{writes_item}
use Rattle.listing.proofs.output.put_atoms.Goals as goal

pub loop-atom-init : goal.loop-atom-init
unfolding items
loop-atom-init c = (omega arith, writes_none c.args.out.now)

pub number-requires : goal.number-requires
number-requires c =
    let atom = get_or c.args.atoms.now c.loop-atom.atom-index 0 in
    omega (arith, c.loop-atom.invariant.1.long, decimal_length 4 atom (omega (arith, c.type_inv.atoms c.loop-atom.atom-index)))

pub loop-atom-preserved : goal.loop-atom-preserved
loop-atom-preserved c =
    let atom = get_or c.args.atoms.now c.loop-atom.atom-index 0 in (
      omega (arith, number_ends 4 atom 44 (omega (arith, c.type_inv.atoms c.loop-atom.atom-index)) c.number.ensures),
      writes_item c.args.atoms.now c.loop-atom.atom-index (omega arith) c.loop-atom.invariant.1 c.number.ensures,
    )
