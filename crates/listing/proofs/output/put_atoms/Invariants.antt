-- `put_atoms` meets its contract: the first atoms are written, a comma behind each.
use Prim.Native.Nat.{◌+◌, ◌*◌, ◌≤◌}
use lib.ListN.{take}
use Rattle.letters.specs.Writing.{Writes}
use Rattle.listing.specs.Inside.{items}
use Rattle.listing.proofs.output.put_atoms.Given as goal

abbrev pub invariant-loop-atom : goal.invariant-loop-atom
invariant-loop-atom l =
    (l.out.at ≤ l.initial.out.at + 6 * l.atom-index) × Writes l.initial.out l.out (items (take l.atom-index l.atoms))
