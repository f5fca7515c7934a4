-- `put_events` meets its contract: the events in the first i words are written, a comma behind each.
use Prim.Native.Nat.{◌+◌, ◌*◌, ◌≤◌}
use Rattle.events.specs.Members.{members}
use Rattle.letters.specs.Writing.{Writes}
use Rattle.listing.specs.Output.{rising}
use Rattle.listing.specs.Inside.{items}
use Rattle.listing.proofs.output.put_events.Given as goal

abbrev pub invariant-loop-i : goal.invariant-loop-i
invariant-loop-i l =
    (l.out.at ≤ l.initial.out.at + 6 * (64 * l.i)) × Writes l.initial.out l.out (items (rising (64 * l.i) (members l.fn.events)))
