-- `lacking_event` meets its contract: what is gathered so far, with the records left, is what all of them give.
use Prim.Native.Nat.{◌+◌, ◌-◌, ◌*◌}
use mathlib.Core.Path.{◌≡◌}
use Rattle.events.specs.Members.{places}
use Rattle.table.specs.Records.{part_size}
use Rattle.waiting.proofs.Gathered.{gathered}
use Rattle.waiting.proofs.lacking.lacking_event.Given as goal

abbrev pub invariant-loop-record : goal.invariant-loop-record
invariant-loop-record l =
    let size = part_size l.table l.c in
    gathered l.table l.words (size - l.record) (l.c + 4 * l.record) l.low ≡ gathered l.table l.words size l.c places
