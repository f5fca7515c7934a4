-- `waiting` meets its contract: from each node on the way the same test is led to.
use Prim.Native.Nat.{◌-◌, ◌*◌}
use mathlib.Core.Path.{◌≡◌}
use lib.ListN.{length}
use Rattle.events.specs.Members.{places, marks}
use Rattle.junior.specs.Waited.{Wait}
use Rattle.table.specs.Records.{nodes}
use Rattle.waiting.specs.Down.{Leads}
use Rattle.waiting.proofs.waiting.Given as goal

abbrev pub invariant-loop-event : goal.invariant-loop-event
invariant-loop-event l = (w : Wait) × Leads l.table l.state l.i (marks l.words) w × ((v : Wait) → Leads l.table l.state 0 (marks l.initial.words) v → v ≡ w)
    × (64 * length l.words ≡ places)

abbrev pub decreases-loop-event : goal.decreases-loop-event
decreases-loop-event l = nodes l.table - l.i
