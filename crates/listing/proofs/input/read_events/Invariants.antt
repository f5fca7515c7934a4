-- `read_events` meets its contract: what the rest of the line is read as, beside the events so far, is what the line is read as.
use mathlib.Core.Path.{◌≡◌}
use mathlib.Core.Bool.{Bool}
use Prim.Native.Nat.{◌*◌, ◌-◌}
use lib.ListN.{length, drop}
use Rattle.events.specs.Events.{Events, none}
use Rattle.events.specs.Members.{places, marks}
use Rattle.listing.specs.Inside.{Named}
use Rattle.listing.proofs.input.read_events.Given as goal

abbrev pub invariant-loop-at : goal.invariant-loop-at
invariant-loop-at l = (64 * length l.words ≡ places)
    × ((good : Bool) (X : Events) → Named l.separator (marks l.words) (drop l.at l.line) good X → Named l.separator none l.line good X)

abbrev pub decreases-loop-at : goal.decreases-loop-at
decreases-loop-at l = length l.line - l.at
