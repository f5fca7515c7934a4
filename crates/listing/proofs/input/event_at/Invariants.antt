-- `event_at` meets its contract: before each byte the number found is the one that begins with the figures so far.
use mathlib.Core.Path.{◌≡◌}
use Prim.Native.Nat.{◌-◌, ◌*◌, ◌≤◌, ◌<◌}
use lib.ListN.{length, drop}
use Rattle.events.specs.Members.{places}
use Rattle.listing.specs.Inside.{token, token_at}
use Rattle.listing.proofs.input.event_at.Given as goal

abbrev pub invariant-loop-d : goal.invariant-loop-d
invariant-loop-d l = (l.next ≤ length l.line) × (l.event < 10 * places) × (token_at l.line l.at ≡ token l.next l.event (drop l.next l.line))

abbrev pub decreases-loop-d : goal.decreases-loop-d
decreases-loop-d l = length l.line - l.next
