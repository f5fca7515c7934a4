-- `place_blank` meets its contract: an event, or nothing.
use Rattle.builder.proofs.TableHolds.{ready_in, places_in, places_none}
use Rattle.builder.proofs.PlacedByFunctions.{blank_cap, blank_event}
use Rattle.builder.proofs.build.Front.place_blank.Goals as goal

pub place_event-requires : goal.place_event-requires
place_event-requires c =
    ready_in (λ n m s h. blank_event c.args.level c.args.text.now s c.if-level-ne1.true) c.requires

pub returns-then-level-ne1 : goal.returns-then-level-ne1
returns-then-level-ne1 c =
    places_in (λ n m s h. blank_event c.args.level c.args.text.now s c.if-level-ne1.true) c.place_event.ensures

pub returns-else-level-ne1 : goal.returns-else-level-ne1
returns-else-level-ne1 c =
    places_none (λ s. blank_cap c.args.level c.args.text.now s c.if-level-ne1.false)
