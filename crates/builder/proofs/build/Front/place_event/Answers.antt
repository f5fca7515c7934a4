-- `place_event` meets its contract: an event where a digit stands, or nothing.
use mathlib.Core.Path.{sym, ◌∙◌}
use Rattle.builder.proofs.TableHolds.{ready_in, places_in, places_none}
use Rattle.builder.proofs.PlacedByFunctions.{event_here, event_none}
use Rattle.builder.proofs.build.Front.place_event.Goals as goal

-- self.place_test(table, (16 * (e / 256 % 16)) as u8, e, 1);
pub place_test-requires : goal.place_test-requires
place_test-requires c =
    ready_in (λ n m s h. event_here c.args.text.now c.byte_at.result c.byte_at.ensures s c.number-e.result
    (sym c.is_ascii_digit.ensures.value ∙ c.if-is_ascii_digit.true) c.number-e.ensures) c.requires

pub returns-then-is_ascii_digit : goal.returns-then-is_ascii_digit
returns-then-is_ascii_digit c =
    places_in (λ n m s h. event_here c.args.text.now c.byte_at.result c.byte_at.ensures s c.number-e.result
    (sym c.is_ascii_digit.ensures.value ∙ c.if-is_ascii_digit.true) c.number-e.ensures) c.place_test.ensures

-- fn place_event
pub returns-else-is_ascii_digit : goal.returns-else-is_ascii_digit
returns-else-is_ascii_digit c =
    places_none (λ s. event_none c.args.text.now c.byte_at.result c.byte_at.ensures s (sym c.is_ascii_digit.ensures.value ∙ c.if-is_ascii_digit.false))
