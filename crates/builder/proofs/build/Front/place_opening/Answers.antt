-- `place_opening` meets its contract: a pair, a `not`, or nothing.
use mathlib.Core.Path.{sym, ◌∙◌}
use Rattle.builder.proofs.TableHolds.{ready_in, places_in, places_none, ready_first, ready_second, places_then}
use Rattle.builder.proofs.PlacedByFunctions.{opening_pair, opening_not, opening_none}
use Rattle.builder.proofs.PlacedGrows.{grows_pair}
use Rattle.builder.proofs.build.Front.place_opening.Goals as goal

-- self.place_event(text, table);
pub place_event-requires : goal.place_event-requires
place_event-requires c =
    ready_first (grows_pair c.args.level) (ready_in (λ n m s h. opening_pair c.args.level c.args.text.now s c.if-level-gt1.true)
    c.requires)

-- self.place_pair(level, table);
pub place_pair-requires : goal.place_pair-requires
place_pair-requires c =
    ready_second (grows_pair c.args.level) (ready_in (λ n m s h. opening_pair c.args.level c.args.text.now s c.if-level-gt1.true)
    c.requires) c.place_event.ensures

pub returns-then-level-gt1 : goal.returns-then-level-gt1
returns-then-level-gt1 c =
    places_in (λ n m s h. opening_pair c.args.level c.args.text.now s c.if-level-gt1.true)
    (places_then (grows_pair c.args.level) c.place_event.ensures c.place_pair.ensures)

-- self.place_not(table);
pub place_not-requires : goal.place_not-requires
place_not-requires c =
    ready_in (λ n m s h. opening_not c.args.level c.args.text.now s c.if-level-gt1.false (sym c.is_named.ensures ∙ c.if-is_named.true)) c.requires

pub returns-then-is_named : goal.returns-then-is_named
returns-then-is_named c =
    places_in (λ n m s h. opening_not c.args.level c.args.text.now s c.if-level-gt1.false (sym c.is_named.ensures ∙ c.if-is_named.true)) c.place_not.ensures

-- fn place_opening
pub returns-else-is_named : goal.returns-else-is_named
returns-else-is_named c =
    places_none (λ s. opening_none c.args.level c.args.text.now s c.if-level-gt1.false (sym c.is_named.ensures ∙ c.if-is_named.false))
