-- `table::reading::read_configuration` meets its contract: before the end is declared a lone event is read at once.
use mathlib.Core.Path.{sym, ◌∙◌}
use native.Mathlib.Omega.{arith}
use Rattle.table.proofs.ByParts.{own_inside, ranks_read, ranks_event}
use Rattle.table.proofs.reading.read_configuration.Goals as goal

pub part_kind-requires : goal.part_kind-requires
part_kind-requires c = omega (arith, own_inside _ _ c.requires.configuration_at)

pub part_event-requires : goal.part_event-requires
part_event-requires c = omega (arith, own_inside _ _ c.requires.configuration_at)

-- return event_verdict(words, part_event(table, c), Verdict::Unknown);
pub returns-then-part_kind-eq0 : goal.returns-then-part_kind-eq0
returns-then-part_kind-eq0 c =
    let a = c.args in
    let kind = sym c.part_kind.ensures.0 ∙ c.if-part_kind-eq0.true in
    let ranks = ranks_event a.table.now a.c a.words.now 1 _ _ kind c.part_event.ensures.0 c.event_verdict.ensures in
    ranks_read a.table.now a.c a.words.now 1 _ a.ended ranks (rw c.if-not-ended.true)
