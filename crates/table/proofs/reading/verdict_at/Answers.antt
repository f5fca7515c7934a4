-- `table::reading::verdict_at` meets its contract: what is open around the part at byte `at` makes of its rank that of the whole.
use mathlib.Core.Bool.{Bool, cond}
use mathlib.Core.Path.{sym, ap, ◌∙◌}
use native.Mathlib.Omega.{arith}
use Rattle.table.specs.Inside.Ranks.{rank}
use Rattle.table.proofs.ByParts.{own_inside, ranks_event}
use Rattle.table.proofs.Within.{whole_read, first_read, second_read, own_record, fits, open_behind, read_out}
use Rattle.table.proofs.reading.verdict_at.Goals as goal

pub part_kind-top-requires : goal.part_kind-top-requires
part_kind-top-requires c = omega (arith, own_inside _ _ c.requires.configuration_at)

pub part_event-requires : goal.part_event-requires
part_event-requires c = omega (arith, own_inside _ _ c.requires.configuration_at)

-- return event_verdict(words, part_event(table, c), absent);
pub returns-then-top-eq0 : goal.returns-then-top-eq0
returns-then-top-eq0 c =
    let a = c.args in
    let kind = sym c.part_kind-top.ensures.0 ∙ c.if-top-eq0.true in
    ranks_event a.table.now a.c a.words.now (rank a.absent) _ _ kind c.part_event.ensures.0 c.event_verdict.ensures

-- let mut at = c + 4;
pub overflow_add-at : goal.overflow_add-at
overflow_add-at c = record { fits = omega (arith, own_inside _ _ c.requires.configuration_at, c.requires.table_short) }

-- loop {
pub loop-present-init : goal.loop-present-init
loop-present-init c = first_read (whole_read c.requires.configuration_at) _ (sym c.part_kind-top.ensures.0) c.if-top-eq0.false

pub part_kind-kind-requires : goal.part_kind-kind-requires
part_kind-kind-requires c = omega (arith, own_record c.loop-present.invariant)

pub part_event-requires-then-kind-eq0 : goal.part_event-requires-then-kind-eq0
part_event-requires-then-kind-eq0 c = omega (arith, own_record c.loop-present.invariant)

-- match after_event(table, at + 4, levels, present, absent) {
pub after_event-requires : goal.after_event-requires
after_event-requires c =
    record {
      some_open = (_, open_behind c.loop-present.invariant (sym c.part_kind-kind.ensures.0 ∙ c.if-kind-eq0.true));
      absent_rank = c.requires.absent_rank;
    }

-- ControlFlow::Break(verdict) => return verdict,
pub returns-in-Break : goal.returns-in-Break
returns-in-Break c =
    let a = c.args in
    let I = c.loop-present.invariant in
    let kind = sym c.part_kind-kind.ensures.0 ∙ c.if-kind-eq0.true in
    let part = c.part_event-then-kind-eq0.ensures in
    let event = ap (λ (b : Bool). cond b 2 (rank a.absent)) c.marked-present.ensures in
    let ranks = ranks_event a.table.now c.loop-present.at a.words.now (rank a.absent) _ _ kind part.0 event in
    read_out I ranks _ (c.in-Break.ensures _ (open_behind I kind))

pub loop-present-smaller-in-Continue : goal.loop-present-smaller-in-Continue
loop-present-smaller-in-Continue c =
    let I = c.loop-present.invariant in
    let kind = sym c.part_kind-kind.ensures.0 ∙ c.if-kind-eq0.true in
    let next = c.in-Continue.ensures _ (open_behind I kind) in
    omega (arith, own_record I, next.onward)

pub loop-present-preserved-in-Continue : goal.loop-present-preserved-in-Continue
loop-present-preserved-in-Continue c =
    let a = c.args in
    let I = c.loop-present.invariant in
    let kind = sym c.part_kind-kind.ensures.0 ∙ c.if-kind-eq0.true in
    let part = c.part_event-then-kind-eq0.ensures in
    let event = ap (λ (b : Bool). cond b 2 (rank a.absent)) c.marked-present.ensures in
    let ranks = ranks_event a.table.now c.loop-present.at a.words.now (rank a.absent) _ _ kind part.0 event in
    second_read I ranks (c.in-Continue.ensures _ (open_behind I kind))

-- levels = 16 * levels + kind as u64;
pub overflow_mul-levels : goal.overflow_mul-levels
overflow_mul-levels c =
    record { fits = omega (arith, fits (first_read c.loop-present.invariant _ (sym c.part_kind-kind.ensures.0) c.if-kind-eq0.false)) }

pub overflow_add-levels-else-kind-eq0 : goal.overflow_add-levels-else-kind-eq0
overflow_add-levels-else-kind-eq0 c =
    record { fits = omega (arith, fits (first_read c.loop-present.invariant _ (sym c.part_kind-kind.ensures.0) c.if-kind-eq0.false)) }

pub loop-present-smaller : goal.loop-present-smaller
loop-present-smaller c = omega (arith, own_record c.loop-present.invariant)

pub loop-present-preserved : goal.loop-present-preserved
loop-present-preserved c = first_read c.loop-present.invariant _ (sym c.part_kind-kind.ensures.0) c.if-kind-eq0.false
