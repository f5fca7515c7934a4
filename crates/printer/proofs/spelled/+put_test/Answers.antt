-- `put_test` meets its contract: an event's number, or what stands round the parts and between them.
use mathlib.Core.Path.{sym, ◌∙◌}
use native.Mathlib.Omega.{arith}
use Rattle.printer.proofs.TestsIn.{test_inside, event_fits, puts_event, not_fits, not_less, not_part}
use Rattle.printer.proofs.TestsIn.{not_closes, puts_not, joined_fits, first_less, first_part, joint_fits, second_less}
use Rattle.printer.proofs.TestsIn.{second_part_lem, joined_closes, puts_joined, unlike}
use Rattle.printer.proofs.spelled.+put_test.Goals as goal

-- let k = part_kind(table, c);
pub part_kind-k-requires : goal.part_kind-k-requires
part_kind-k-requires t c =
    omega (arith, test_inside c.requires)

-- return put_number(room, at, part_event(table, c));
pub part_event-requires : goal.part_event-requires
part_event-requires t c =
    omega (arith, test_inside c.requires)

pub put_number-requires : goal.put_number-requires
put_number-requires t c =
    event_fits (sym c.part_kind-k.ensures.0 ∙ c.if-k-eq0.true) c.part_event.ensures.0 c.requires

pub returns-then-k-eq0 : goal.returns-then-k-eq0
returns-then-k-eq0 t c =
    puts_event (sym c.part_kind-k.ensures.0 ∙ c.if-k-eq0.true) c.part_event.ensures.0 c.put_number.ensures

-- let begun = put(room, at, b"(not ");
pub put-begun-requires : goal.put-begun-requires
put-begun-requires t c =
    not_fits (sym c.part_kind-k.ensures.0 ∙ c.if-k-eq1.true) c.requires

-- let only = put_test(table, c + 4, room, begun);
pub put_test-only-requires : goal.put_test-only-requires
put_test-only-requires t c =
    let is_not = sym c.part_kind-k.ensures.0 ∙ c.if-k-eq1.true in
    (omega (arith, not_less is_not c.requires), not_part is_not c.requires c.put-begun.ensures)

-- return put(room, only, b")");
pub put-requires : goal.put-requires
put-requires t c =
    not_closes (sym c.part_kind-k.ensures.0 ∙ c.if-k-eq1.true) c.requires c.put-begun.ensures c.put_test-only.ensures

pub returns-then-k-eq1 : goal.returns-then-k-eq1
returns-then-k-eq1 t c =
    puts_not (sym c.part_kind-k.ensures.0 ∙ c.if-k-eq1.true) c.put-begun.ensures c.put_test-only.ensures c.put.ensures

-- let begun = put(room, at, b"(");
pub put-begun-requires-2 : goal.put-begun-requires-2
put-begun-requires-2 t c =
    joined_fits (unlike c.part_kind-k.ensures.0 c.if-k-eq0.false) (unlike c.part_kind-k.ensures.0 c.if-k-eq1.false) c.requires

-- let first = put_test(table, c + 4, room, begun);
pub put_test-first-requires : goal.put_test-first-requires
put_test-first-requires t c =
    let put3 = c.put-begun-2 in (
      omega (arith, first_less (unlike c.part_kind-k.ensures.0 c.if-k-eq0.false) (unlike c.part_kind-k.ensures.0 c.if-k-eq1.false) c.requires),
      first_part (unlike c.part_kind-k.ensures.0 c.if-k-eq0.false) (unlike c.part_kind-k.ensures.0 c.if-k-eq1.false) c.requires put3.ensures,
    )

-- let between = put_joint(room, first, k);
pub put_joint-between-requires : goal.put_joint-between-requires
put_joint-between-requires t c =
    let no_event = unlike c.part_kind-k.ensures.0 c.if-k-eq0.false in
    let no_not = unlike c.part_kind-k.ensures.0 c.if-k-eq1.false in
    rw c.part_kind-k.ensures.0 (joint_fits no_event no_not c.requires c.put-begun-2.ensures c.put_test-first.ensures)

-- let second = put_test(table, c + 4 + 4 * part_size(table, c + 4), room, between);
pub part_size-requires : goal.part_size-requires
part_size-requires t c =
    let no_event = unlike c.part_kind-k.ensures.0 c.if-k-eq0.false in
    let no_not = unlike c.part_kind-k.ensures.0 c.if-k-eq1.false in
    omega (arith, test_inside (first_part no_event no_not c.requires c.put-begun-2.ensures))

pub put_test-second-requires : goal.put_test-second-requires
put_test-second-requires t c =
    let said = rw c.part_kind-k.ensures.0 at c.put_joint-between.ensures in
    let no_event = unlike c.part_kind-k.ensures.0 c.if-k-eq0.false in
    let no_not = unlike c.part_kind-k.ensures.0 c.if-k-eq1.false in
    let there = second_part_lem no_event no_not c.requires c.put-begun-2.ensures c.put_test-first.ensures said in
    rw c.part_size.ensures.0 (omega (arith, second_less no_event no_not c.requires), there)

-- put(room, second, b")")
pub put-requires-2 : goal.put-requires-2
put-requires-2 t c =
    let said = rw c.part_kind-k.ensures.0 at c.put_joint-between.ensures in
    let second = rw c.part_size.ensures.0 at c.put_test-second.ensures in
    let no_event = unlike c.part_kind-k.ensures.0 c.if-k-eq0.false in
    let no_not = unlike c.part_kind-k.ensures.0 c.if-k-eq1.false in
    joined_closes no_event no_not c.requires c.put-begun-2.ensures c.put_test-first.ensures said second

-- fn put_test
pub returns : goal.returns
returns t c =
    let said = rw c.part_kind-k.ensures.0 at c.put_joint-between.ensures in
    let second = rw c.part_size.ensures.0 at c.put_test-second.ensures in
    let no_event = unlike c.part_kind-k.ensures.0 c.if-k-eq0.false in
    let no_not = unlike c.part_kind-k.ensures.0 c.if-k-eq1.false in
    puts_joined no_event no_not c.put-begun-2.ensures c.put_test-first.ensures said second c.put-2.ensures
