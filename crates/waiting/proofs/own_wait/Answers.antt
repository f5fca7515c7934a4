-- `waiting::own_wait` meets its contract: a test's event, a Control's or a pending Freezable's own, or none.
use mathlib.Core.Path.{refl, sym, ◌∙◌}
use native.Mathlib.Omega.{arith}
use Rattle.events.specs.Members.{marks}
use Rattle.waiting.proofs.Standing.{own_bytes, own_record, is_framed}
use Rattle.waiting.proofs.OneStep.{test_waits, test_there, itself_waits, no_own, event_tells, event_holds, tells_not}
use Rattle.waiting.proofs.own_wait.Goals as goal

-- let kind = kind_at(table, i);
pub kind_at-kind-requires : goal.kind_at-kind-requires
kind_at-kind-requires c = omega (arith, (own_record c.requires.1.stands).0)

-- let phase = state[4 * i];
pub overflow_mul-phase : goal.overflow_mul-phase
overflow_mul-phase c = omega (arith, (own_record c.requires.1.stands).1)

pub bounds-state-i : goal.bounds-state-i
bounds-state-i c = let l = own_bytes c.requires.1.stands in omega arith

-- let nodes = word_at(table, table.len() - 10);
pub overflow_sub-table : goal.overflow_sub-table
overflow_sub-table c =
    omega (arith, (own_record c.requires.1.stands).0, (is_framed c.requires.1.stands).long)

pub word_at-nodes-requires : goal.word_at-nodes-requires
word_at-nodes-requires c = omega (arith, (is_framed c.requires.1.stands).long)

-- return lacking_event(table, 6 * nodes + 4 * argument_at(table, i), words);
pub overflow_mul-nodes : goal.overflow_mul-nodes
overflow_mul-nodes c = omega (arith, c.word_at-nodes.ensures.1)

pub argument_at-requires : goal.argument_at-requires
argument_at-requires c = omega (arith, (own_record c.requires.1.stands).0)

pub overflow_mul-argument_at : goal.overflow_mul-argument_at
overflow_mul-argument_at c = omega (arith, c.argument_at.ensures.1)

pub overflow_add-nodes : goal.overflow_add-nodes
overflow_add-nodes c = omega (arith, c.argument_at.ensures.1, c.word_at-nodes.ensures.1)

pub lacking_event-requires : goal.lacking_event-requires
lacking_event-requires c =
    let (w, l) = c.requires in
    rw (c.word_at-nodes.ensures.0, c.argument_at.ensures.0)
    (test_there l.stands (marks c.args.words.now) l.leads c.kind_at-kind.ensures.0 refl (sym c.is_test.ensures ∙ c.if-is_test.true))

pub returns-then-is_test : goal.returns-then-is_test
returns-then-is_test c =
    let read = rw (c.word_at-nodes.ensures.0, c.argument_at.ensures.0) at c.lacking_event.ensures in
    λ x w h e. test_waits h (marks c.args.words.now) e c.kind_at-kind.ensures.0 refl (sym c.is_test.ensures ∙ c.if-is_test.true) _ read

-- let event = argument_at(table, i);
pub argument_at-event-requires : goal.argument_at-event-requires
argument_at-event-requires c =
    omega (arith, (own_record c.requires.1.stands).0)

pub returns-else-not-marked : goal.returns-else-not-marked
returns-else-not-marked c =
    λ x w h e.
    let X = marks c.args.words.now in
    let so = sym c.waits_itself.ensures ∙ c.if-waits_itself.true in
    event_holds X (itself_waits h X e c.kind_at-kind.ensures.0 refl (sym c.is_test.ensures ∙ c.if-is_test.false) so)
    (rw c.argument_at-event.ensures.0 at (sym c.marked.ensures ∙ c.if-not-marked.false))

-- return Some(event);
pub returns-then-not-marked : goal.returns-then-not-marked
returns-then-not-marked c =
    λ x w h e.
    let X = marks c.args.words.now in
    let so = sym c.waits_itself.ensures ∙ c.if-waits_itself.true in
    event_tells c.argument_at-event.ensures.0 X
    (itself_waits h X e c.kind_at-kind.ensures.0 refl (sym c.is_test.ensures ∙ c.if-is_test.false) so)
    (rw c.argument_at-event.ensures.0 at (sym c.marked.ensures ∙ c.if-not-marked.true))

-- fn own_wait
pub returns-else-waits_itself : goal.returns-else-waits_itself
returns-else-waits_itself c =
    λ x w h e.
    tells_not
    (no_own h (marks c.args.words.now) e c.kind_at-kind.ensures.0 refl (sym c.is_test.ensures ∙ c.if-is_test.false)
    (sym c.waits_itself.ensures ∙ c.if-waits_itself.false))
