-- A pending Freezable meets its contract: rules 42 to 45.
use mathlib.Core.Path.{refl, sym, ◌∙◌}
use Rattle.steps.proofs.Slices.{all_same}
use Rattle.steps.proofs.Dispatch.{few_nodes, record_in, argument_reads, phase_reads}
use Rattle.steps.proofs.LeafRuns.{event_below}
use Rattle.steps.proofs.PendingRuns.{pending_placed, parks_one, parks_from, parks_to, end_as_was}
use Rattle.steps.proofs.PendingRuns.{freezes_now, freezes_late, pending_suspends, pending_refused}
use Rattle.steps.proofs.parking.run_pending.Goals as goal

-- if pass.progress.has_event(event) {
pub has_event-requires : goal.has_event-requires
has_event-requires c =
    event_below c.argument_at-event.ensures.0 (pending_placed c.requires.1)

-- park(pass, i, event);
pub park-requires : goal.park-requires
park-requires c =
    let o = c.requires.1 in
    record { node_there = (record_in o, few_nodes o, c.argument_at-event.ensures.1); some_node = parks_one o; state_long = parks_from o; store_long = parks_to o }

-- return Flag::STOP;
pub returns-then-pass : goal.returns-then-pass
returns-then-pass c =
    let here = sym c.has_event.ensures ∙ c.if-has_event.true in
    let parked = c.park.ensures.parked in
    record { has_run_beside = λ row. freezes_late c.argument_at-event.ensures.0 here parked (sym (end_as_was parked) ∙ c.if-pass.true); same_row = c.park.ensures.atoms; named = c.park.ensures.named }

-- return Flag::TERM;
pub returns-then-has_event : goal.returns-then-has_event
returns-then-has_event c =
    let here = sym c.has_event.ensures ∙ c.if-has_event.true in
    let parked = c.park.ensures.parked in
    record { has_run_beside = λ row. freezes_now c.argument_at-event.ensures.0 here parked (sym (end_as_was parked) ∙ c.if-pass.false); same_row = c.park.ensures.atoms; named = c.park.ensures.named }

-- return Flag::STOP;
pub returns-then-pass-2 : goal.returns-then-pass-2
returns-then-pass-2 c =
    let absent = sym c.has_event.ensures ∙ c.if-has_event.false in
    record { has_run_beside = λ row. pending_refused c.argument_at-event.ensures.0 absent c.if-pass-2.true; same_row = refl; named = all_same }

-- pub fn run_pending
pub returns : goal.returns
returns c =
    let absent = sym c.has_event.ensures ∙ c.if-has_event.false in
    record { has_run_beside = λ row. pending_suspends c.argument_at-event.ensures.0 absent c.if-pass-2.false; same_row = refl; named = all_same }

pub argument_at-event-requires : goal.argument_at-event-requires
argument_at-event-requires c = argument_reads c.requires.1

pub bounds-pass-i-then-pass-2 : goal.bounds-pass-i-then-pass-2
bounds-pass-i-then-pass-2 c = phase_reads c.requires.1

pub bounds-pass-i-2 : goal.bounds-pass-i-2
bounds-pass-i-2 c = phase_reads c.requires.1
