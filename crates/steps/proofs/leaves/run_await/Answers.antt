-- An Await meets its contract: a lone event is looked at by itself.
use mathlib.Core.Path.{sym, ◌∙◌}
use Rattle.steps.proofs.Dispatch.{phase_reads}
use Rattle.steps.proofs.Awaits.{await_tests}
use Rattle.steps.proofs.leaves.run_await.Goals as goal

-- if lone_event(pass.table, i, &pass.progress) {
pub lone_event-requires : goal.lone_event-requires
lone_event-requires c =
    await_tests c.if-pass-i-eq-GONE.false c.requires.1

-- return run_lone(pass, i);
pub run_lone-requires : goal.run_lone-requires
run_lone-requires c =
    record { can_pass = c.requires; lone_and_there = (c.if-pass-i-eq-GONE.false, sym c.lone_event.ensures ∙ c.if-lone_event.true) }

pub bounds-pass-i : goal.bounds-pass-i
bounds-pass-i c = phase_reads c.requires.1

pub run_tested-requires : goal.run_tested-requires
run_tested-requires c = c.requires

pub returns-then-pass-i-eq-GONE : goal.returns-then-pass-i-eq-GONE
returns-then-pass-i-eq-GONE c = c.run_tested.ensures

pub returns-then-lone_event : goal.returns-then-lone_event
returns-then-lone_event c = c.run_lone.ensures

pub run_tested-requires-2 : goal.run_tested-requires-2
run_tested-requires-2 c = c.requires

pub returns : goal.returns
returns c = c.run_tested-2.ensures
