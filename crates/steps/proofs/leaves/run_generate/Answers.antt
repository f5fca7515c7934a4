-- A Generate meets its contract: rule 16.
use mathlib.Core.Path.{refl}
use Rattle.steps.proofs.Dispatch.{phase_reads}
use Rattle.steps.proofs.Ended.{done_run}
use Rattle.steps.proofs.Slices.{all_same}
use Rattle.steps.proofs.LeafRuns.{event_placed, event_below, generate_run}
use Rattle.steps.proofs.leaves.run_generate.Goals as goal

-- return Flag::TERM;
pub returns-then-pass-i-eq-GONE : goal.returns-then-pass-i-eq-GONE
returns-then-pass-i-eq-GONE c =
    record { has_run_beside = λ row. done_run c.if-pass-i-eq-GONE.true; same_row = refl; named = all_same }

-- pass.progress.put_event(argument_at(pass.table, i), true);
pub put_event-requires : goal.put_event-requires
put_event-requires c =
    event_below c.argument_at.ensures.0 (event_placed c.if-pass-i-eq-GONE.false c.requires.1)

-- pub fn run_generate
pub returns : goal.returns
returns c =
    let there = event_below c.argument_at.ensures.0 (event_placed c.if-pass-i-eq-GONE.false c.requires.1) in
    record { has_run_beside = λ row. generate_run c.if-pass-i-eq-GONE.false _ c.argument_at.ensures.0 there c.put_event.ensures; same_row = refl; named = all_same }

pub bounds-pass-i : goal.bounds-pass-i
bounds-pass-i c = phase_reads c.requires.1

pub bounds-pass-i-then-pass-i-eq-GONE : goal.bounds-pass-i-then-pass-i-eq-GONE
bounds-pass-i-then-pass-i-eq-GONE c = phase_reads c.requires.1
