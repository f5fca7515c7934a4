-- A Stop meets its contract: rule 2.
use mathlib.Core.Path.{refl}
use Rattle.steps.proofs.Dispatch.{phase_reads}
use Rattle.steps.proofs.Ended.{done_run}
use Rattle.steps.proofs.LeafRuns.{stop_run}
use Rattle.steps.proofs.Slices.{all_same}
use Rattle.steps.proofs.leaves.run_stop.Goals as goal

-- return Flag::TERM;
pub returns-then-pass-i-eq-GONE : goal.returns-then-pass-i-eq-GONE
returns-then-pass-i-eq-GONE c =
    record { has_run_beside = λ row. done_run c.if-pass-i-eq-GONE.true; same_row = refl; named = all_same }

-- pub fn run_stop
pub returns : goal.returns
returns c =
    record { has_run_beside = λ row. stop_run c.if-pass-i-eq-GONE.false; same_row = refl; named = all_same }

pub bounds-pass-i : goal.bounds-pass-i
bounds-pass-i c = phase_reads c.requires.1

pub bounds-pass-i-then-pass-i-eq-GONE : goal.bounds-pass-i-then-pass-i-eq-GONE
bounds-pass-i-then-pass-i-eq-GONE c = phase_reads c.requires.1

pub bounds-pass-i-2 : goal.bounds-pass-i-2
bounds-pass-i-2 c = phase_reads c.requires.1
