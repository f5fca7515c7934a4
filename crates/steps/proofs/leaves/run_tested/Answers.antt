-- An Await meets its contract by what its test is read as: rules 22 to 25.
use mathlib.Core.Path.{refl}
use Rattle.steps.proofs.Dispatch.{phase_reads}
use Rattle.steps.proofs.Ended.{done_run}
use Rattle.steps.proofs.Slices.{all_same}
use Rattle.steps.proofs.Awaits.{await_tests, await_suspends, await_refused, await_met, await_met_late}
use Rattle.steps.proofs.leaves.run_tested.Goals as goal

-- return Flag::TERM;
pub returns-then-pass-i-eq-GONE : goal.returns-then-pass-i-eq-GONE
returns-then-pass-i-eq-GONE c =
    record { has_run_beside = λ row. done_run c.if-pass-i-eq-GONE.true; same_row = refl; named = all_same }

pub bounds-pass-i : goal.bounds-pass-i
bounds-pass-i c = phase_reads c.requires.1

pub bounds-pass-i-then-pass-i-eq-GONE : goal.bounds-pass-i-then-pass-i-eq-GONE
bounds-pass-i-then-pass-i-eq-GONE c = phase_reads c.requires.1

pub read_test-requires : goal.read_test-requires
read_test-requires c = await_tests c.if-pass-i-eq-GONE.false c.requires.1

pub returns-in-Unknown : goal.returns-in-Unknown
returns-in-Unknown c = record { has_run_beside = λ row. await_suspends c.if-pass-i-eq-GONE.false c.in-Unknown.ensures; same_row = refl; named = all_same }

pub returns-in-Unsat : goal.returns-in-Unsat
returns-in-Unsat c = record { has_run_beside = λ row. await_refused c.if-pass-i-eq-GONE.false c.in-Unsat.ensures; same_row = refl; named = all_same }

pub returns-then-pass : goal.returns-then-pass
returns-then-pass c =
    record { has_run_beside = λ row. await_met_late c.if-pass-i-eq-GONE.false c.in-Sat.ensures c.if-pass.true; same_row = refl; named = all_same }

pub returns-else-pass : goal.returns-else-pass
returns-else-pass c =
    record { has_run_beside = λ row. await_met c.if-pass-i-eq-GONE.false c.in-Sat.ensures c.if-pass.false; same_row = refl; named = all_same }
