-- An Atom meets its contract: rule 3.
use Rattle.steps.proofs.Dispatch.{phase_reads}
use Rattle.steps.proofs.Ended.{done_run}
use Rattle.steps.proofs.Slices.{all_same}
use Rattle.steps.proofs.LeafRuns.{atom_fits, atom_run}
use Rattle.steps.proofs.leaves.run_atom.Goals as goal

-- return Flag::TERM;
pub returns-then-pass-i-eq-GONE : goal.returns-then-pass-i-eq-GONE
returns-then-pass-i-eq-GONE c =
    record { has_run = done_run c.if-pass-i-eq-GONE.true; named = all_same }

-- pass.progress.done = put_atom(
pub put_atom-pass-requires : goal.put_atom-pass-requires
put_atom-pass-requires c =
    (atom_fits c.if-pass-i-eq-GONE.false c.requires, c.argument_at.ensures.1)

-- pub fn run_atom
pub returns : goal.returns
returns c =
    record { has_run = atom_run c.if-pass-i-eq-GONE.false _ _ c.argument_at.ensures.0 c.put_atom-pass.ensures.0 c.put_atom-pass.ensures.1; named = all_same }

pub bounds-pass-i : goal.bounds-pass-i
bounds-pass-i c = phase_reads c.requires

pub bounds-pass-i-then-pass-i-eq-GONE : goal.bounds-pass-i-then-pass-i-eq-GONE
bounds-pass-i-then-pass-i-eq-GONE c = phase_reads c.requires
