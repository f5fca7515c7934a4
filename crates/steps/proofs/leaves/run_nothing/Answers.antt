-- A Nothing, or a leaf in phase 3, meets its contract: rule 1.
use mathlib.Core.Path.{refl}
use Rattle.steps.proofs.Dispatch.{phase_reads}
use Rattle.steps.proofs.LeafRuns.{nothing_run}
use Rattle.steps.proofs.Slices.{all_same}
use Rattle.steps.proofs.leaves.run_nothing.Goals as goal

pub bounds-pass-i : goal.bounds-pass-i
bounds-pass-i c = phase_reads c.requires.1

pub returns : goal.returns
returns c = record { has_run_beside = λ row. nothing_run; same_row = refl; named = all_same }
