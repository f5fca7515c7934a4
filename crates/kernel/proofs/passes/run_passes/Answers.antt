-- `run_passes` meets its contract: what it begins with is as it has to be.
use mathlib.Core.Path.{refl}
use native.Mathlib.Omega.{arith}
use Rattle.kernel.proofs.passes.run_passes.Goals as goal

pub overflow_sub-table : goal.overflow_sub-table
overflow_sub-table c = omega (arith, c.requires.placed.loaded.framed.long)

pub word_at-nodes-requires : goal.word_at-nodes-requires
word_at-nodes-requires c = omega (arith, c.requires.placed.loaded.framed.long)

pub overflow_mul-progress : goal.overflow_mul-progress
overflow_mul-progress c = omega (arith, c.word_at-nodes.ensures.1)

-- run_from(&mut pass)
pub run_from-requires : goal.run_from-requires
run_from-requires c = record { startable = c.requires; not_begun = rw c.word_at-nodes.ensures.0 refl }
