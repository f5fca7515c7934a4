-- `table::weights::count_times` meets its contract: the product of two capped numbers doesn't run over, and is capped again.
use borrow.Author.Rules.{rules}
use native.Mathlib.Omega.{arith}
use Rattle.table.proofs.Weighed.{product_fits}
use Rattle.table.proofs.weights.count_times.Goals as goal

-- (c * x.min(65536)).min(65536)
pub overflow_mul-c : goal.overflow_mul-c
overflow_mul-c c =
    record { fits = product_fits _ _ c.requires (omega arith) }

pub returns : goal.returns
returns c = rw (← c.min.ensures) c.min-2.ensures
