-- `table::configurations::closed` meets its contract.
use native.Mathlib.Omega.{arith}
use Rattle.table.proofs.WayNumbers.{zeros_below, less_one_fits, numbered_short, closes}
use Rattle.table.proofs.configurations.closed.Goals as goal

-- fn closed
pub returns : goal.returns
returns c w e =
    let short = numbered_short 32 w (omega arith) in
    rw (c.from.ensures, e) (closes 32 w short)

pub overflow_shr-open : goal.overflow_shr-open
overflow_shr-open c = zeros_below 32 _ (omega arith) (omega arith)

pub overflow_sub-result : goal.overflow_sub-result
overflow_sub-result c = rw c.from.ensures (less_one_fits _)
