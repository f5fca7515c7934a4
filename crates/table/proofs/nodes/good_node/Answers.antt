-- `table::nodes::good_node` meets its contract: a head that is no kind's number is bad.
use mathlib.Core.Path.{sym}
use Rattle.table.proofs.Judged.{not_good}
use Rattle.table.proofs.nodes.good_node.Goals as goal

-- Err(_) => false,
pub returns-in-Err : goal.returns-in-Err
returns-in-Err c = sym (not_good _ _ (rw c.head_at.ensures.0 at c.in-Err.ensures.1))
