-- `table::nodes::children_of` meets its contract: a number that is no kind's has no children.
use Rattle.table.proofs.Judged.{no_children}
use Rattle.table.proofs.nodes.children_of.Goals as goal

-- Err(_) => 0,
pub returns-in-Err : goal.returns-in-Err
returns-in-Err c = no_children c.args.k c.in-Err.ensures.1
