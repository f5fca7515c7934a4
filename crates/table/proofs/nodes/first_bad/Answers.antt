-- `table::nodes::first_bad` meets its contract: all records before i are good.
use mathlib.Core.Path.{sym, ◌∙◌}
use native.Mathlib.Omega.{arith}
use Rattle.table.specs.Good.{good_node}
use Rattle.table.proofs.Lowest.{lowest_bad}
use Rattle.table.proofs.nodes.first_bad.Goals as goal

-- return Some(i);
pub returns-then-not-good_node : goal.returns-then-not-good_node
returns-then-not-good_node c =
    let n_is = c.requires.framed.n_is in
    let bad = sym c.good_node.ensures ∙ c.if-not-good_node.true in
    (omega arith, lowest_bad (good_node c.args.table.now) _ _ (omega arith) c.loop-i.invariant (λ h. bad))
