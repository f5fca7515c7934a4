-- The bytes of nodes copied, four at a time.
use borrow.Author.Rules.{rules}
use mathlib.Core.Path.{◌∙◌}
use native.Mathlib.Omega.{arith}
use Rattle.steps.proofs.Pieces.{copied_more}
use Rattle.steps.proofs.parking.copy_nodes.Goals as goal

-- for node in 0..nodes {
pub loop-node-preserved : goal.loop-node-preserved
loop-node-preserved c =
    let o = c.loop-node.invariant.2 in
    let more = copied_more o (omega arith) (omega arith) (c.put_own-at.ensures.written ∙ rw c.loop-node.invariant.1) in
    (search rules, search rules, record { state_is = o.state_is; store_is = more; progress_is = o.progress_is; atoms_is = o.atoms_is; named = o.named })
