-- `spread` meets its contract: the nodes looked at so far have the kind, and the next one stands where the last one's first part ends.
use native.Mathlib.Omega.{arith}
use lib.ListN.{length-set}
use Rattle.builder.proofs.LabelsSpread.{spreading_starts, spreading_on, spreading_stops, spreading_ends}
use Rattle.builder.proofs.build.spread.Goals as goal

-- while at < nodes.len() {
pub loop-at-init : goal.loop-at-init
loop-at-init c =
    spreading_starts c.args.kind c.args.nodes.now

-- while at < nodes.len() {
pub loop-at-smaller : goal.loop-at-smaller
loop-at-smaller c =
    simp length-set (omega arith)

pub loop-at-preserved : goal.loop-at-preserved
loop-at-preserved c =
    spreading_on c.loop-at.invariant c.word_in-first.result c.loop-at-test.true (omega arith) c.if-nodes-at.true c.word_in-first.ensures.0 c.word_in-first.ensures.1

-- return;
pub returns-else-nodes-at : goal.returns-else-nodes-at
returns-else-nodes-at c =
    spreading_stops c.loop-at.invariant c.if-nodes-at.false

-- fn spread
pub returns : goal.returns
returns c =
    spreading_ends c.loop-at.invariant c.loop-at-test.false

pub shape_of-nodes-else-nodes-at : goal.shape_of-nodes-else-nodes-at
shape_of-nodes-else-nodes-at c = c.loop-at.invariant.long

pub shape_of-nodes : goal.shape_of-nodes
shape_of-nodes c = c.loop-at.invariant.long
