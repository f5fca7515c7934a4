-- `close_gap` meets its contract: after k turns the first k bytes are moved.
use native.Mathlib.Omega.{arith}
use lib.ListN.{length-set}
use Rattle.store.proofs.Moved.{moves_more}
use Rattle.store.proofs.writing.close_gap.Goals as goal

-- for k in 0..rest {
pub loop-k-preserved : goal.loop-k-preserved
loop-k-preserved c = (
  omega arith,
  simp length-set c.loop-k.invariant.1,
  rw c.loop-k.invariant.2 (moves_more c.args.part.now c.args.n c.loop-k.k (omega arith)),
)
