-- `copy` meets its contract: after k turns the first k bytes are copied.
use native.Mathlib.Omega.{arith}
use lib.ListN.{length-set}
use Rattle.store.proofs.Moved.{copies_more}
use Rattle.store.proofs.writing.copy.Goals as goal

-- for k in 0..from.len() {
pub loop-k-preserved : goal.loop-k-preserved
loop-k-preserved c = (
  omega arith,
  simp length-set c.loop-k.invariant.1,
  rw c.loop-k.invariant.2 (copies_more c.args.from.now c.args.room.now c.loop-k.k (omega arith) (omega arith)),
)
