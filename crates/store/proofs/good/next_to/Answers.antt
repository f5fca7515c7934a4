-- The first child or the second.
use native.Mathlib.Omega.{arith}
use Rattle.store.proofs.Ways.{to_second}
use Rattle.store.proofs.good.next_to.Goals as goal

-- second
pub returns : goal.returns
returns c =
    let A = c.args in
    rw c.second_at-second.ensures (to_second A.table.now A.j A.i c.requires.0 c.requires.1 (omega (arith, c.second_at-second.ensures)))
