-- The gap closed, and the bytes in use written.
use mathlib.Core.Path.{◌∙◌}
use native.Mathlib.Omega.{arith}
use Rattle.store.proofs.Moved.{gap_closed}
use Rattle.store.proofs.take_out.Goals as goal

-- pub fn take_out
pub returns : goal.returns
returns c =
    let A = c.args in
    let u = c.word_at-used.ensures.0 in
    c.put_in_use.ensures
    ∙ gap_closed A.store.now A.n A.at c.word_at-used.result u c.requires.0 (omega (arith, u)) (omega (arith, u)) _ c.close_gap.ensures
