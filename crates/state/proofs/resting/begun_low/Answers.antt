-- The node rests, or is itself the lowest blamed one.
use Prim.Native.Nat.{◌+◌}
use mathlib.Core.Path.{sym, ◌∙◌}
use native.Mathlib.Omega.{arith}
use Rattle.table.specs.Records.{size_at}
use Rattle.state.specs.Resting.{rests}
use Rattle.state.proofs.Firsts.{hold_one, first_here, first_later}
use Rattle.state.proofs.resting.begun_low.Goals as goal

-- return low;
pub returns-then-rests : goal.returns-then-rests
returns-then-rests c =
    let A = c.args in
    let R = rests A.table.now A.state.now in
    first_later R A.i (A.i + 1) _ _ (omega arith) (hold_one R A.i (sym c.rests.ensures ∙ c.if-rests.true)) c.requires.blamed

-- i
pub returns : goal.returns
returns c =
    let A = c.args in
    first_here (rests A.table.now A.state.now) A.i (size_at A.table.now 0) (omega arith) (λ z. sym c.rests.ensures ∙ c.if-rests.false)
