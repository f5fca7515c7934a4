-- `put_digit` meets its contract: 1 is shifted to the digit's place, then set or cleared.
use Prim.Native.Nat.{ℕ, ◌*◌, ◌%◌, ◌^◌, ◌<◌}
use mathlib.Core.Path.{◌≡◌, ◌∙◌, fun_ext}
use native.Mathlib.Omega.{arith}
use lib.Pow.{shl_exact}
use Rattle.events.proofs.Bits.{digits_set, digits_clear}
use Rattle.steps.proofs.progress.put_digit.Goals as goal

one_shifted : (at : ℕ) → at < 64 → 1 * 2 ^ at % 2 ^ 64 ≡ 2 ^ at
one_shifted at l = shl_exact {a = 1} 1 at 64 (omega arith) (omega arith) ∙ omega arith

-- word | 1 << at
pub returns-then-present : goal.returns-then-present
returns-then-present c =
    let a = c.args in
    rw (c.if-present.true, one_shifted a.at c.requires) (fun_ext (λ j. digits_set a.at j a.word))

-- word & !(1 << at)
pub returns-else-present : goal.returns-else-present
returns-else-present c =
    let a = c.args in
    rw (c.if-present.false, one_shifted a.at c.requires) (fun_ext (λ j. digits_clear 64 a.at j a.word c.requires c.ranges.word.fits))
