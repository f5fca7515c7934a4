-- Which bytes are digits.
use Prim.Native.Nat.{ℕ, ◌+◌, ◌-◌, ◌≤◌, ◌<◌}
use mathlib.Core.Bool.{Bool, true, false, cond}
use mathlib.Core.Path.{◌≡◌, refl}
use native.Mathlib.Omega.{arith}
use borrow.Author.Tests.{le-leb, leb-true}
use Rattle.std.proofs.Common.{Option, None, Some}
use Rattle.std.specs.Prelude.{MatchOption}
use Rattle.letters.specs.Decimal.{figure, FigureOf}
use Rattle.form.proofs.ComputedTests.{both}
use Rattle.form.specs.Inside.Machine.{is_digit_byte}

pub is_digit : (d : ℕ) → d < 10 → is_digit_byte (48 + d) ≡ true
is_digit d h = simp (le-leb 48 (48 + d) (omega arith), le-leb (48 + d) 57 (omega arith))

pub digit_is : (b : ℕ) → is_digit_byte b ≡ true → (48 ≤ b) × (b ≤ 57)
digit_is b t = let k = both t in (leb-true 48 b k.0, leb-true b 57 k.1)

-- letters' value of a digit, by the machine's test
pub value_told : (b : ℕ) (r : Option ℕ) → FigureOf b r
    → MatchOption r (is_digit_byte b ≡ false) (λ d. (is_digit_byte b ≡ true) × (d ≡ b - 48) × (d < 10))
unfolding figure
value_told b None h = go (is_digit_byte b) refl h
  where
    go : (t : Bool) → is_digit_byte b ≡ t → cond t (b - 48) 10 ≡ 10 → is_digit_byte b ≡ false
    go true e k = let l = digit_is b e in absurd (omega arith)
    go false e k = e
value_told b (Some d) (h, l) = go (is_digit_byte b) refl h
  where
    go : (t : Bool) → is_digit_byte b ≡ t → d ≡ cond t (b - 48) 10 → (is_digit_byte b ≡ true) × (d ≡ b - 48) × (d < 10)
    go true e k = (e, k, l)
    go false e k = absurd (omega arith)
