-- The values of digits, and of the numbers that two and four spell.
use mathlib.Core.Path.{◌≡◌, refl, sym}
use mathlib.Core.Bool.{Bool, true, false, cond, ◌&&◌}
use mathlib.Core.List.{List}
use Prim.Native.Nat.{ℕ, ◌+◌, ◌-◌, ◌*◌, ◌≤◌, ◌<◌}
use native.Mathlib.Omega.{arith}
use lib.Dec.{leb}
use lib.ListN.{get_or}
use borrow.Author.Tests.{lt-ltb, le-ltb, le-leb, lt-leb, leb-true}
use Rattle.calls.specs.Words.{figure16, byte_at, number_at}

pub figure_of_digit : (b : ℕ) → 48 ≤ b → b ≤ 57 → (b - 48 ≡ figure16 b) × (b - 48 < 16)
unfolding figure16
figure_of_digit b h k = (simp (le-leb 48 b h, le-leb b 57 k), omega arith)

pub figure_of_letter : (b : ℕ) → 97 ≤ b → b ≤ 102 → (b - 97 + 10 ≡ figure16 b) × (b - 97 + 10 < 16)
unfolding figure16
figure_of_letter b h k =
    let same : b - 97 + 10 ≡ b - 87 = omega arith in
    (simp (le-leb 48 b (omega arith), lt-leb b 57 (omega arith), le-leb 97 b h, le-leb b 102 k) same, omega arith)

pub no_figure : (b : ℕ) → (48 ≤ b → b ≤ 57 → ⊥) → (97 ≤ b → b ≤ 102 → ⊥) → 16 ≤ figure16 b
unfolding figure16
no_figure b h l = go (leb 48 b) refl (leb b 57) refl (leb 97 b) refl (leb b 102) refl
  where
    go : (p : Bool) → leb 48 b ≡ p → (q : Bool) → leb b 57 ≡ q → (r : Bool) → leb 97 b ≡ r → (s : Bool) → leb b 102 ≡ s
        → 16 ≤ cond (p && q) (b - 48) (cond (r && s) (b - 87) 16)
    go true e true f r g s k = absurd (h (leb-true 48 b e) (leb-true b 57 f))
    go true e false f true g true k = absurd (l (leb-true 97 b g) (leb-true b 102 k))
    go true e false f true g false k = omega arith
    go true e false f false g s k = omega arith
    go false e q f true g true k = absurd (l (leb-true 97 b g) (leb-true b 102 k))
    go false e q f true g false k = omega arith
    go false e q f false g s k = omega arith

module _ (text : List ℕ) (at : ℕ) where
  -- one that is no digit
  pub no_high : 16 ≤ figure16 (get_or text at 0) → 256 ≤ byte_at text at
  unfolding byte_at
  no_high h = simp (le-ltb (figure16 (get_or text at 0)) 16 h) (omega arith)

  module _ {high : ℕ} (is : high ≡ figure16 (get_or text at 0)) (h : high < 16) where
    pub no_low : 16 ≤ figure16 (get_or text (at + 1) 0) → 256 ≤ byte_at text at
    unfolding byte_at
    no_low l = simp (sym is, lt-ltb high 16 h, le-ltb (figure16 (get_or text (at + 1) 0)) 16 l) (omega arith)

    pub byte_is : {low : ℕ} → low ≡ figure16 (get_or text (at + 1) 0) → low < 16 → (16 * high + low ≡ byte_at text at) × (16 * high + low < 256)
    unfolding byte_at
    byte_is {low} e l = (simp (sym is, sym e, lt-ltb high 16 h, lt-ltb low 16 l), omega arith)

  pub no_high_byte : 256 ≤ byte_at text at → 65536 ≤ number_at text at
  unfolding number_at
  no_high_byte h = simp (le-ltb (byte_at text at) 256 h) (omega arith)

  module _ {high : ℕ} (is : high ≡ byte_at text at) (h : high < 256) where
    pub no_low_byte : 256 ≤ byte_at text (at + 2) → 65536 ≤ number_at text at
    unfolding number_at
    no_low_byte l = simp (sym is, lt-ltb high 256 h, le-ltb (byte_at text (at + 2)) 256 l) (omega arith)

    pub number_is : {low : ℕ} → low ≡ byte_at text (at + 2) → low < 256 → (256 * high + low ≡ number_at text at) × (256 * high + low < 65536)
    unfolding number_at
    number_is {low} e l = (simp (sym is, sym e, lt-ltb high 256 h, lt-ltb low 256 l), omega arith)
