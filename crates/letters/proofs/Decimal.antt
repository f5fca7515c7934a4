-- Decimal numbers: the two equations that define them, and how long they are.
use Prim.Native.Nat.{ℕ, zero, suc, ◌+◌, ◌-◌, ◌/◌, ◌%◌, ◌^◌, ◌≤◌, ◌<◌}
use mathlib.Core.Bool.{Bool, true, false, cond, ◌&&◌}
use mathlib.Core.Path.{◌≡◌, refl, ap, ◌∙◌}
use mathlib.Core.List.{List, [], ◌∷◌, ◌++◌}
use native.Mathlib.Nat.{pow-suc}
use native.Mathlib.Omega.{arith}
use lib.Dec.{leb, ltb}
use lib.ListN.{length, length-append}
use borrow.Author.Tests.{lt-ltb, le-ltb, le-leb, ltb-true, ltb-false, leb-true}
use Rattle.letters.specs.Decimal.{digits, decimal, figure}

-- a number has one digit or more
pub one_or_more : {P : Type 0} (n : ℕ) → (n < 10 → P) → (10 ≤ n → P) → P
one_or_more {P} n f g = go (ltb n 10) refl
  where
    go : (t : Bool) → ltb n 10 ≡ t → P
    go true e = f (ltb-true n 10 e)
    go false e = g (ltb-false n 10 e)

-- more room for digits changes nothing
digits_same : (f g n : ℕ) → n < f → n < g → digits f n ≡ digits g n
unfolding digits
digits_same zero g n h k = absurd (omega arith)
digits_same (suc f) zero n h k = absurd (omega arith)
digits_same (suc f) (suc g) n h k =
    one_or_more n
    (λ l. simp (lt-ltb n 10 l))
    (λ l. simp (le-ltb n 10 l, digits_same f g (n / 10) (omega arith) (omega arith)))

-- a number below 10 is a digit
pub decimal_digit : (n : ℕ) → n < 10 → decimal n ≡ (48 + n) ∷ []
unfolding decimal
decimal_digit n h = let whole : n % 10 ≡ n = omega arith in simp (lt-ltb n 10 h, whole)

-- another one has its last digit behind the rest
pub decimal_more : (n : ℕ) → 10 ≤ n → decimal n ≡ decimal (n / 10) ++ ((48 + n % 10) ∷ [])
unfolding decimal
decimal_more n h =
    simp (le-ltb n 10 h) (ap (λ (l : List ℕ). l ++ ((48 + n % 10) ∷ [])) (digits_same n (suc (n / 10)) (n / 10) (omega arith) (omega arith)))

-- it is one longer than the rest
pub more_long : (n : ℕ) → 10 ≤ n → length (decimal n) ≡ length (decimal (n / 10)) + 1
more_long n h = ap length (decimal_more n h) ∙ length-append (decimal (n / 10)) ((48 + n % 10) ∷ [])

-- every number has a digit
pub decimal_some : (n : ℕ) → 0 < length (decimal n)
decimal_some n =
    one_or_more n
    (λ l. omega (arith, ap length (decimal_digit n l)))
    (λ l. omega (arith, more_long n l))

-- a number below 10 ^ k has at most k digits
pub decimal_length : (k n : ℕ) → n < 10 ^ suc k → length (decimal n) ≤ suc k
decimal_length zero n h = omega (arith, ap length (decimal_digit n (omega arith)))
decimal_length (suc k) n h =
    one_or_more n
    (λ l. omega (arith, ap length (decimal_digit n l)))
    (λ l. omega (arith, more_long n l, decimal_length k (n / 10) (omega (arith, pow-suc 10 (suc k)))))

-- no more digits than there is room for
digits_few : (f n : ℕ) → length (digits f n) ≤ f
unfolding digits
digits_few zero n = omega arith
digits_few (suc f) n = go (digits_few f (n / 10)) (ltb n 10)
  where
    go : length (digits f (n / 10)) ≤ f → (b : Bool) → length (cond b [] (digits f (n / 10)) ++ ((48 + n % 10) ∷ [])) ≤ suc f
    go h true = omega arith
    go h false = simp length-append (omega arith)

-- nor than one more than the number
pub decimal_few : (n : ℕ) → length (decimal n) ≤ n + 1
unfolding decimal
decimal_few n = omega (arith, digits_few (suc n) n)

-- a byte by its figure
pub figure_of_digit : (b : ℕ) → 48 ≤ b → b ≤ 57 → (b - 48 ≡ figure b) × (b - 48 < 10)
unfolding figure
figure_of_digit b h k = (simp (le-leb 48 b h, le-leb b 57 k), omega arith)

pub no_figure : (b : ℕ) → (48 ≤ b → b ≤ 57 → ⊥) → figure b ≡ 10
unfolding figure
no_figure b h = go (leb 48 b) refl (leb b 57) refl
  where
    go : (s : Bool) → leb 48 b ≡ s → (t : Bool) → leb b 57 ≡ t → cond (s && t) (b - 48) 10 ≡ 10
    go true e true f = absurd (h (leb-true 48 b e) (leb-true b 57 f))
    go true e false f = refl
    go false e t f = refl
