-- The binary digits of one word, as events: what setting and clearing one does, that they say the word, how many are set, and which is the lowest.
use mathlib.Core.Path.{◌≡◌, refl, sym, ap, ◌∙◌}
use mathlib.Core.Bool.{true, false, cond}
use Prim.Native.Nat.{ℕ, zero, suc, ◌+◌, ◌-◌, ◌/◌, ◌%◌, ◌^◌, ◌<◌}
use native.Mathlib.Omega.{arith}
use native.Mathlib.Nat.{pow-suc, mod-eq_of_lt}
use lib.Dec.{eqb, eqb-zero-suc, eqb-suc-zero, eqb-suc-suc}
use lib.Bits.{bit_and, bit_or, and_step, or_step, or_zero_r, and_mask}
use lib.Pow.{pow-lt, shr-shr}
use lib.Count.{ones, ones_step, under, count_trailing_zeros}
use Rattle.events.specs.Events.{Events, put, how_many, lowest}
use Rattle.events.proofs.Events.{how_many_first}

-- the digits of w, the lowest first
unfoldable pub digits : ℕ → Events
digits w zero = eqb (w % 2) 1
digits w (suc j) = digits (w / 2) j

-- a shift brings a digit down
pub digits_at : (j w : ℕ) → eqb (w / 2 ^ j % 2) 1 ≡ digits w j
unfolding digits
digits_at zero w = let whole : w / 1 ≡ w = omega arith in simp whole
digits_at (suc j) w =
    let next : suc j ≡ 1 + j = omega arith in
    simp (next, sym (shr-shr w 1 j)) (digits_at j (w / 2))

or_half : (a b : ℕ) → bit_or a b / 2 ≡ bit_or (a / 2) (b / 2)
or_half a b = omega (arith, or_step a b)

and_half : (a b : ℕ) → bit_and a b / 2 ≡ bit_and (a / 2) (b / 2)
and_half a b = omega (arith, and_step a b)

-- setting digit i
pub digits_set : (i j w : ℕ) → digits (bit_or w (2 ^ i)) j ≡ put i true (digits w) j
unfolding digits put
digits_set zero zero w =
    let low : bit_or w 1 % 2 ≡ 1 = omega (arith, or_step w 1) in
    simp low
digits_set (suc i) zero w =
    let low : bit_or w (2 ^ suc i) % 2 ≡ w % 2 = omega (arith, or_step w (2 ^ suc i), pow-suc 2 i) in
    simp (low, eqb-zero-suc i)
digits_set zero (suc j) w = simp (or_half w 1, or_zero_r (w / 2), eqb-suc-zero j)
digits_set (suc i) (suc j) w =
    let half : 2 ^ suc i / 2 ≡ 2 ^ i = omega (arith, pow-suc 2 i) in
    simp (or_half w (2 ^ suc i), half, eqb-suc-suc j i) (digits_set i j (w / 2))

-- clearing digit i of the k digits of w
pub digits_clear : (k i j w : ℕ) → i < k → w < 2 ^ k → digits (bit_and w (2 ^ k - 1 - 2 ^ i)) j ≡ put i false (digits w) j
unfolding digits put
digits_clear zero i j w h f = absurd (omega arith)
digits_clear (suc k) zero zero w h f =
    let low : bit_and w (2 ^ suc k - 1 - 1) % 2 ≡ 0 = omega (arith, and_step w (2 ^ suc k - 1 - 1), pow-suc 2 k) in
    simp low
digits_clear (suc k) (suc i) zero w h f =
    let low : bit_and w (2 ^ suc k - 1 - 2 ^ suc i) % 2 ≡ w % 2 = omega (arith, and_step w (2 ^ suc k - 1 - 2 ^ suc i), pow-suc 2 k, pow-suc 2 i, pow-lt h) in
    simp (low, eqb-zero-suc i)
digits_clear (suc k) zero (suc j) w h f =
    let half : (2 ^ suc k - 1 - 1) / 2 ≡ 2 ^ k - 1 = omega (arith, pow-suc 2 k) in
    let fits : w / 2 < 2 ^ k = omega (arith, pow-suc 2 k) in
    simp (and_half w (2 ^ suc k - 1 - 1), half, and_mask (w / 2) k, mod-eq_of_lt fits, eqb-suc-zero j)
digits_clear (suc k) (suc i) (suc j) w h f =
    let half : (2 ^ suc k - 1 - 2 ^ suc i) / 2 ≡ 2 ^ k - 1 - 2 ^ i = omega (arith, pow-suc 2 k, pow-suc 2 i) in
    simp (and_half w (2 ^ suc k - 1 - 2 ^ suc i), half, eqb-suc-suc j i) (digits_clear k i j (w / 2) (omega arith) (omega (arith, pow-suc 2 k)))

low_digit : (d : ℕ) → d < 2 → cond (eqb d 1) 1 0 ≡ d
low_digit zero h = refl
low_digit (suc zero) h = refl
low_digit (suc (suc d)) h = absurd (omega arith)

-- the digits say the word
pub digits_same : (k v w : ℕ) → v < 2 ^ k → w < 2 ^ k → ((j : ℕ) → j < k → digits v j ≡ digits w j) → v ≡ w
unfolding digits
digits_same zero v w f g e = omega arith
digits_same (suc k) v w f g e =
    let low = rw (e 0 (omega arith)) at (low_digit (v % 2) (omega arith)) in
    let half = digits_same k (v / 2) (w / 2) (omega (arith, pow-suc 2 k)) (omega (arith, pow-suc 2 k)) (λ j h. e (suc j) (omega arith)) in
    omega (arith, low_digit (w % 2) (omega arith))

-- as many digits are set as are counted
pub digits_count : (k w : ℕ) → w < 2 ^ k → how_many k (digits w) ≡ ones w
unfolding digits how_many ones
digits_count zero w f = let none : w ≡ 0 = omega arith in rw none
digits_count (suc k) w f =
    rw (how_many_first k (digits w), digits_count k (w / 2) (omega (arith, pow-suc 2 k)), low_digit (w % 2) (omega arith)) (sym (ones_step w))

low_under : (d t : ℕ) → d < 2 → cond (eqb d 1) 0 (suc t) ≡ under d t
low_under zero t h = refl
low_under (suc zero) t h = refl
low_under (suc (suc d)) t h = absurd (omega arith)

-- the zeros below the lowest digit that is set say which it is
pub digits_lowest : (k w : ℕ) → lowest k (digits w) ≡ count_trailing_zeros k w
unfolding digits lowest count_trailing_zeros
digits_lowest zero w = refl
digits_lowest (suc k) w = ap (λ (t : ℕ). cond (eqb (w % 2) 1) 0 (suc t)) (digits_lowest k (w / 2)) ∙ low_under (w % 2) _ (omega arith)
