-- Ways as numbers: a number of few digits is a short way, and the digits 0 at its end are what a lone event closes.
use Prim.Native.Nat.{ℕ, zero, suc, ◌+◌, ◌-◌, ◌*◌, ◌/◌, ◌%◌, ◌^◌, ◌≤◌, ◌<◌}
use mathlib.Core.Bool.{Bool, true, false}
use mathlib.Core.Path.{◌≡◌, refl, sym, ap, ◌∙◌}
use mathlib.Core.List.{[], ◌∷◌}
use native.Mathlib.Omega.{arith}
use native.Mathlib.Nat.{pow-suc}
use lib.ListN.{length}
use lib.Dec.{ltb}
use borrow.Author.Tests.{lt-ltb, ltb-true}
use mir.Val.{bool_byte}
use lib.Count.{count_trailing_zeros, under}
use lib.Pow.{shr-shr}
use Rattle.table.specs.Inside.Ways.{Way, outward, numbered}

-- o less 1, unless it is 1
abbrev pub less_one : ℕ → ℕ
less_one o = o - bool_byte (ltb 1 o)

pub less_one_fits : (o : ℕ) → bool_byte (ltb 1 o) ≤ o
less_one_fits o = go (ltb 1 o) refl
  where
    go : (b : Bool) → ltb 1 o ≡ b → bool_byte b ≤ o
    go true e = omega (arith, ltb-true 1 o e)
    go false e = omega arith

pub numbered_pos : (w : Way) → 1 ≤ numbered w
unfolding numbered
numbered_pos [] = omega arith
numbered_pos (false ∷ w) = omega (arith, numbered_pos w)
numbered_pos (true ∷ w) = omega arith

pub numbered_short : (h : ℕ) (w : Way) → numbered w < 2 ^ h → length w < h
unfolding numbered
numbered_short zero w l = absurd (omega (arith, numbered_pos w))
numbered_short (suc h) [] l = omega arith
numbered_short (suc h) (false ∷ w) l = let k = numbered_short h w (omega (arith, pow-suc 2 h)) in omega arith
numbered_short (suc h) (true ∷ w) l = let k = numbered_short h w (omega (arith, pow-suc 2 h)) in omega arith

-- a number below 2 ^ k but 0 has fewer than k digits 0 at its end
pub zeros_below : (k n : ℕ) → 0 < n → n < 2 ^ k → count_trailing_zeros k n < k
unfolding count_trailing_zeros
zeros_below zero n p l = absurd (omega arith)
zeros_below (suc k) n p l = go (n % 2) refl (λ h. zeros_below k (n / 2) h (omega (arith, pow-suc 2 k)))
  where
    go : (d : ℕ) → n % 2 ≡ d → (0 < n / 2 → count_trailing_zeros k (n / 2) < k) → under d (count_trailing_zeros k (n / 2)) < suc k
    go zero e f = omega (arith, f (omega arith))
    go (suc d) e f = omega arith

-- a way's number without its digits 0 at the end, less 1 unless only its leading 1 is left, is the number of the way behind a lone event
pub closes : (k : ℕ) (w : Way) → length w < k
    → less_one (numbered w / 2 ^ count_trailing_zeros k (numbered w)) ≡ numbered (outward w)
unfolding numbered outward count_trailing_zeros
closes zero w l = absurd (omega arith)
closes (suc k) [] l = refl
closes (suc k) (false ∷ w) l =
    let n = numbered w in
    let even : 2 * n % 2 ≡ 0 = omega arith in
    let half : 2 * n / 2 ≡ n = omega arith in
    let z = count_trailing_zeros k n in
    let next : suc z ≡ 1 + z = omega arith in
    let shifted : 2 * n / 2 ^ (1 + z) ≡ n / 2 ^ z = sym (shr-shr (2 * n) 1 z) ∙ ap (λ (x : ℕ). x / 2 ^ z) half in
    simp (even, half, next, shifted) (closes k w (omega arith))
closes (suc k) (true ∷ w) l =
    let n = numbered w in
    let odd : (2 * n + 1) % 2 ≡ 1 = omega arith in
    let whole : (2 * n + 1) / 1 ≡ 2 * n + 1 = omega arith in
    simp (odd, whole, lt-ltb 1 (2 * n + 1) (omega (arith, numbered_pos w))) (omega arith)

pub outward_less : (w : Way) → numbered (outward w) ≤ numbered w
unfolding numbered outward
outward_less [] = omega arith
outward_less (false ∷ w) = omega (arith, outward_less w)
outward_less (true ∷ w) = omega arith
