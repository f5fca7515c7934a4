-- Little laws about numbers and truth values.
use Prim.Native.Nat.{ℕ, zero, suc, ◌≤◌, ◌<◌}
use mathlib.Core.Bool.{Bool, true, false}
use mathlib.Core.Path.{◌≡◌, refl}
use native.Mathlib.Omega.{arith}
use lib.Dec.{ltb}
use borrow.Author.Tests.{ltb-true, ltb-false}

-- i is below e, or it isn't
pub below_or : {A : Type 0} (i e : ℕ) → (i < e → A) → (e ≤ i → A) → A
below_or {A} i e f g = go (ltb i e) refl
  where
    go : (b : Bool) → ltb i e ≡ b → A
    go true h = f (ltb-true i e h)
    go false h = g (ltb-false i e h)

-- k is none of the first n numbers
abbrev pub NoneOf : ℕ → ℕ → Type 0
NoneOf zero k = Unit {0}
NoneOf (suc n) k = NoneOf n k × (k ≡ n → ⊥)

pub none_of : (n k : ℕ) → NoneOf n k → n ≤ k
none_of zero k r = omega arith
none_of (suc n) k (r, d) = let h = none_of n k r in omega arith
