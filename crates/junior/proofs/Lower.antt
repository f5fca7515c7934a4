-- Laws of `lower`, which takes of two that there may be the one with the lower number.
use Prim.Native.Nat.{ℕ, ◌≤◌, ◌<◌}
use mathlib.Core.Bool.{Bool, true, false, cond, ◌||◌}
use mathlib.Core.Path.{◌≡◌, refl}
use mathlib.Core.Option.{Option, none, some}
use native.Mathlib.Omega.{arith}
use lib.Dec.{leb}
use borrow.Author.Tests.{leb-true, leb-false, le-leb, lt-leb}
use Rattle.junior.specs.Waited.{lower}

-- whether there is one
abbrev pub found : {A : Type 0} → Option A → Bool
found none = false
found (some x) = true

pub found_some : {A : Type 0} (o : Option A) → found o ≡ true → (x : A) × (o ≡ some x)
found_some none h = let z : ◌≡◌ {A = ℕ} 0 1 = cc in absurd (omega arith)
found_some (some x) h = (x, refl)

pub found_none : {A : Type 0} (o : Option A) → found o ≡ false → o ≡ none
found_none none h = refl
found_none (some x) h = let z : ◌≡◌ {A = ℕ} 0 1 = cc in absurd (omega arith)

module _ {A : Type 0} (number : A → ℕ) where
  pub lower_none : (a : Option A) → lower number a none ≡ a
  lower_none none = refl
  lower_none (some x) = refl

  pub lower_found : (a b : Option A) → found (lower number a b) ≡ (found a || found b)
  lower_found none b = refl
  lower_found (some x) none = refl
  lower_found (some x) (some y) = refl

  pub lower_left : (x y : A) → number x ≤ number y → lower number (some x) (some y) ≡ some x
  lower_left x y h = rw (le-leb (number x) (number y) h)

  pub lower_right : (x y : A) → number y < number x → lower number (some x) (some y) ≡ some y
  lower_right x y h = rw (lt-leb (number x) (number y) h)

  lower_three : (x y z : A) (p q : Bool) → leb (number x) (number y) ≡ p → leb (number y) (number z) ≡ q
      → lower number (some (cond p x y)) (some z) ≡ lower number (some x) (some (cond q y z))
  lower_three x y z true true h k =
      let a = leb-true (number x) (number y) h in
      let b = leb-true (number y) (number z) k in
      rw (h, le-leb (number x) (number z) (omega arith))
  lower_three x y z true false h k = refl
  lower_three x y z false true h k = rw (h, k)
  lower_three x y z false false h k =
      let a = leb-false (number x) (number y) h in
      let b = leb-false (number y) (number z) k in
      rw (k, lt-leb (number x) (number z) (omega arith))

  pub lower_assoc : (a b c : Option A) → lower number (lower number a b) c ≡ lower number a (lower number b c)
  lower_assoc none b c = refl
  lower_assoc (some x) none c = refl
  lower_assoc (some x) (some y) none = refl
  lower_assoc (some x) (some y) (some z) =
      lower_three x y z (leb (number x) (number y)) (leb (number y) (number z)) refl refl
