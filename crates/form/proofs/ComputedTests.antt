-- Tests that are computed over the whole of a table, and what they say of each place in it.
use Prim.Native.Nat.{ℕ, zero, suc, ◌+◌, ◌≤◌, ◌<◌}
use mathlib.Core.Bool.{Bool, true, false, ◌&&◌, false≢true}
use mathlib.Core.Path.{◌≡◌, refl}
use mathlib.Core.List.{List, [], ◌∷◌}
use native.Mathlib.Omega.{arith}
use lib.Dec.{eqb}
use borrow.Author.Tests.{eqb-true, eqb-false}
use Rattle.form.specs.Inside.Rows.{same}

pub both : {a b : Bool} → (a && b) ≡ true → (a ≡ true) × (b ≡ true)
both {a = true} {b} e = (refl, e)
both {a = false} {b} e = absurd (false≢true e)

-- the first n places pass the test
unfoldable pub all : ℕ → (ℕ → Bool) → Bool
all zero f = true
all (suc n) f = f n && all n f

below : (a c : ℕ) → a < suc c → (a ≡ c → ⊥) → a < c
below a c l d = omega arith

pub all_at : (n : ℕ) (f : ℕ → Bool) → all n f ≡ true → (k : ℕ) → k < n → f k ≡ true
unfolding all
all_at zero f e k h = absurd (omega arith)
all_at (suc n) f e k h = go (eqb k n) refl (λ l. all_at n f (both {a = f n} {b = all n f} e).1 k l)
  where
    go : (b : Bool) → eqb k n ≡ b → (k < n → f k ≡ true) → f k ≡ true
    go true q r = rw (eqb-true k n q) (both {a = f n} {b = all n f} e).0
    go false q r = r (below k n h (eqb-false k n q))

-- something of each number from k on, n of them
abbrev pub Each : ℕ → ℕ → (ℕ → Type 0) → Type 0
Each zero k P = Unit {0}
Each (suc n) k P = P k × Each n (suc k) P

pub each_at : (P : ℕ → Type 0) (n k : ℕ) → Each n k P → (j : ℕ) → k ≤ j → j < k + n → P j
each_at P zero k e j l h = absurd (omega arith)
each_at P (suc n) k (a, e) j l h = go (eqb j k) refl (λ m. each_at P n (suc k) e j m (omega arith))
  where
    go : (b : Bool) → eqb j k ≡ b → (suc k ≤ j → P j) → P j
    go true q r = rw (eqb-true j k q) a
    go false q r = r (let n = eqb-false j k q in omega arith)

pub same_list : (l m : List ℕ) → same l m ≡ true → l ≡ m
unfolding same
same_list [] [] e = refl
same_list [] (y ∷ m) e = absurd (false≢true e)
same_list (x ∷ l) [] e = absurd (false≢true e)
same_list (x ∷ l) (y ∷ m) e =
    let a = eqb-true x y (both {a = eqb x y} {b = same l m} e).0 in
    let b = same_list l m (both {a = eqb x y} {b = same l m} e).1 in
    rw (a, b)
