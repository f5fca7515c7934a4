-- Going back through a text to the bracket that is open at a place, step by step.
use Prim.Native.Nat.{ℕ, zero, suc, ◌+◌, ◌-◌, ◌<◌, ◌≤◌}
use mathlib.Core.Bool.{Bool, true, false, cond, ◌&&◌}
use mathlib.Core.Path.{◌≡◌, refl}
use mathlib.Core.List.{List}
use native.Mathlib.Omega.{arith}
use lib.Dec.{eqb}
use lib.ListN.{get_or}
use Rattle.scanner.specs.declared.levels.Bracket.{Bracket}
use Rattle.scanner.specs.Levels.{found, is_open, nested, spaced, back, by_spaces}

pub nested_le : (b n : ℕ) → nested b n ≤ n + 1
unfolding nested
nested_le b n = go (eqb b 41) (eqb b 40)
  where
    go : (s t : Bool) → cond s (suc n) (cond t (n - 1) n) ≤ n + 1
    go true t = omega arith
    go false true = omega arith
    go false false = omega arith

pub spaced_le : (b n m : ℕ) → spaced b n m ≤ m + 1
unfolding spaced
spaced_le b n m = go (eqb b 32) (eqb n 0)
  where
    go : (s t : Bool) → cond (s && t) (suc m) m ≤ m + 1
    go true true = omega arith
    go true false = omega arith
    go false t = omega arith

pub back_found : (t : List ℕ) (i n m : ℕ) → 0 < i → is_open (get_or t (i - 1) 0) n ≡ true → back t i n m ≡ found (i - 1) m
unfolding back
back_found t zero n m h e = absurd (omega arith)
back_found t (suc i) n m h e = let z : suc i - 1 ≡ i = omega arith in rw z (rw (rw z at e))

pub back_on : (t : List ℕ) (i n m : ℕ) → 0 < i → is_open (get_or t (i - 1) 0) n ≡ false
    → back t i n m ≡ back t (i - 1) (nested (get_or t (i - 1) 0) n) (spaced (get_or t (i - 1) 0) n m)
unfolding back
back_on t zero n m h e = absurd (omega arith)
back_on t (suc i) n m h e = let z : suc i - 1 ≡ i = omega arith in rw z (rw (rw z at e))

pub back_none : (t : List ℕ) (i n m : ℕ) → i ≤ 0 → back t i n m ≡ found 0 m
unfolding back
back_none t zero n m h = refl
back_none t (suc i) n m h = absurd (omega arith)

-- the bracket stands before the place
pub back_within : (t : List ℕ) (i n m : ℕ) → (back t i n m).at ≤ i
unfolding back
back_within t zero n m = omega arith
back_within t (suc i) n m = go (is_open (get_or t i 0) n) (back t i (nested (get_or t i 0) n) (spaced (get_or t i 0) n m))
    (back_within t i (nested (get_or t i 0) n) (spaced (get_or t i 0) n m))
  where
    go : (s : Bool) (r : Bracket) → r.at ≤ i → (cond s (found i m) r).at ≤ suc i
    go true r h = omega arith
    go false r h = omega arith

pub by_more : (none one more c : ℕ) → (c ≡ 0 → ⊥) → (c ≡ 1 → ⊥) → more ≡ by_spaces none one more c
by_more none one more zero e f = absurd (e refl)
by_more none one more (suc zero) e f = absurd (f refl)
by_more none one more (suc (suc c)) e f = refl
