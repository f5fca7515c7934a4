-- Heights of configurations: what a good record's height asks of its parts', and that a height at most h is at most any more.
use Prim.Native.Nat.{ℕ, zero, suc, ◌+◌, ◌-◌, ◌≤◌}
use mathlib.Core.Bool.{Bool, true, false, cond, ◌&&◌, false≢true}
use mathlib.Core.Path.{◌≡◌, refl, ap}
use mathlib.Core.List.{List}
use native.Mathlib.Omega.{arith}
use lib.Dec.{eqb, eqb-suc-zero, eqb-suc-suc}
use borrow.Author.Tests.{eqb-true}
use Rattle.table.specs.Records.{part_kind}
use Rattle.table.specs.Good.{parts, good_but_height, good_parts, height_at_most, good_configuration}
use Rattle.table.specs.Inside.{Begins}
use Rattle.table.proofs.Laid.{both, size_of, kind_of}

-- the height of a good record with that many parts
pub height_good : (t : List ℕ) (h j p : ℕ) → good_but_height t j ≡ true → parts (kind_of t j) ≡ p
    → height_at_most t (suc h) j ≡ good_parts p (height_at_most t h (j + 1)) (height_at_most t h (j + 1 + size_of t (j + 1)))
unfolding height_at_most
height_good t h j p g e = rw (g, e)

of_parts : (p : ℕ) (a b a' b' : Bool) → (a ≡ true → a' ≡ true) → (b ≡ true → b' ≡ true)
    → good_parts p a b ≡ true → good_parts p a' b' ≡ true
of_parts zero a b a' b' f g e = refl
of_parts (suc zero) a b a' b' f g e = f e
of_parts (suc (suc p)) a b a' b' f g e = let h = both e in rw (f h.0, g h.1)

pub taller : (t : List ℕ) (h j : ℕ) → height_at_most t h j ≡ true → height_at_most t (suc h) j ≡ true
unfolding height_at_most
taller t zero j e = absurd (false≢true e)
taller t (suc h) j e =
    go (good_but_height t j) (parts (kind_of t j)) (taller t h (j + 1)) (taller t h (j + 1 + size_of t (j + 1))) e
  where
    go : {a b a' b' : Bool} (g : Bool) (p : ℕ) → (a ≡ true → a' ≡ true) → (b ≡ true → b' ≡ true)
        → cond g (good_parts p a b) true ≡ true → cond g (good_parts p a' b') true ≡ true
    go {a} {b} {a'} {b'} true p f k e = of_parts p a b a' b' f k e
    go {a} {b} {a'} {b'} false p f k e = refl

pub taller_by : (t : List ℕ) (d h j : ℕ) → height_at_most t h j ≡ true → height_at_most t (d + h) j ≡ true
taller_by t zero h j e = let same : 0 + h ≡ h = omega arith in rw same e
taller_by t (suc d) h j e =
    let next : suc d + h ≡ suc (d + h) = omega arith in
    rw next (taller t (d + h) j (taller_by t d h j e))

pub lone_good : (t : List ℕ) (c j : ℕ) → Begins t c j → (eqb (part_kind t c) 0 && good_but_height t j) ≡ true
    → good_configuration t j ≡ true
unfolding parts good_configuration
lone_good t c j b e =
    let h = both {a = eqb (part_kind t c) 0} e in
    let kind = rw b.at at (eqb-true (part_kind t c) 0 h.0) in
    rw (h.1, height_good t 15 j 0 h.1 (ap parts kind))

-- no good event and no part: not good
pub not_good : (t : List ℕ) (c j : ℕ) → (eqb (part_kind t c) 0 && good_but_height t j) ≡ false
    → 0 ≡ cond (good_but_height t j) (parts (part_kind t c)) 0 → good_configuration t j ≡ false
unfolding parts good_configuration
not_good t c j e p = rw (go (part_kind t c) (good_but_height t j) e p)
  where
    some : (b : Bool) → ◌≡◌ {A = ℕ} 0 (cond b 1 2) → ⊥
    some true h = omega arith
    some false h = omega arith

    go : (k : ℕ) (g : Bool) → (eqb k 0 && g) ≡ false → 0 ≡ cond g (parts k) 0 → g ≡ false
    go k false e p = refl
    go zero true e p = e
    go (suc k) true e p = absurd (some (eqb (suc k) 1) (rw (eqb-suc-zero k) at p))

-- a part: good if it is low
pub good_low : (t : List ℕ) (c j r : ℕ) → r ≡ cond (good_but_height t j) (parts (part_kind t c)) 0 → (r ≡ 0 → ⊥)
    → good_configuration t j ≡ height_at_most t 16 j
unfolding good_configuration
good_low t c j r e n = go (good_but_height t j) refl
  where
    go : (g : Bool) → good_but_height t j ≡ g → (good_but_height t j && height_at_most t 16 j) ≡ height_at_most t 16 j
    go true g = rw g
    go false g = absurd (n (rw g at e))

pub few_parts : {t : List ℕ} {c j r : ℕ} → Begins t c j → r ≡ cond (good_but_height t j) (parts (part_kind t c)) 0 → r ≤ 2
unfolding parts
few_parts {t} {c} {j} b e = rw e (go (good_but_height t j) (eqb (part_kind t c) 0) (eqb (part_kind t c) 1))
  where
    go : (g x y : Bool) → cond g (cond x 0 (cond y 1 2)) 0 ≤ 2
    go true true y = omega arith
    go true false true = omega arith
    go true false false = omega arith
    go false x y = omega arith

by_parts : (p : ℕ) (a b : Bool) → good_parts p a b ≡ cond (eqb p 0) true (cond a (cond (eqb p 1) true b) false)
by_parts zero a b = refl
by_parts (suc zero) true b = refl
by_parts (suc zero) false b = refl
by_parts (suc (suc p)) true b = rw (eqb-suc-zero (suc p), eqb-suc-suc (suc p) 0, eqb-suc-zero p)
by_parts (suc (suc p)) false b = rw (eqb-suc-zero (suc p))

-- a height by the number of parts, as above
pub low_step : (t : List ℕ) (c j h r : ℕ) → Begins t c j → r ≡ cond (good_but_height t j) (parts (part_kind t c)) 0 → (h ≡ 0 → ⊥)
    → height_at_most t h j
    ≡ cond (eqb r 0) true
    (cond (height_at_most t (h - 1) (j + 1)) (cond (eqb r 1) true (height_at_most t (h - 1) (j + 1 + size_of t (j + 1)))) false)
unfolding height_at_most
low_step t c j zero r b e n = absurd (n refl)
low_step t c j (suc h) r b e n =
    let same : suc h - 1 ≡ h = omega arith in
    rw (same, e, b.at) (go (good_but_height t j) (parts (kind_of t j)) (height_at_most t h (j + 1)) (height_at_most t h (j + 1 + size_of t (j + 1))))
  where
    go : (g : Bool) (p : ℕ) (x y : Bool)
        → cond g (good_parts p x y) true ≡ cond (eqb (cond g p 0) 0) true (cond x (cond (eqb (cond g p 0) 1) true y) false)
    go true p x y = by_parts p x y
    go false p x y = refl
