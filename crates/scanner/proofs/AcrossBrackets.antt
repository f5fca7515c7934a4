-- The bracket round a place, byte by byte; and over a bracket that closes.
use Prim.Native.Nat.{ℕ, zero, suc, ◌+◌, ◌-◌, ◌<◌}
use mathlib.Core.Bool.{Bool, true, false, cond, ◌&&◌}
use mathlib.Core.Path.{◌≡◌, refl, sym, subst, ◌∙◌, ap}
use mathlib.Core.List.{List}
use native.Mathlib.Omega.{arith}
use lib.Dec.{eqb}
use lib.ListN.{get_or}
use borrow.Author.Tests.{eqb-true, eqb-false, ne_eqb}
use Rattle.scanner.specs.declared.levels.Bracket.{Bracket}
use Rattle.scanner.specs.Levels.{found, is_open, nested, spaced, back, around}

back_here : (t : List ℕ) (i n m : ℕ) → is_open (get_or t i 0) n ≡ true → back t (suc i) n m ≡ found i m
unfolding back
back_here t i n m e = rw e

back_past : (t : List ℕ) (i n m n' m' : ℕ) → is_open (get_or t i 0) n ≡ false → nested (get_or t i 0) n ≡ n'
    → spaced (get_or t i 0) n m ≡ m' → back t (suc i) n m ≡ back t i n' m'
unfolding back
back_past t i n m n' m' e f g = rw (e, f, g)

open_at : (b : ℕ) → b ≡ 40 → is_open b 0 ≡ true
unfolding is_open
open_at b e = rw e

open_not : (b n : ℕ) → (n ≡ 0 → ⊥) → is_open b n ≡ false
unfolding is_open
open_not b n e = rw (ne_eqb n 0 e) (go (eqb b 40))
  where
    go : (s : Bool) → s && false ≡ false
    go true = refl
    go false = refl

open_other : (b n : ℕ) → (b ≡ 40 → ⊥) → is_open b n ≡ false
unfolding is_open
open_other b n e = rw (ne_eqb b 40 e)

nested_open : (b n : ℕ) → b ≡ 40 → nested b n ≡ n - 1
unfolding nested
nested_open b n e = rw e

nested_close : (b n : ℕ) → b ≡ 41 → nested b n ≡ suc n
unfolding nested
nested_close b n e = rw e

nested_other : (b n : ℕ) → (b ≡ 40 → ⊥) → (b ≡ 41 → ⊥) → nested b n ≡ n
unfolding nested
nested_other b n e f = rw (ne_eqb b 41 f, ne_eqb b 40 e)

spaced_other : (b n m : ℕ) → (b ≡ 32 → ⊥) → spaced b n m ≡ m
unfolding spaced
spaced_other b n m e = rw (ne_eqb b 32 e)

spaced_deep : (b n m : ℕ) → (n ≡ 0 → ⊥) → spaced b n m ≡ m
unfolding spaced
spaced_deep b n m e = rw (ne_eqb n 0 e) (go (eqb b 32))
  where
    go : (s : Bool) → cond (s && false) (suc m) m ≡ m
    go true = refl
    go false = refl

-- spaces that were seen before are counted on
back_more : (t : List ℕ) (i n m : ℕ) → back t i n (suc m) ≡ found (back t i n m).at (suc (back t i n m).spaces)
unfolding back spaced
back_more t zero n m = refl
back_more t (suc i) n m =
    go (is_open (get_or t i 0) n) (eqb (get_or t i 0) 32 && eqb n 0) (back_more t i (nested (get_or t i 0) n) (suc m))
    (back_more t i (nested (get_or t i 0) n) m)
  where
    u : ℕ → Bracket
    u k = back t i (nested (get_or t i 0) n) k

    go : (s r : Bool) → u (suc (suc m)) ≡ found (u (suc m)).at (suc (u (suc m)).spaces)
        → u (suc m) ≡ found (u m).at (suc (u m).spaces)
        → cond s (found i (suc m)) (u (cond r (suc (suc m)) (suc m)))
        ≡ found (cond s (found i m) (u (cond r (suc m) m))).at (suc (cond s (found i m) (u (cond r (suc m) m))).spaces)
    go true r e f = refl
    go false true e f = e
    go false false e f = f

-- one byte of the law below
module _ (t : List ℕ) (i n m d l s : ℕ) (e : s ≡ n + suc d) (h : 0 < (back t (suc i) n m).at)
    (ih : (n' m' s' : ℕ) → s' ≡ n' + suc d → 0 < (back t i n' m').at → back t i s' l ≡ back t (back t i n' m').at d l) where
  abbrev Over : Type 0
  Over = back t (suc i) s l ≡ back t (back t (suc i) n m).at d l

  via : (n' m' s' : ℕ) → back t (suc i) n m ≡ back t i n' m' → back t (suc i) s l ≡ back t i s' l → s' ≡ n' + suc d → Over
  via n' m' s' r q z =
      q ∙ (ih n' m' s' z (subst (λ (x : Bracket). 0 < x.at) r h) ∙ ap (λ (x : Bracket). back t x.at d l) (sym r))

  deep : s ≡ 0 → ⊥
  deep z = omega arith

  over_found : get_or t i 0 ≡ 40 → n ≡ 0 → Over
  over_found b z =
      let r : back t (suc i) n m ≡ found i m = back_here t i n m (rw z (open_at (get_or t i 0) b)) in
      let k : s - 1 ≡ d = omega arith in
      let q = back_past t i s l d l (open_not (get_or t i 0) s deep) (nested_open (get_or t i 0) s b ∙ k)
      (spaced_other (get_or t i 0) s l (λ y. omega arith)) in
      q ∙ ap (λ (x : Bracket). back t x.at d l) (sym r)

  over_open : get_or t i 0 ≡ 40 → (n ≡ 0 → ⊥) → Over
  over_open b z =
      let k : s - 1 ≡ n - 1 + suc d = omega arith in
      via (n - 1) m (s - 1)
      (back_past t i n m (n - 1) m (open_not (get_or t i 0) n z) (nested_open (get_or t i 0) n b)
      (spaced_other (get_or t i 0) n m (λ y. omega arith)))
      (back_past t i s l (s - 1) l (open_not (get_or t i 0) s deep) (nested_open (get_or t i 0) s b)
      (spaced_other (get_or t i 0) s l (λ y. omega arith))) k

  over_close : get_or t i 0 ≡ 41 → Over
  over_close b =
      let k : suc s ≡ suc n + suc d = omega arith in
      via (suc n) m (suc s)
      (back_past t i n m (suc n) m (open_other (get_or t i 0) n (λ y. omega arith)) (nested_close (get_or t i 0) n b)
      (spaced_other (get_or t i 0) n m (λ y. omega arith)))
      (back_past t i s l (suc s) l (open_other (get_or t i 0) s (λ y. omega arith)) (nested_close (get_or t i 0) s b)
      (spaced_other (get_or t i 0) s l (λ y. omega arith))) k

  over_other : (get_or t i 0 ≡ 40 → ⊥) → (get_or t i 0 ≡ 41 → ⊥) → Over
  over_other b f =
      via n (spaced (get_or t i 0) n m) s
      (back_past t i n m n (spaced (get_or t i 0) n m) (open_other (get_or t i 0) n b) (nested_other (get_or t i 0) n b f) refl)
      (back_past t i s l s l (open_other (get_or t i 0) s b) (nested_other (get_or t i 0) s b f)
      (spaced_deep (get_or t i 0) s l deep)) e

  over : Over
  over = go (eqb (get_or t i 0) 40) refl (eqb (get_or t i 0) 41) refl (eqb n 0) refl
    where
      go : (x : Bool) → eqb (get_or t i 0) 40 ≡ x → (y : Bool) → eqb (get_or t i 0) 41 ≡ y → (z : Bool) → eqb n 0 ≡ z → Over
      go true x y f true z = over_found (eqb-true (get_or t i 0) 40 x) (eqb-true n 0 z)
      go true x y f false z = over_open (eqb-true (get_or t i 0) 40 x) (eqb-false n 0 z)
      go false x true f q z = over_close (eqb-true (get_or t i 0) 41 f)
      go false x false f q z = over_other (eqb-false (get_or t i 0) 40 x) (eqb-false (get_or t i 0) 41 f)

nowhere : (t : List ℕ) (n m : ℕ) → 0 < (back t 0 n m).at → ⊥
unfolding back
nowhere t n m h = omega arith

-- where n brackets are closed and their opening is found, going on from there is the same as going on over them
across : (t : List ℕ) (i n m d l s : ℕ) → s ≡ n + suc d → 0 < (back t i n m).at → back t i s l ≡ back t (back t i n m).at d l
across t zero n m d l s e h = absurd (nowhere t n m h)
across t (suc i) n m d l s e h = over t i n m d l s e h (λ n' m' s'. across t i n' m' d l s')

pub around_same : (t : List ℕ) (i : ℕ) → (get_or t i 0 ≡ 40 → ⊥) → (get_or t i 0 ≡ 41 → ⊥) → (get_or t i 0 ≡ 32 → ⊥)
    → around t (suc i) ≡ around t i
around_same t i e f g =
    back_past t i 0 0 0 0 (open_other (get_or t i 0) 0 e) (nested_other (get_or t i 0) 0 e f) (spaced_other (get_or t i 0) 0 0 g)

spaced_here : (b : ℕ) → b ≡ 32 → spaced b 0 0 ≡ 1
unfolding spaced
spaced_here b e = rw e

pub around_on : (t : List ℕ) (i o c : ℕ) → (get_or t i 0 ≡ 40 → ⊥) → (get_or t i 0 ≡ 41 → ⊥) → around t i ≡ found o c
    → around t (suc i) ≡ found o (cond (eqb (get_or t i 0) 32) (suc c) c)
around_on t i o c e f a = go (eqb (get_or t i 0) 32) refl
  where
    go : (s : Bool) → eqb (get_or t i 0) 32 ≡ s → around t (suc i) ≡ found o (cond s (suc c) c)
    go false q = around_same t i e f (eqb-false (get_or t i 0) 32 q) ∙ a
    go true q =
        back_past t i 0 0 0 1 (open_other (get_or t i 0) 0 e) (nested_other (get_or t i 0) 0 e f)
        (spaced_here (get_or t i 0) (eqb-true (get_or t i 0) 32 q))
        ∙ (back_more t i 0 0 ∙ ap (λ (r : Bracket). found r.at (suc r.spaces)) a)

pub around_open : (t : List ℕ) (i : ℕ) → get_or t i 0 ≡ 40 → around t (suc i) ≡ found i 0
around_open t i e = back_here t i 0 0 (open_at (get_or t i 0) e)

pub around_close : (t : List ℕ) (i o c : ℕ) → get_or t i 0 ≡ 41 → 0 < o → around t i ≡ found o c → around t (suc i) ≡ around t o
around_close t i o c e h a =
    let k : 1 ≡ 0 + suc 0 = omega arith in
    back_past t i 0 0 1 0 (open_other (get_or t i 0) 0 (λ y. omega arith)) (nested_close (get_or t i 0) 0 e)
    (spaced_other (get_or t i 0) 0 0 (λ y. omega arith))
    ∙ (across t i 0 0 0 0 1 k (rw a h) ∙ ap (λ (r : Bracket). around t r.at) a)
