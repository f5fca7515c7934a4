-- The levels at the end of their bytes.
use Prim.Native.Nat.{ℕ, suc, ◌+◌, ◌-◌, ◌≤◌, ◌<◌}
use mathlib.Core.Bool.{Bool, true, false, cond}
use mathlib.Core.Path.{◌≡◌, sym, ap, ◌∙◌}
use mathlib.Core.List.{List, ◌∷◌}
use native.Mathlib.Nat.{add-zero}
use native.Mathlib.Omega.{arith}
use borrow.Author.Tests.{ne_eqb}
use lib.Dec.{eqb}
use lib.ListN.{length, set, drop, length-set, length-drop}
use lib.Seq.{drop-set-add, drop-set-lt, drop-cons, get_or-set_same}
use Rattle.form.specs.Inside.Rows.{pair_of}
use Rattle.builder.specs.Building.{relevel, Stacked, Levels}

stacked_set : {t l : List ℕ} {d : ℕ} (x : ℕ) → Stacked t d l → Stacked (set t d x) d (set l 0 x)
stacked_set {t} {l} {d} x s =
    let h = s.within in
    let e : drop d (set t (d + 0) x) ≡ set (drop d t) 0 x = drop-set-add d t 0 x in
    record { within = rw (length-set t d x) h; there = rw (add-zero d) at e ∙ ap (λ y. set y 0 x) s.there }

stacked_either :
    {t u l k : List ℕ} {d : ℕ} (b : Bool)
    → Stacked t d l
    → Stacked u d k
    → Stacked (cond b t u) d (cond b l k)
stacked_either true s r = s
stacked_either false s r = r

module _ (b : ℕ) (w t : List ℕ) (d : ℕ) where
  -- a blank
  pub level_blank :
      (t' : List ℕ) → b ≡ 32 → t' ≡ cond (eqb (pair_of w) 0) t (set t d (pair_of w)) → Levels (relevel b w) t d t' d
  unfolding relevel
  level_blank t' e f l s h = rw (e, f) (stacked_either (eqb (pair_of w) 0) s (stacked_set (pair_of w) s))

  -- `(`
  pub level_opens : (r : ℕ) → b ≡ 40 → r ≤ length t → drop r t ≡ drop 1 (drop d t) → Levels (relevel b w) t d t r
  unfolding relevel
  level_opens r e n f l s h = rw e (record { within = n; there = f ∙ ap (drop 1) s.there })

  -- `)`
  pub room_to_close : (l : List ℕ) → b ≡ 41 → Stacked t d l → length (relevel b w l) ≤ length t → 1 ≤ d
  unfolding relevel
  room_to_close l e s h =
      let k : length l ≡ length t - d = sym (ap length s.there) ∙ length-drop d t in
      let m : suc (length l) ≤ length t = rw e at h in
      omega arith

  pub level_closes : b ≡ 41 → Levels (relevel b w) t d (set t (d - 1) 0) (d - 1)
  unfolding relevel
  level_closes e l s h =
      let o = room_to_close l e s h in
      let a : d - 1 < length t = omega arith in
      let a' : d - 1 < length (set t (d - 1) 0) = rw (length-set t (d - 1) 0) a in
      let f : suc (d - 1) ≡ d = omega arith in
      let g : drop (d - 1) (set t (d - 1) 0) ≡ 0 ∷ drop d t =
      drop-cons (set t (d - 1) 0) (d - 1) 0 a'
      ∙ rw (get_or-set_same t (d - 1) 0 0 a, f, drop-set-lt d t (d - 1) 0 (omega arith)) in
      rw e (record { within = omega arith; there = g ∙ ap (λ y. 0 ∷ y) s.there })

  -- `,`
  pub level_comma : (t' : List ℕ) → b ≡ 44 → t' ≡ set t d 1 → Levels (relevel b w) t d t' d
  unfolding relevel
  level_comma t' e f l s h = rw (e, f) (stacked_set 1 s)

  -- any other byte
  pub level_other :
      (b ≡ 32 → ⊥) → (b ≡ 40 → ⊥) → (b ≡ 41 → ⊥) → (b ≡ 44 → ⊥) → Levels (relevel b w) t d t d
  unfolding relevel
  level_other e f g o l s h = simp (ne_eqb b 32 e, ne_eqb b 40 f, ne_eqb b 41 g, ne_eqb b 44 o) s
