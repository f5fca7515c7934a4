-- A reader that goes out of a bracket stays where the text and the table of names agree; at the end of the text nothing is left over.
use Rattle.scanner.specs.declared.levels.Frame.{Frame}
use Rattle.std.specs.Prelude.{Option, None}
use Prim.Native.Nat.{ℕ, zero, suc, ◌+◌, ◌-◌, ◌%◌, ◌<◌, ◌≤◌}
use mathlib.Core.Bool.{Bool, true, false, cond, ◌&&◌, false≢true}
use mathlib.Core.Path.{◌≡◌, refl, sym, ◌∙◌, ap, subst}
use mathlib.Core.List.{List, [], ◌++◌}
use native.Mathlib.Omega.{arith}
use lib.Dec.{eqb, ltb}
use lib.ListN.{get_or}
use borrow.Author.Tests.{ne_eqb}
use Rattle.scanner.specs.declared.levels.Level.{Level}
use Rattle.scanner.specs.declared.levels.Level.TheVariants.{Top, Several, Branches, Test, One}
use Rattle.scanner.specs.declared.scan.Place.{Place}
use Rattle.form.specs.Inside.Machine.{Stack}
use Rattle.form.specs.Inside.Rows.{form_row, form_count, code_at, name_end, codes}
use Rattle.scanner.specs.Rules.{held}
use Rattle.scanner.specs.Levels.{found, around, level_in, level_from, level_of, level_at, rest_of, outer_at, rest_at, Under, top}
use Rattle.scanner.specs.Levels.{level}
use Rattle.scanner.specs.Places.{no_frame, is_top, heads, fits, IsIn, within_name, in_bracket, Resumes, RingHolds}
use Rattle.scanner.specs.Places.{Numbered, leaving, Lies}
use Rattle.form.proofs.NamesRead.{codes_end}
use Rattle.scanner.proofs.BackToBracket.{back_within}
use Rattle.scanner.proofs.AcrossBrackets.{around_close}
use Rattle.scanner.proofs.RingOfFrames.{held_same}
use Rattle.scanner.proofs.PlaceKept.{Closes, follows_symbol}
use Rattle.scanner.proofs.LevelEntered.{in_a_bracket}

-- each rest fits its level
rest_fits : (k : Level) (c : ℕ) → fits k c (codes (rest_of k c)) ≡ true
unfolding codes rest_of fits
rest_fits Top c = refl
rest_fits Several zero = refl
rest_fits Several (suc zero) = refl
rest_fits Several (suc (suc c)) = refl
rest_fits Branches zero = refl
rest_fits Branches (suc zero) = refl
rest_fits Branches (suc (suc c)) = refl
rest_fits Test zero = refl
rest_fits Test (suc zero) = refl
rest_fits Test (suc (suc c)) = refl
rest_fits One c = refl

-- each stands behind a symbol
rest_behind : (k : Level) (c : ℕ) → 128 ≤ code_at (rest_of k c - 1)
unfolding code_at rest_of
rest_behind Top c = omega arith
rest_behind Several zero = omega arith
rest_behind Several (suc zero) = omega arith
rest_behind Several (suc (suc c)) = omega arith
rest_behind Branches zero = omega arith
rest_behind Branches (suc zero) = omega arith
rest_behind Branches (suc (suc c)) = omega arith
rest_behind Test zero = omega arith
rest_behind Test (suc zero) = omega arith
rest_behind Test (suc (suc c)) = omega arith
rest_behind One c = omega arith

outer_within : (t : List ℕ) (o : ℕ) → outer_at t o ≤ o
unfolding outer_at
outer_within t o = back_within t o 0 0

around_is : (t : List ℕ) (o : ℕ) → around t o ≡ found (outer_at t o) (around t o).spaces
unfolding outer_at
around_is t o = refl

rest_there : (t : List ℕ) (o : ℕ) → fits (level_at t (outer_at t o)) (around t o).spaces (codes (rest_at t o)) ≡ true
unfolding outer_at rest_at
rest_there t o = rest_fits (level_at t (around t o).at) (around t o).spaces

resumes_rest : (t : List ℕ) (o : ℕ) → Resumes (rest_at t o) (rest_at t o)
unfolding rest_at
resumes_rest t o = (refl, rest_behind (level_at t (around t o).at) (around t o).spaces)

module _ (t : List ℕ) (i : ℕ) (at : Place) (ring : List Frame) (σ : Stack) (s : Lies t i at ring σ) where
  -- out of the bracket to place r, with l frames left in the ring
  out_at : (to : Place) → get_or t i 0 ≡ 41 → 0 < at.bracket → (c : ℕ) → around t i ≡ found at.bracket c
      → to.bracket ≡ outer_at t at.bracket → Resumes to.pc (rest_at t at.bracket) → to.number ≡ None
      → to.depth ≤ at.depth → to.live ≤ 4096 → RingHolds t (outer_at t at.bracket) to.depth to.live ring
      → (τ : Stack) → Under t (outer_at t at.bracket) τ → Lies t (suc i) to ring τ
  out_at to b z c a e r n d l k τ u =
      let w = around_close t i at.bracket c b z a in
      let y = outer_within t at.bracket in
      record {
        before = omega arith;
        deep = omega arith;
        few = l;
        numbered = subst (λ (m : Option ℕ). Numbered to.pc m) (sym n) tt;
        under = subst (λ (o : ℕ). Under t o τ) (sym e) u;
        placed = subst (λ (o : ℕ). IsIn t (suc i) to.pc o) (sym e)
            (in_bracket (around t at.bracket).spaces (w ∙ around_is t at.bracket) (rw r.0 (rest_there t at.bracket)));
        follows = follows_symbol to.pc r.1 t (suc i);
        kept = subst (λ (o : ℕ). RingHolds t o to.depth to.live ring) (sym e) k;
      }

peel : (t : List ℕ) (o : ℕ) (σ : Stack) → 0 < o → Under t o σ
    → (τ : Stack) × Under t (outer_at t o) τ × (σ ≡ held (rest_at t o) None ++ τ)
peel t o σ h top = absurd (omega arith)
peel t o σ h (level {σ = τ} x u) = (τ, u, refl)

-- the ring's last frame
kept_last : (t : List ℕ) (o d l : ℕ) (ring : List Frame) → RingHolds t o d (suc l) ring
    → ((get_or ring ((d - 1) % 4096) no_frame).bracket ≡ outer_at t o) × Resumes (get_or ring ((d - 1) % 4096) no_frame).rest (rest_at t o)
    × RingHolds t (outer_at t o) (d - 1) l ring
kept_last t o zero l ring k = absurd k
kept_last t o (suc d) l ring k = let z : suc d - 1 ≡ d = omega arith in rw z k

module _ (t : List ℕ) (i : ℕ) (at : Place) (ring : List Frame) (σ : Stack) (s : Lies t i at ring σ) where
  abbrev Leaves : ℕ → Type 0
  Leaves l =
      (τ : Stack) × Lies t (suc i) (leaving t at l ring) ring τ × (σ ≡ held (leaving t at l ring).pc None ++ τ)

  out_to : get_or t i 0 ≡ 41 → 0 < at.bracket → (c : ℕ) → around t i ≡ found at.bracket c
      → (τ : Stack) → Under t (outer_at t at.bracket) τ → σ ≡ held (rest_at t at.bracket) None ++ τ
      → (l : ℕ) → l ≤ 4096 → RingHolds t at.bracket at.depth l ring → Leaves l
  unfolding leaving
  out_to b z c a τ u e zero m k = (
    τ,
    out_at t i at ring σ s (leaving t at zero ring) b z c a refl (resumes_rest t at.bracket) refl (omega arith)
        (omega arith) tt τ u,
    e,
  )
  out_to b z c a τ u e (suc l) m k =
      let f = kept_last t at.bracket at.depth l ring k in (
        τ,
        out_at t i at ring σ s (leaving t at (suc l) ring) b z c a f.0 f.1 refl (omega arith) (omega arith) f.2 τ u,
        e ∙ ap (λ (ρ : Stack). ρ ++ τ) (sym (held_same (get_or ring ((at.depth - 1) % 4096) no_frame).rest (rest_at t at.bracket) f.1.0 f.1.1)),
      )

  pub lies_out : get_or t i 0 ≡ 41 → Closes at.pc → Leaves at.live
  lies_out b k = go s.placed
    where
      go : IsIn t i at.pc at.bracket → Leaves at.live
      go (within_name h o a) = absurd (k.no_head h)
      go (in_bracket c a f) =
          let z = in_a_bracket t at.bracket (k.in_body (level_at t at.bracket) c f) in
          let u = peel t at.bracket σ z s.under in
          out_to b z c a u.0 u.1 u.2 at.live s.few s.kept

-- no bracket has the level of all
in_not_top : (n : ℕ) → is_top (level_in n) ≡ false
unfolding level_in
in_not_top n = go (eqb (code_at (n + 4)) 133) (eqb (code_at (n + 6)) 128)
  where
    go : (r s : Bool) → is_top (cond r Several (cond s Branches One)) ≡ false
    go true s = refl
    go false true = refl
    go false false = refl

either_not_top : (b : Bool) (k m : Level) → is_top k ≡ false → is_top m ≡ false → is_top (cond b k m) ≡ false
either_not_top true k m e f = e
either_not_top false k m e f = f

from_not_top : (n k a b : ℕ) → is_top (level_from n k a b) ≡ false
unfolding level_from
from_not_top zero k a b = refl
from_not_top (suc n) k a b =
    let e : ℕ = name_end (form_row k) in
    either_not_top (eqb b (code_at (e - 2)) && eqb a (code_at (e - 3))) (level_in e) (level_from n (suc k) a b) (in_not_top e) (from_not_top n (suc k) a b)

not_top : (a b : ℕ) → is_top (level_of a b) ≡ false
unfolding level_of
not_top a b = either_not_top (ltb b 97) Test (level_from form_count 0 a b) refl (from_not_top form_count 0 a b)

top_is : (t : List ℕ) (o : ℕ) → is_top (level_at t o) ≡ true → o ≡ 0
unfolding level_at
top_is t zero e = refl
top_is t (suc o) e =
    absurd (false≢true (sym (not_top (get_or t (suc o - 2) 0) (get_or t (suc o - 1) 0)) ∙ (simp (ne_eqb (suc o) 0 (λ z. omega arith)) at e)))

empty_top : (t : List ℕ) (o : ℕ) (σ : Stack) → o ≡ 0 → Under t o σ → σ ≡ []
empty_top t o σ e top = refl
empty_top t o σ e (level x u) = absurd (omega arith)

no_head_end : (p : ℕ) → code_at p ≡ 0 → heads (codes p) ≡ true → ⊥
unfolding heads
no_head_end p e k = false≢true (rw (codes_end p e) at k)

top_end : (p : ℕ) (k : Level) (c : ℕ) → code_at p ≡ 0 → fits k c (codes p) ≡ true → is_top k ≡ true
unfolding fits
top_end p k c e f = rw (codes_end p e) at f

-- at the end of a rule nothing is left over
pub at_end : (t : List ℕ) (i : ℕ) (at : Place) (ring : List Frame) (σ : Stack) → Lies t i at ring σ
    → code_at at.pc ≡ 0 → σ ≡ []
at_end t i at ring σ s e = go s.placed
  where
    go : IsIn t i at.pc at.bracket → σ ≡ []
    go (within_name h o a) = absurd (no_head_end at.pc e h)
    go (in_bracket c a f) =
        empty_top t at.bracket σ (top_is t at.bracket (top_end at.pc (level_at t at.bracket) c e f)) s.under

pub leaving_none : (t : List ℕ) (at : Place) (l : ℕ) (ring : List Frame) (p o : ℕ) → l ≡ 0 → o ≡ outer_at t at.bracket
    → p ≡ rest_at t at.bracket
    → record { pc = p; number = None; bracket = o; depth = at.depth; live = 0 } ≡ leaving t at l ring
unfolding leaving
leaving_none t at l ring p o e f g = rw (e, f, g) refl

pub leaving_some : (t : List ℕ) (at : Place) (l : ℕ) (ring : List Frame) → (l ≡ 0 → ⊥)
    → record {
      pc = (get_or ring ((at.depth - 1) % 4096) no_frame).rest;
      number = None;
      bracket = (get_or ring ((at.depth - 1) % 4096) no_frame).bracket;
      depth = at.depth - 1;
      live = l - 1;
    } ≡ leaving t at l ring
unfolding leaving
leaving_some t at zero ring e = absurd (e refl)
leaving_some t at (suc l) ring e = let z : suc l - 1 ≡ l = omega arith in rw z refl
