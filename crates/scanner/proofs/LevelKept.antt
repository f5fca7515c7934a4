-- A reader that takes a turn on its level, or behind a name's bracket, stays where the text and the table of names agree.
use Rattle.scanner.specs.declared.levels.Frame.{Frame}
use Rattle.std.specs.Prelude.{Option, None}
use Prim.Native.Nat.{ℕ, suc, ◌-◌, ◌<◌}
use mathlib.Core.Bool.{true, cond}
use mathlib.Core.Path.{◌≡◌, refl, sym, ◌∙◌}
use mathlib.Core.List.{List}
use native.Mathlib.Omega.{arith}
use lib.Dec.{eqb}
use lib.ListN.{get_or}
use borrow.Author.Tests.{ne_eqb}
use Rattle.form.proofs.ComputedTests.{both}
use Rattle.scanner.specs.declared.scan.Place.{Place}
use Rattle.form.specs.Inside.Machine.{Stack}
use Rattle.form.specs.Inside.Rows.{code_at, codes}
use Rattle.scanner.specs.Levels.{level_of, level_at}
use Rattle.scanner.specs.Places.{is_plain, heads, fits, Follows, IsIn, within_name, in_bracket}
use Rattle.scanner.specs.Places.{moved, Lies}
use Rattle.scanner.proofs.NamesChecked.{before_bracket, level_told}
use Rattle.scanner.proofs.AcrossBrackets.{around_same, around_on, around_open}
use Rattle.scanner.proofs.RingOfFrames.{kept_same, under_same}
use Rattle.scanner.proofs.PlaceKept.{Goes, follows_byte, heads_fits}

module _ (t : List ℕ) (i : ℕ) (at : Place) (ring : List Frame) (σ : Stack) (s : Lies t i at ring σ) where
  placed_on : (q : ℕ) (n : Option ℕ) → Goes at.pc (get_or t i 0) q n → IsIn t i at.pc at.bracket → IsIn t (suc i) q at.bracket
  placed_on q n g (within_name h o a) =
      let k = g.in_head h in
      within_name k.1 o (around_same t i g.not_open g.not_close k.0 ∙ a)
  placed_on q n g (in_bracket c a f) =
      in_bracket (cond (eqb (get_or t i 0) 32) (suc c) c) (around_on t i at.bracket c g.not_open g.not_close a)
      (g.in_body (level_at t at.bracket) c f)

  pub lies_on : (q : ℕ) (n : Option ℕ) → Goes at.pc (get_or t i 0) q n → Lies t (suc i) (moved at q n at.bracket) ring σ
  lies_on q n g =
      record {
        before = omega arith;
        deep = omega arith;
        few = s.few;
        numbered = g.numbering;
        under = s.under;
        placed = placed_on q n g s.placed;
        follows = g.following t i refl s.follows;
        kept = s.kept;
      }

-- the level of a bracket behind the bytes that the rules have there
pub level_is : (t : List ℕ) (i a b : ℕ) → 0 < i → get_or t (i - 2) 0 ≡ a → get_or t (i - 1) 0 ≡ b → level_at t i ≡ level_of a b
unfolding level_at
level_is t i a b h e f = rw (ne_eqb i 0 (λ z. omega arith), e, f) refl

opened_fits : (t : List ℕ) (i p : ℕ) → 0 < i → code_at p ≡ 40 → Follows t i p → fits (level_at t i) 0 (codes (suc p)) ≡ true
opened_fits t i p h e f =
    let b = before_bracket p e in
    rw (level_is t i (code_at (p - 2)) (code_at (p - 1)) h (f.two b) (f.one (both {b = is_plain (code_at (p - 2))} b).0))
    (level_told p e)

module _ (t : List ℕ) (i : ℕ) (at : Place) (ring : List Frame) (σ : Stack) (s : Lies t i at ring σ) where
  pub lies_opens : {q : ℕ} → get_or t i 0 ≡ 40 → code_at q ≡ 40 → heads (codes at.pc) ≡ true → (Follows t i at.pc → Follows t i q)
      → Lies t (suc i) (moved at (suc q) None i) ring σ
  lies_opens {q} b e k f = go s.placed
    where
      go : IsIn t i at.pc at.bracket → Lies t (suc i) (moved at (suc q) None i) ring σ
      go (in_bracket c a g) = absurd (heads_fits (codes at.pc) (level_at t at.bracket) c k g)
      go (within_name h o a) =
          let z : 0 < i = omega arith in
          let y : get_or t i 0 ≡ code_at q = b ∙ sym e in
          record {
            before = omega arith;
            deep = omega arith;
            few = s.few;
            numbered = tt;
            under = under_same t at.bracket i σ a o z s.under;
            placed = in_bracket 0 (around_open t i b) (opened_fits t i q z e (f s.follows));
            follows = follows_byte q (get_or t i 0) y (λ x. omega arith) t i refl (f s.follows);
            kept = kept_same t at.bracket i a at.depth at.live ring s.kept;
          }
