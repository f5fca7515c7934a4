-- A reader that goes into a program or into a configuration's bracket stays where the text and the table of names agree.
use Rattle.scanner.specs.declared.levels.Frame.{Frame}
use Rattle.std.specs.Prelude.{None}
use Prim.Native.Nat.{ℕ, zero, suc, ◌-◌, ◌%◌, ◌<◌, ◌≤◌}
use mathlib.Core.Bool.{Bool, true, false, cond, false≢true}
use mathlib.Core.Path.{◌≡◌, refl, sym, ◌∙◌, ap, subst}
use mathlib.Core.List.{List, ◌++◌}
use native.Mathlib.Omega.{arith}
use lib.Dec.{ltb}
use lib.ListN.{length, get_or, set}
use borrow.Author.Tests.{lt-ltb, ltb-true}
use Rattle.form.proofs.ComputedTests.{both}
use Rattle.scanner.specs.declared.levels.Bracket.{Bracket}
use Rattle.scanner.specs.declared.levels.Level.{Level}
use Rattle.scanner.specs.declared.levels.Level.TheVariants.{Test}
use Rattle.scanner.specs.declared.scan.Place.{Place}
use Rattle.form.specs.Inside.Machine.{Stack}
use Rattle.form.specs.Inside.Rows.{code_at, codes}
use Rattle.scanner.specs.Rules.{place_behind_j, behind_bracket, held}
use Rattle.scanner.specs.Levels.{found, around, level_of, level_at, rest_of, outer_at, rest_at, Under, level}
use Rattle.form.specs.Inside.Rows.{same}
use Rattle.scanner.specs.Places.{frame, is_bracket, heads, fits, Follows, IsIn, within_name, in_bracket}
use Rattle.scanner.specs.Places.{room_of, entered, Lies}
use Rattle.form.proofs.NamesRead.{codes_more}
use Rattle.form.proofs.ComputedTests.{same_list}
use Rattle.scanner.proofs.AcrossBrackets.{around_same, around_open}
use Rattle.scanner.proofs.RingOfFrames.{kept_push, held_same}
use Rattle.scanner.proofs.PlaceKept.{Tests, one_back, follows_first}
use Rattle.scanner.proofs.LevelKept.{level_is}

module _ (t : List ℕ) (q o c : ℕ) (a : around t q ≡ found o c) where
  outer_is : outer_at t q ≡ o
  unfolding outer_at
  outer_is = ap (λ (r : Bracket). r.at) a

  rest_is : rest_at t q ≡ rest_of (level_at t o) c
  unfolding rest_at
  rest_is = ap (λ (r : Bracket). rest_of (level_at t r.at) r.spaces) a

-- what a program leaves
program_fits : (p : ℕ) (k : Level) (c : ℕ) → code_at p ≡ 128 → fits k c (codes p) ≡ true
    → same (codes (rest_of k c)) (codes (suc p)) ≡ true
unfolding fits
program_fits p k c e f =
    (both {b = fits k c (codes (suc p))} (rw (codes_more p (λ z. omega arith), e) at f)).0

no_head_program : (p : ℕ) → code_at p ≡ 128 → heads (codes p) ≡ true → ⊥
unfolding heads
no_head_program p e k = false≢true (rw (codes_more p (λ z. omega arith), e) at k)

pub in_a_bracket : (t : List ℕ) (o : ℕ) → is_bracket (level_at t o) ≡ true → 0 < o
unfolding level_at
in_a_bracket t zero e = absurd (false≢true e)
in_a_bracket t (suc o) e = omega arith

test_level : (t : List ℕ) (i : ℕ) → 0 < i → get_or t (i - 1) 0 < 97 → level_at t i ≡ Test
unfolding level_of
test_level t i h f =
    level_is t i (get_or t (i - 2) 0) (get_or t (i - 1) 0) h refl refl ∙ rw (lt-ltb (get_or t (i - 1) 0) 97 f) refl

inner_starts : fits Test 0 (codes behind_bracket) ≡ true
unfolding codes fits
inner_starts = refl

name_starts : heads (codes place_behind_j) ≡ true
unfolding codes heads
name_starts = refl

follows_inner : (t : List ℕ) (i : ℕ) → get_or t i 0 ≡ 40 → Follows t (suc i) behind_bracket
unfolding code_at
follows_inner t i e =
    record {
      one = λ h. absurd (false≢true h);
      two = λ h. absurd (false≢true h);
      first = λ h. rw (one_back i, e) (omega arith);
    }

follows_name : (t : List ℕ) (i : ℕ) → get_or t i 0 ≡ 74 → Follows t (suc i) place_behind_j
unfolding code_at
follows_name t i e = follows_first 20 74 refl (λ z. omega arith) refl t i e

module _ (t : List ℕ) (i : ℕ) (at : Place) (ring : List Frame) (σ : Stack) (s : Lies t i at ring σ)
    (g : length ring ≡ 4096) where
  abbrev Enters : ℕ → ℕ → Type 0
  Enters to q =
      Lies t (suc i) (entered at to q) (set ring (at.depth % 4096) (frame at.bracket (suc at.pc)))
      (held (suc at.pc) None ++ σ)

  few_more : room_of at.live ≤ 4096
  few_more = go (ltb at.live 4096) refl
    where
      go : (b : Bool) → ltb at.live 4096 ≡ b → cond b (suc at.live) at.live ≤ 4096
      go true b = ltb-true at.live 4096 b
      go false b = s.few

  -- into a rule for the bracket or name at q, from a level with c spaces so far
  enters : (to q c : ℕ) → around t q ≡ found at.bracket c → 0 < q → q ≤ suc i
      → same (codes (rest_of (level_at t at.bracket) c)) (codes (suc at.pc)) ≡ true → 128 ≤ code_at at.pc
      → IsIn t (suc i) to q → Follows t (suc i) to → Enters to q
  enters to q c a z y e w k f =
      let x : codes (suc at.pc) ≡ codes (rest_at t q) =
      sym (ap codes (rest_is t q at.bracket c a) ∙ same_list (codes (rest_of (level_at t at.bracket) c)) (codes (suc at.pc)) e) in
      let r : 128 ≤ code_at (suc at.pc - 1) = rw (one_back at.pc) w in
      record {
        before = y;
        deep = omega arith;
        few = few_more;
        numbered = tt;
        under = subst (λ (τ : Stack). Under t q (τ ++ σ)) (sym (held_same (suc at.pc) (rest_at t q) x r))
            (level z (subst (λ (o : ℕ). Under t o σ) (sym (outer_is t q at.bracket c a)) s.under));
        placed = k;
        follows = f;
        kept = kept_push t at.bracket q at.depth at.live (suc at.pc) ring g s.few
            (outer_is t q at.bracket c a) (x, r) s.kept;
      }

  pub lies_program : get_or t i 0 ≡ 74 → code_at at.pc ≡ 128 → Enters place_behind_j (suc i)
  lies_program b e = go s.placed
    where
      go : IsIn t i at.pc at.bracket → Enters place_behind_j (suc i)
      go (within_name k o a) = absurd (no_head_program at.pc e k)
      go (in_bracket c a f) =
          let n = around_same t i (λ z. omega arith) (λ z. omega arith) (λ z. omega arith) in
          enters place_behind_j (suc i) c (n ∙ a) (omega arith) (omega arith) (program_fits at.pc (level_at t at.bracket) c e f) (omega arith)
          (within_name name_starts (omega arith) refl) (follows_name t i b)

  pub lies_test : get_or t i 0 ≡ 40 → Tests at.pc → Enters behind_bracket i
  lies_test b u = go s.placed
    where
      go : IsIn t i at.pc at.bracket → Enters behind_bracket i
      go (within_name k o a) = absurd (u.no_head k)
      go (in_bracket c a f) =
          let m = u.in_body (level_at t at.bracket) c f in
          let o = in_a_bracket t at.bracket m.0 in
          let z : 0 < i = omega arith in
          let y = test_level t i z (u.following t i s.follows) in
          enters behind_bracket i c a z (omega arith) m.1 u.is_symbol
          (in_bracket 0 (around_open t i b) (rw y inner_starts)) (follows_inner t i b)
