-- What each turn keeps of the place where the reader is: at a number and at a configuration.
use Rattle.std.specs.Prelude.{None, Some}
use Prim.Native.Nat.{ℕ, suc, ◌-◌, ◌<◌, ◌≤◌}
use mathlib.Core.Bool.{Bool, true, false, cond, ◌&&◌, false≢true}
use mathlib.Core.Path.{◌≡◌, refl, sym, ◌∙◌, ap}
use mathlib.Core.List.{List, [], ◌∷◌}
use native.Mathlib.Omega.{arith}
use lib.Dec.{eqb, ltb}
use lib.ListN.{get_or}
use borrow.Author.Tests.{eqb-true, ne_eqb, ltb-true}
use Rattle.form.proofs.ComputedTests.{both}
use Rattle.form.proofs.Digits.{digit_is}
use Rattle.scanner.specs.declared.rules.Turn.TheVariants.{On, Into}
use Rattle.scanner.specs.declared.levels.Level.{Level}
use Rattle.scanner.specs.declared.levels.Level.TheVariants.{Top, Several, Branches, Test, One}
use Rattle.form.specs.Inside.Machine.{is_digit_byte}
use Rattle.form.specs.Inside.Rows.{code_at, codes}
use Rattle.scanner.specs.Levels.{rest_of}
use Rattle.scanner.specs.Turns.{digit_turn, test_turn, inner_turn}
use Rattle.form.specs.Inside.Rows.{same}
use Rattle.scanner.specs.Places.{is_bracket, is_test, heads, fits, is_plain, Follows, is_end}
use Rattle.form.proofs.NamesRead.{codes_more}
use Rattle.scanner.proofs.NamesChecked.{after_test, after_inner}
use Rattle.scanner.proofs.NamesChecked.{before_test, before_inner}
use Rattle.form.proofs.ComputedTests.{same_list}
use Rattle.scanner.specs.Rules.{behind_bracket, behind_n}
use Rattle.scanner.proofs.SymbolSteps.{first_code}
use Rattle.scanner.proofs.PlaceKept.{Goes, Tests, Sits, sits_dead, sits_on, sits_test}
use Rattle.scanner.proofs.PlaceKept.{one_back, follows_symbol, follows_first}

-- to a number's first digit
goes_digit : (p b : ℕ) → 128 ≤ code_at p → is_digit_byte b ≡ true → (heads (codes p) ≡ true → ⊥)
    → ((k : Level) (c : ℕ) → fits k c (codes p) ≡ true → fits k c (codes (suc p)) ≡ true)
    → is_end (code_at (suc p)) ≡ true → Goes p b (suc p) (Some (b - 48))
goes_digit p b h d f g e =
    let l = digit_is b d in
    let s : 128 ≤ code_at (suc p - 1) = rw (one_back p) h in
    let v : b - 48 ≤ 65535 = omega arith in
    record {
      not_open = λ z. omega arith;
      not_close = λ z. omega arith;
      in_head = λ k. absurd (f k);
      in_body = λ k c o. rw (ne_eqb b 32 (λ z. omega arith)) (g k c o);
      following = λ t i q o. follows_symbol (suc p) s t (suc i);
      numbering = (e, s, v);
    }

pub sits_digit : (p b : ℕ) → 128 ≤ code_at p → (heads (codes p) ≡ true → ⊥)
    → ((k : Level) (c : ℕ) → fits k c (codes p) ≡ true → fits k c (codes (suc p)) ≡ true)
    → is_end (code_at (suc p)) ≡ true → Sits p b (digit_turn p b)
unfolding digit_turn
sits_digit p b h f g e = go (is_digit_byte b) refl
  where
    go : (s : Bool) → is_digit_byte b ≡ s → Sits p b (cond s (Some (On (suc p) (Some (b - 48)))) None)
    go true d = sits_on (goes_digit p b h d f g e)
    go false d = sits_dead

-- at a configuration: no name, and its bracket leaves the rest that its level tells
test_fits : (p : ℕ) (k : Level) (c : ℕ) → code_at p ≡ 134 → fits k c (codes p) ≡ true
    → is_bracket k && (same (codes (rest_of k c)) (codes (suc p)) && fits k c (codes (suc p))) ≡ true
unfolding fits
test_fits p k c e o = rw (codes_more p (λ z. omega arith), e) at o

no_head_test : (p : ℕ) → code_at p ≡ 134 → heads (codes p) ≡ true → ⊥
unfolding heads
no_head_test p e k = false≢true (rw (codes_more p (λ z. omega arith), e) at k)

low_before : (p : ℕ) → code_at p ≡ 134 → (t : List ℕ) (i : ℕ) → Follows t i p → get_or t (i - 1) 0 < 97
low_before p e t i f =
    let b = before_test p e in
    let y = ltb-true (code_at (p - 1)) 97 (both {a = is_plain (code_at (p - 1))} b).1 in
    let x = f.one (both {b = ltb (code_at (p - 1)) 97} b).0 in
    omega (arith, x, y)

tests_test : (p : ℕ) → code_at p ≡ 134 → Tests p
tests_test p e =
    record {
      no_head = no_head_test p e;
      in_body = λ k c o.
          let a = test_fits p k c e o in
          ((both {a = is_bracket k} a).0, (both {b = fits k c (codes (suc p))} (both {a = is_bracket k} a).1).0);
      following = low_before p e;
      is_symbol = omega arith;
    }

pub sits_at_test : (p b : ℕ) → code_at p ≡ 134 → Sits p b (test_turn p b)
unfolding test_turn
sits_at_test p b e = go (eqb b 40) refl
  where
    d : Sits p b (digit_turn p b)
    d = sits_digit p b (omega arith) (no_head_test p e)
        (λ k c o. (both {a = same (codes (rest_of k c)) (codes (suc p))} (both {a = is_bracket k} (test_fits p k c e o)).1).1)
        (after_test p e)

    go : (s : Bool) → eqb b 40 ≡ s → Sits p b (cond s (Some (Into behind_bracket)) (digit_turn p b))
    go true q = sits_test (eqb-true b 40 q) (tests_test p e)
    go false q = d

-- behind a configuration's bracket
inner_fits : (p : ℕ) (k : Level) (c : ℕ) → code_at p ≡ 136 → fits k c (codes p) ≡ true
    → (is_test k && eqb c 0) && (same (codes (rest_of k c)) (codes (suc p)) && fits k c (codes (suc p))) ≡ true
unfolding fits
inner_fits p k c e o = rw (codes_more p (λ z. omega arith), e) at o

no_head_inner : (p : ℕ) → code_at p ≡ 136 → heads (codes p) ≡ true → ⊥
unfolding heads
no_head_inner p e k = false≢true (rw (codes_more p (λ z. omega arith), e) at k)

test_bracket : (k : Level) → is_test k ≡ true → is_bracket k ≡ true
test_bracket Top e = e
test_bracket Several e = refl
test_bracket Branches e = refl
test_bracket Test e = refl
test_bracket One e = refl

tests_inner : (p : ℕ) → code_at p ≡ 136 → Tests p
tests_inner p e =
    record {
      no_head = no_head_inner p e;
      in_body = λ k c o.
          let a = inner_fits p k c e o in (
            test_bracket k (both {a = is_test k} {b = eqb c 0} (both {a = is_test k && eqb c 0} a).0).0,
            (both {b = fits k c (codes (suc p))} (both {a = is_test k && eqb c 0} a).1).0,
          );
      following = λ t i f. f.first (before_inner p e);
      is_symbol = omega arith;
    }

not_fits : (k : Level) (c : ℕ) → is_test k && eqb c 0 ≡ true → fits k c (codes behind_n) ≡ true
unfolding codes fits
not_fits Top c e = absurd (false≢true e)
not_fits Several c e = absurd (false≢true e)
not_fits Branches c e = absurd (false≢true e)
not_fits Test c e = rw (eqb-true c 0 e) refl
not_fits One c e = absurd (false≢true e)

goes_not : (p : ℕ) → code_at p ≡ 136 → Goes p 110 behind_n None
unfolding code_at
goes_not p e =
    record {
      not_open = λ z. omega arith;
      not_close = λ z. omega arith;
      in_head = λ k. absurd (no_head_inner p e k);
      in_body = λ k c o. not_fits k c (both {a = is_test k && eqb c 0} (inner_fits p k c e o)).0;
      following = λ t i q o. follows_first 60 110 refl (λ z. omega arith) refl t i q;
      numbering = tt;
    }

pub sits_inner : (p b : ℕ) → code_at p ≡ 136 → Sits p b (inner_turn p b)
unfolding test_turn inner_turn
sits_inner p b e = go (eqb b 110) refl (eqb b 40) refl
  where
    y : code_at (suc p) ≡ 32
    y = sym (first_code (suc p)) ∙ ap (λ l. get_or l 0 0) (same_list (codes (suc p)) (32 ∷ 137 ∷ []) (after_inner p e))

    d : Sits p b (digit_turn p b)
    d = sits_digit p b (omega arith) (no_head_inner p e)
        (λ k c o. (both {a = same (codes (rest_of k c)) (codes (suc p))} (both {a = is_test k && eqb c 0} (inner_fits p k c e o)).1).1)
        (rw y refl)

    go : (s : Bool) → eqb b 110 ≡ s → (t : Bool) → eqb b 40 ≡ t
        → Sits p b (cond s (Some (On behind_n None)) (cond t (Some (Into behind_bracket)) (digit_turn p b)))
    go true q t r = rw (eqb-true b 110 q) (sits_on (goes_not p e))
    go false q true r = sits_test (eqb-true b 40 r) (tests_inner p e)
    go false q false r = d
