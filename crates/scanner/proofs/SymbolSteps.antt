-- A turn is a step of the reading machine: at a byte in no name, a program, a part, a configuration, a number.
use Rattle.std.specs.Prelude.{None, Some}
use Prim.Native.Nat.{ℕ, suc, ◌-◌, ◌<◌, ◌≤◌}
use mathlib.Core.Bool.{Bool, true, false, cond, ◌||◌, false≢true}
use mathlib.Core.Path.{◌≡◌, refl, sym, ◌∙◌, ap}
use mathlib.Core.List.{[], ◌∷◌, ◌++◌}
use native.Mathlib.Omega.{arith}
use lib.Dec.{eqb, ltb}
use lib.ListN.{get_or}
use borrow.Author.Tests.{eqb-true, eqb-false, ne_eqb, lt-ltb, le-ltb, le-leb, ltb-false}
use Rattle.form.specs.Inside.Rows.{code_at, form_row, form_count, codes, in_name, first_name, place_from}
use Rattle.form.specs.Inside.Machine.{close, end_byte, Number, event, byte, prog, name, parts, conf, inner, space, joint}
use Rattle.form.specs.Inside.Machine.{num, tail, is_digit_byte, ending, sort_of, syms, Stack, choose, step}
use Rattle.form.proofs.ComputedTests.{same_list}
use Rattle.form.proofs.NamesRead.{codes_at, codes_end, codes_more, out_on, end_out, symbol_out, sole}
use Rattle.scanner.specs.declared.rules.Turn.TheVariants.{On, Opens, Into, Out}
use Rattle.scanner.specs.Rules.{place_behind_j, behind_bracket, behind_n, behind_comma, held}
use Rattle.scanner.specs.Turns.{other_turn, literal_turn, digit_turn, test_turn, inner_turn, parts_turn, after}
use Rattle.scanner.specs.Places.{is_end}
use Rattle.scanner.proofs.NamesChecked.{after_close, after_test, after_inner}

-- a code below 128 that is in no name is its byte
pub held_byte : (p : ℕ) → in_name p ≡ false → (code_at p ≡ 0 → ⊥) → code_at p < 128 → held p None ≡ byte (code_at p) ∷ held (suc p) None
unfolding held syms
held_byte p o z h = rw (o, out_on p o z, codes_more p z) (simp (lt-ltb (code_at p) 128 h))

pub held_end : (p : ℕ) → code_at p ≡ 0 → held p None ≡ []
unfolding held syms
held_end p z = rw (end_out p z, codes_end p z)

-- in no name, no other row goes on
pub other_dead : (p b : ℕ) → in_name p ≡ false → (code_at p ≡ 0 → ⊥) → (b ≡ code_at p → ⊥) → other_turn p b ≡ None
unfolding other_turn
other_dead p b o z n = go (ltb p first_name) refl
  where
    go : (s : Bool) → ltb p first_name ≡ s
        → cond s None (cond (eqb (place_from form_count (form_row 0) p b) 0) None
        (cond (eqb b 40) (Some (Opens (suc (place_from form_count (form_row 0) p b)))) (Some (On (suc (place_from form_count (form_row 0) p b)) None))))
        ≡ None
    go true e = refl
    go false e = rw (sole p b o (ltb-false p first_name e) z n)

-- a byte that is read as it is, over τ
pub turn_literal : (p b : ℕ) (σ : Stack) → in_name p ≡ false → (code_at p ≡ 0 → ⊥)
    → step (byte (code_at p) ∷ (held (suc p) None ++ σ)) b ≡ after p (literal_turn p b) σ
unfolding step literal_turn
turn_literal p b σ o z = rw (ne_eqb (code_at p) 0 z) (go (eqb b (code_at p)) refl (eqb b 40) (eqb b 41) refl)
  where
    go : (s : Bool) → eqb b (code_at p) ≡ s → (t u : Bool) → eqb b 41 ≡ u
        → choose ((s, held (suc p) None ++ σ) ∷ [])
        ≡ after p (cond s (cond t (Some (Opens (suc p))) (cond u (Some Out) (Some (On (suc p) None)))) (other_turn p b)) σ
    go false e t u f = rw (other_dead p b o z (eqb-false b (code_at p) e)) refl
    go true e true u f = refl
    go true e false false f = refl
    go true e false true f =
        let o = held_end (suc p) (after_close p (sym (eqb-true b (code_at p) e) ∙ eqb-true b 41 f)) in
        rw o refl

pub turn_program : (p b : ℕ) (σ : Stack)
    → step (prog ∷ (held (suc p) None ++ σ)) b ≡ after p (cond (eqb b 74) (Some (Into place_behind_j)) None) σ
unfolding step held codes syms
turn_program p b σ = go (eqb b 74)
  where
    go : (s : Bool)
        → choose ((s, byte 114 ∷ byte 46 ∷ name first_name ∷ (held (suc p) None ++ σ)) ∷ []) ≡ after p (cond s (Some (Into place_behind_j)) None) σ
    go true = refl
    go false = refl

pub turn_parts : (p b : ℕ) (σ : Stack) → step (parts ∷ σ) b ≡ after p (parts_turn b) σ
unfolding step held codes syms parts_turn
turn_parts p b σ = go (eqb b 41) (eqb b 44)
  where
    go : (s t : Bool)
        → choose ((s, σ) ∷ (t, byte 32 ∷ prog ∷ parts ∷ σ) ∷ []) ≡ after p (cond s (Some Out) (cond t (Some (On behind_comma None)) None)) σ
    go true t = refl
    go false true = refl
    go false false = refl

pub first_code : (p : ℕ) → get_or (codes p) 0 0 ≡ code_at p
first_code p = rw (codes_at p) (go (eqb (code_at p) 0) refl)
  where
    go : (s : Bool) → eqb (code_at p) 0 ≡ s → get_or (cond s [] (code_at p ∷ codes (suc p))) 0 0 ≡ code_at p
    go true e = sym (eqb-true (code_at p) 0 e)
    go false e = refl

-- an end byte
pub end_known : (x : ℕ) → is_end x ≡ true → (end_byte (ending x) ≡ x) × (x < 128) × (x ≡ 0 → ⊥)
end_known x h = go (eqb x 41) refl (eqb x 44) refl (eqb x 32) refl h
  where
    go : (s : Bool) → eqb x 41 ≡ s → (t : Bool) → eqb x 44 ≡ t → (u : Bool) → eqb x 32 ≡ u → s || (t || u) ≡ true
        → (end_byte (ending x) ≡ x) × (x < 128) × (x ≡ 0 → ⊥)
    go true e t f u g k = let z = eqb-true x 41 e in (rw z, omega arith, λ o. omega arith)
    go false e true f u g k = let z = eqb-true x 44 f in (rw z, omega arith, λ o. omega arith)
    go false e false f true g k = let z = eqb-true x 32 g in (rw z, omega arith, λ o. omega arith)
    go false e false f false g k = absurd (false≢true k)

-- behind an end byte
pub skip : (p : ℕ) → in_name p ≡ false → is_end (code_at p) ≡ true → syms true (codes p) ≡ held (suc p) None
unfolding held syms
skip p o e = let z = (end_known (code_at p) e).2 in rw (out_on p o z, codes_more p z)

pub held_number : (p v : ℕ)
    → held (suc p) (Some v) ≡ tail (sort_of (code_at p)) v (ending (code_at (suc p))) ∷ syms true (codes (suc p))
unfolding held
held_number p v = let z : suc p - 1 ≡ p = omega arith in rw z

pub held_digits : (p : ℕ) → 138 ≤ code_at p
    → held p None ≡ num (sort_of (code_at p)) (ending (code_at (suc p))) ∷ syms true (codes (suc p))
unfolding held syms
held_digits p h =
    rw (symbol_out p (omega arith), codes_more p (λ z. omega arith))
    (simp (
      le-ltb (code_at p) 128 (omega arith),
      ne_eqb (code_at p) 128 (λ z. omega arith),
      ne_eqb (code_at p) 134 (λ z. omega arith),
      le-leb 138 (code_at p) h,
      first_code (suc p),
    ))

pub held_test : (p : ℕ) → code_at p ≡ 134 → held p None ≡ conf (ending (code_at (suc p))) ∷ syms true (codes (suc p))
unfolding held syms
held_test p e = rw (symbol_out p (omega arith), codes_more p (λ z. omega arith)) (simp (e, first_code (suc p)))

pub held_inner : (p : ℕ) → code_at p ≡ 136 → held p None ≡ inner ∷ []
unfolding held syms
held_inner p e = rw (symbol_out p (omega arith), codes_more p (λ z. omega arith)) (simp e)

into_inner : held behind_bracket None ≡ inner ∷ []
unfolding held codes syms
into_inner = refl

into_not : held behind_n None ≡ byte 111 ∷ byte 116 ∷ byte 32 ∷ conf close ∷ []
unfolding held codes syms
into_not = refl

-- a number's first digit
pub turn_digit : (p b : ℕ) (n : Number) (σ : Stack) → sort_of (code_at p) ≡ n
    → step (num n (ending (code_at (suc p))) ∷ (syms true (codes (suc p)) ++ σ)) b ≡ after p (digit_turn p b) σ
unfolding step digit_turn
turn_digit p b n σ e = go (is_digit_byte b)
  where
    go : (s : Bool)
        → choose ((s, tail n (b - 48) (ending (code_at (suc p))) ∷ (syms true (codes (suc p)) ++ σ)) ∷ [])
        ≡ after p (cond s (Some (On (suc p) (Some (b - 48)))) None) σ
    go true = rw (held_number p (b - 48), e) refl
    go false = refl

pub turn_test : (p b : ℕ) (σ : Stack) → code_at p ≡ 134 → step (held p None ++ σ) b ≡ after p (test_turn p b) σ
unfolding step digit_turn test_turn
turn_test p b σ e = rw (held_test p e) (go (eqb b 40) (is_digit_byte b))
  where
    z : is_end (code_at (suc p)) ≡ true
    z = after_test p e

    o : in_name (suc p) ≡ false
    o = out_on p (symbol_out p (omega arith)) (λ y. omega arith)

    k : (end_byte (ending (code_at (suc p))) ≡ code_at (suc p)) × (code_at (suc p) < 128) × (code_at (suc p) ≡ 0 → ⊥)
    k = end_known (code_at (suc p)) z

    go : (s t : Bool)
        → choose ((s, inner ∷ byte (end_byte (ending (code_at (suc p)))) ∷ (syms true (codes (suc p)) ++ σ))
        ∷ (t, tail event (b - 48) (ending (code_at (suc p))) ∷ (syms true (codes (suc p)) ++ σ)) ∷ [])
        ≡ after p (cond s (Some (Into behind_bracket)) (cond t (Some (On (suc p) (Some (b - 48)))) None)) σ
    go true t = rw (into_inner, held_byte (suc p) o k.2 k.1, skip (suc p) o z, k.0) refl
    go false true = rw (held_number p (b - 48), e) refl
    go false false = refl

inner_codes : (p : ℕ) → code_at p ≡ 136 → codes (suc p) ≡ 32 ∷ 137 ∷ []
inner_codes p e = same_list (codes (suc p)) (32 ∷ 137 ∷ []) (after_inner p e)

inner_rest : (p : ℕ) → code_at p ≡ 136 → held (suc p) None ≡ byte 32 ∷ joint ∷ []
unfolding held syms
inner_rest p e = rw (inner_codes p e) refl

inner_number : (p v : ℕ) → code_at p ≡ 136 → held (suc p) (Some v) ≡ tail event v space ∷ joint ∷ []
unfolding syms
inner_number p v e =
    let y : code_at (suc p) ≡ 32 = sym (first_code (suc p)) ∙ ap (λ l. get_or l 0 0) (inner_codes p e) in
    rw (held_number p v, e, y, inner_codes p e) refl

pub turn_inner : (p b : ℕ) (σ : Stack) → code_at p ≡ 136 → step (held p None ++ σ) b ≡ after p (inner_turn p b) σ
unfolding step digit_turn test_turn inner_turn
turn_inner p b σ e = rw (held_inner p e) (go (eqb b 110) (eqb b 40) (is_digit_byte b))
  where
    go : (r s t : Bool)
        → choose ((r, byte 111 ∷ byte 116 ∷ byte 32 ∷ conf close ∷ σ) ∷ (s, inner ∷ byte 32 ∷ joint ∷ σ)
        ∷ (t, tail event (b - 48) space ∷ joint ∷ σ) ∷ [])
        ≡ after p (cond r (Some (On behind_n None)) (cond s (Some (Into behind_bracket)) (cond t (Some (On (suc p) (Some (b - 48)))) None))) σ
    go true s t = rw into_not refl
    go false true t = rw (into_inner, inner_rest p e) refl
    go false false true = rw (inner_number p (b - 48) e) refl
    go false false false = refl
