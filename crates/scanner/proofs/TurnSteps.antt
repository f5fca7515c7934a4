-- A turn is a step of the reading machine: within a name, within a number; and so at each place.
use Rattle.std.specs.Prelude.{Option, None, Some}
use Prim.Native.Nat.{ℕ, suc, ◌-◌, ◌<◌, ◌≤◌}
use mathlib.Core.Bool.{Bool, true, false, cond, ◌&&◌}
use mathlib.Core.Path.{◌≡◌, refl, sym, ◌∙◌}
use mathlib.Core.List.{[], ◌∷◌, ◌++◌}
use native.Mathlib.Omega.{arith}
use lib.Dec.{eqb, ltb, leb}
use borrow.Author.Tests.{eqb-true, eqb-false, eq-eqb, ne_eqb, le-ltb, lt-leb, ltb-true, ltb-false}
use Rattle.form.specs.Inside.Rows.{code_at, form_row, form_count, codes, in_name, first_name, place_from, place_of}
use Rattle.form.specs.Inside.Machine.{prog, name, parts, joint, tail, conf, close, byte}
use Rattle.form.specs.Inside.Machine.{End, comma, space, end_byte, Number, is_digit_byte, grown, limit, ending, sort_of, last, syms, Stack}
use Rattle.form.specs.Inside.Machine.{choose, step}
use Rattle.form.proofs.Digits.{digit_is}
use Rattle.form.proofs.NamesRead.{codes_more, name_code, name_on, not_first, out_on, symbol_out, behind_symbol, behind_out, name_from, Read, read}
use Rattle.scanner.specs.declared.rules.Turn.TheVariants.{On, Opens, Into, Out}
use Rattle.scanner.specs.Rules.{place_behind_j, behind_a, behind_o, held}
use Rattle.scanner.specs.Turns.{other_turn, digit_turn, test_turn, inner_turn, parts_turn, literal_turn, joint_turn}
use Rattle.scanner.specs.Turns.{symbol_turn, number_turn, turn_of, after}
use Rattle.scanner.specs.Places.{Numbered, is_end}
use Rattle.scanner.proofs.NamesChecked.{close_out}
use Rattle.scanner.proofs.SymbolSteps.{held_byte, held_end, held_digits, end_known, turn_literal}
use Rattle.scanner.proofs.SymbolSteps.{skip, turn_program, turn_parts, turn_test, turn_inner, turn_digit}

pub held_name : (p : ℕ) → in_name p ≡ true → held p None ≡ name p ∷ []
unfolding held
held_name p h = rw h

-- from a place in a name, b being read at place q
module _ (p b q : ℕ) (σ : Stack) (o : Read p b q) where
  read_on : choose ((true, cond (eqb b 40) (syms false (codes (suc q)) ++ σ) (name (suc q) ∷ σ)) ∷ [])
      ≡ after p (cond (eqb b 40) (Some (Opens (suc q))) (Some (On (suc q) None))) σ
  unfolding choose held
  read_on = go (eqb b 40) refl
    where
      go : (s : Bool) → eqb b 40 ≡ s
          → choose ((true, cond s (syms false (codes (suc q)) ++ σ) (name (suc q) ∷ σ)) ∷ [])
          ≡ after p (cond s (Some (Opens (suc q))) (Some (On (suc q) None))) σ
      go true e = rw (behind_out q (o.code_is ∙ eqb-true b 40 e)) refl
      go false e = rw (name_on q o.within_name (λ z. eqb-false b 40 e (sym o.code_is ∙ z))) refl

-- in a name a byte is read here or in another row
literal_name : (p b : ℕ) → in_name p ≡ true → first_name ≤ p
    → literal_turn p b ≡ cond (eqb (place_of p b) 0) None (cond (eqb b 40) (Some (Opens (suc (place_of p b)))) (Some (On (suc (place_of p b)) None)))
unfolding literal_turn other_turn place_of
literal_name p b h l =
    rw (ne_eqb (code_at p) 0 (name_code p h), le-ltb p first_name l) (go (eqb b (code_at p)) refl (eqb b 41) refl)
  where
    r : ℕ
    r = place_from form_count (form_row 0) p b

    go : (s : Bool) → eqb b (code_at p) ≡ s → (t : Bool) → eqb b 41 ≡ t
        → cond s (cond (eqb b 40) (Some (Opens (suc p))) (cond t (Some Out) (Some (On (suc p) None))))
        (cond (eqb r 0) None (cond (eqb b 40) (Some (Opens (suc r))) (Some (On (suc r) None))))
        ≡ cond (eqb (cond s p r) 0) None (cond (eqb b 40) (Some (Opens (suc (cond s p r)))) (Some (On (suc (cond s p r)) None)))
    go true e true f = absurd (close_out p (sym (eqb-true b (code_at p) e) ∙ eqb-true b 41 f) h)
    go true e false f = rw (ne_eqb p 0 (not_first p h)) refl
    go false e t f = refl

pub turn_name : (p b : ℕ) (σ : Stack) → in_name p ≡ true → first_name ≤ p → step (name p ∷ σ) b ≡ after p (literal_turn p b) σ
unfolding step
turn_name p b σ h l = rw (h, literal_name p b h l) (go (eqb (place_of p b) 0) refl)
  where
    q : ℕ
    q = place_of p b

    go : (s : Bool) → eqb q 0 ≡ s
        → choose ((cond s false true, cond (eqb b 40) (syms false (codes (suc q)) ++ σ) (name (suc q) ∷ σ)) ∷ [])
        ≡ after p (cond s None (cond (eqb b 40) (Some (Opens (suc q))) (Some (On (suc q) None)))) σ
    go true e = refl
    go false e = read_on p b q σ (read p b h (eqb-false q 0 e))

turn_joint : (p b : ℕ) (σ : Stack) → step (joint ∷ σ) b ≡ after p (joint_turn b) σ
unfolding step held codes syms joint_turn code_at in_name
turn_joint p b σ = go (eqb b 97) (eqb b 111)
  where
    go : (s t : Bool)
        → choose ((s, byte 110 ∷ byte 100 ∷ byte 32 ∷ conf close ∷ σ) ∷ (t, byte 114 ∷ byte 32 ∷ conf close ∷ σ) ∷ [])
        ≡ after p (cond s (Some (On behind_a None)) (cond t (Some (On behind_o None)) None)) σ
    go true t = refl
    go false true = refl
    go false false = refl

pub held_last : (p : ℕ) → 128 < code_at p → code_at p < 138 → (code_at p ≡ 134 → ⊥) → held p None ≡ last (code_at p) ∷ []
unfolding held syms
held_last p g h f =
    rw (symbol_out p (omega arith), codes_more p (λ z. omega arith))
    (simp (
      le-ltb (code_at p) 128 (omega arith),
      ne_eqb (code_at p) 128 (λ z. omega arith),
      ne_eqb (code_at p) 134 f,
      lt-leb 138 (code_at p) h,
    ))

pub held_program : (p : ℕ) → code_at p ≡ 128 → held p None ≡ prog ∷ held (suc p) None
unfolding held syms
held_program p e =
    let o = symbol_out p (omega arith) in
    let z : code_at p ≡ 0 → ⊥ = λ y. omega arith in
    rw (o, out_on p o z, codes_more p z) (simp e)

last_parts : (x : ℕ) → x ≡ 133 → last x ≡ parts
last_parts x e = rw e

last_joint : (x : ℕ) → (x ≡ 129 → ⊥) → (x ≡ 133 → ⊥) → (x ≡ 136 → ⊥) → last x ≡ joint
last_joint x h e f = simp (ne_eqb x 129 h, ne_eqb x 133 e, ne_eqb x 136 f)

first_in : in_name first_name ≡ true
unfolding in_name
first_in = refl

pub more : (x : ℕ) → 128 ≤ x → (x ≡ 128 → ⊥) → 128 < x
more x h e = omega arith

-- a turn in a name leaves nothing behind
after_same : (q p b : ℕ) (σ : Stack) → after q (literal_turn first_name b) σ ≡ after p (literal_turn first_name b) σ
after_same q p b σ = rw (literal_name first_name b first_in (omega arith)) (go (eqb (place_of first_name b) 0) (eqb b 40) (suc (place_of first_name b)))
  where
    go : (s t : Bool) (r : ℕ) → after q (cond s None (cond t (Some (Opens r)) (Some (On r None)))) σ ≡ after p (cond s None (cond t (Some (Opens r)) (Some (On r None)))) σ
    go true t r = refl
    go false true r = refl
    go false false r = refl

turn_symbol : (p b : ℕ) (σ : Stack) → 128 ≤ code_at p → step (held p None ++ σ) b ≡ after p (symbol_turn (code_at p) p b) σ
unfolding symbol_turn
turn_symbol p b σ h =
    go (eqb (code_at p) 128) refl (eqb (code_at p) 133) refl (eqb (code_at p) 134) refl (eqb (code_at p) 136) refl
    (eqb (code_at p) 129) refl (ltb (code_at p) 138) refl
  where
    go : (r : Bool) → eqb (code_at p) 128 ≡ r → (s : Bool) → eqb (code_at p) 133 ≡ s → (t : Bool) → eqb (code_at p) 134 ≡ t
        → (u : Bool) → eqb (code_at p) 136 ≡ u → (v : Bool) → eqb (code_at p) 129 ≡ v → (w : Bool) → ltb (code_at p) 138 ≡ w
        → step (held p None ++ σ) b
        ≡ after p (cond r (cond (eqb b 74) (Some (Into place_behind_j)) None) (cond s (parts_turn b) (cond t (test_turn p b) (cond u (inner_turn p b)
        (cond v (literal_turn first_name b) (cond w (joint_turn b) (digit_turn p b))))))) σ
    go true e s f t g u i v j w k = rw (held_program p (eqb-true _ _ e)) (turn_program p b σ)
    go false e true f t g u i v j w k =
        let z = eqb-true (code_at p) 133 f in
        rw (held_last p (omega arith) (omega arith) (λ y. omega arith), last_parts (code_at p) z) (turn_parts p b σ)
    go false e false f true g u i v j w k = turn_test p b σ (eqb-true _ _ g)
    go false e false f false g true i v j w k = turn_inner p b σ (eqb-true _ _ i)
    go false e false f false g false i true j w k =
        let z = eqb-true (code_at p) 129 j in
        rw (held_last p (omega arith) (omega arith) (eqb-false _ _ g), z)
        (turn_name first_name b σ first_in (omega arith) ∙ after_same first_name p b σ)
    go false e false f false g false i false j true k =
        let z = ltb-true (code_at p) 138 k in
        rw (
          held_last p (more (code_at p) h (eqb-false _ _ e)) z (eqb-false _ _ g),
          last_joint (code_at p) (eqb-false _ _ j) (eqb-false _ _ f) (eqb-false _ _ i),
        )
        (turn_joint p b σ)
    go false e false f false g false i false j false k =
        rw (held_digits p (ltb-false (code_at p) 138 k)) (turn_digit p b (sort_of (code_at p)) σ refl)

-- no digit is an end byte
digit_no_end : (x b : ℕ) → is_end x ≡ true → is_digit_byte b ≡ true → eqb b (end_byte (ending x)) ≡ false
digit_no_end x b e d =
    ne_eqb b (end_byte (ending x)) (far (ending x) b (digit_is b d).0)
  where
    far : (e : End) (c : ℕ) → 48 ≤ c → c ≡ end_byte e → ⊥
    far close c h z = omega arith
    far comma c h z = omega arith
    far space c h z = omega arith

turn_number : (p v b : ℕ) (σ : Stack) → in_name p ≡ false → is_end (code_at p) ≡ true
    → step (held p (Some v) ++ σ) b ≡ after p (number_turn p v b) σ
unfolding step held number_turn
turn_number p v b σ o e =
    go (is_digit_byte b) refl (leb 1 v && leb (grown v b) (limit (sort_of (code_at (p - 1)))))
  where
    n : Number
    n = sort_of (code_at (p - 1))

    τ : Stack
    τ = syms true (codes p) ++ σ

    single : (t : Bool) → choose ((t, τ) ∷ (false, tail n (grown v b) (ending (code_at p)) ∷ τ) ∷ []) ≡ choose ((t, τ) ∷ [])
    single true = refl
    single false = refl

    go : (d : Bool) → is_digit_byte b ≡ d → (s : Bool)
        → choose ((eqb b (end_byte (ending (code_at p))), τ) ∷ (d && s, tail n (grown v b) (ending (code_at p)) ∷ τ) ∷ [])
        ≡ after p (cond d (cond s (Some (On p (Some (grown v b)))) None) (literal_turn p b)) σ
    go true d true = rw (digit_no_end (code_at p) b e d) refl
    go true d false = rw (digit_no_end (code_at p) b e d) refl
    go false d s =
        let k = end_known (code_at p) e in
        rw k.0 (single (eqb b (code_at p)) ∙ (rw (skip p o e) (turn_literal p b σ o k.2)))

ended : (p b : ℕ) (σ : Stack) → code_at p ≡ 0 → σ ≡ [] → step (held p None ++ σ) b ≡ after p (literal_turn p b) σ
unfolding step literal_turn
ended p b σ e f = rw (held_end p e, f, eq-eqb (code_at p) 0 e)

-- each turn is the machine's step; at a row's end nothing may be left over
pub turn_steps : (p : ℕ) (n : Option ℕ) (b : ℕ) (σ : Stack) → Numbered p n → (code_at p ≡ 0 → σ ≡ [])
    → step (held p n ++ σ) b ≡ after p (turn_of p n b) σ
unfolding turn_of
turn_steps p None b σ k z = go (ltb (code_at p) 128) refl (eqb (code_at p) 0) refl (in_name p) refl
  where
    go : (s : Bool) → ltb (code_at p) 128 ≡ s → (t : Bool) → eqb (code_at p) 0 ≡ t → (u : Bool) → in_name p ≡ u
        → step (held p None ++ σ) b ≡ after p (cond s (literal_turn p b) (symbol_turn (code_at p) p b)) σ
    go false e t f u g = turn_symbol p b σ (ltb-false (code_at p) 128 e)
    go true e true f u g = ended p b σ (eqb-true (code_at p) 0 f) (z (eqb-true (code_at p) 0 f))
    go true e false f true g = rw (held_name p g) (turn_name p b σ g (name_from p g))
    go true e false f false g =
        let y = eqb-false (code_at p) 0 f in
        rw (held_byte p g y (ltb-true (code_at p) 128 e)) (turn_literal p b σ g y)
turn_steps p (Some v) b σ k z = turn_number p v b σ (behind_symbol p k.1) k.0
