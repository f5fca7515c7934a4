-- What the reader counts is what the reading machine counts.
use Rattle.std.specs.Prelude.{Option, None, Some}
use Prim.Native.Nat.{ℕ, ◌-◌, ◌<◌, ◌≤◌}
use mathlib.Core.Bool.{Bool, true, false, cond}
use mathlib.Core.Path.{◌≡◌, refl, sym, ◌∙◌}
use mathlib.Core.List.{[], ◌∷◌, ◌++◌}
use native.Mathlib.Omega.{arith}
use lib.Dec.{eqb, ltb}
use borrow.Author.Tests.{eqb-true, eqb-false, ne_eqb, ltb-true, ltb-false}
use Rattle.form.specs.declared.Sizes.{Sizes}
use Rattle.form.specs.Inside.Machine.{End, end_byte, event, plain, value, cap, Stack, name}
use Rattle.form.specs.Inside.Machine.{joint, tail}
use Rattle.form.specs.Inside.Counted.{a_node, a_test, an_event, counted}
use Rattle.form.specs.Inside.Rows.{code_at, codes, in_name, first_name}
use Rattle.form.specs.Inside.Machine.{ending, last, syms}
use Rattle.scanner.specs.Rules.{held}
use Rattle.scanner.specs.Places.{Numbered, is_end}
use Rattle.scanner.specs.Scanning.{tally_code, tally_number, tally_at}
use Rattle.scanner.proofs.SymbolSteps.{held_byte, held_end, held_digits, held_test, held_inner, end_known}
use Rattle.scanner.proofs.TurnSteps.{held_name, held_program, held_last, more}

-- a number that is no event's counts nothing
no_event : (s t : Bool) (v b : ℕ) (e : End) (σ : Stack) (k : Sizes) → counted (tail (cond s plain (cond t value cap)) v e ∷ σ) b k ≡ k
unfolding counted
no_event true t v b e σ k = refl
no_event false true v b e σ k = refl
no_event false false v b e σ k = refl

counts_number : (p v b : ℕ) (σ : Stack) (k : Sizes) → is_end (code_at p) ≡ true
    → counted (held p (Some v) ++ σ) b k ≡ (tally_number p v b k)
unfolding held counted tally_number
counts_number p v b σ k e = go (ltb (code_at (p - 1)) 139) (eqb b (code_at p)) refl
  where
    z : end_byte (ending (code_at p)) ≡ code_at p
    z = (end_known (code_at p) e).0

    τ : Stack
    τ = syms true (codes p) ++ σ

    go : (s t : Bool) → eqb b (code_at p) ≡ t
        → counted (tail (cond s event (cond (eqb (code_at (p - 1)) 139) plain (cond (eqb (code_at (p - 1)) 140) value cap))) v (ending (code_at p)) ∷ τ) b
        k
        ≡ (cond t (cond s (an_event v k) k) k)
    go true true f = rw (z, f) refl
    go true false f = rw (z, f) refl
    go false true f = no_event (eqb (code_at (p - 1)) 139) (eqb (code_at (p - 1)) 140) v b (ending (code_at p)) τ k
    go false false f = no_event (eqb (code_at (p - 1)) 139) (eqb (code_at (p - 1)) 140) v b (ending (code_at p)) τ k

-- a code that counts nothing
none_counted : (x b : ℕ) (k : Sizes) → (x ≡ 128 → ⊥) → (x ≡ 133 → ⊥) → (x ≡ 134 → ⊥) → (x ≡ 136 → ⊥) → tally_code x b k ≡ k
unfolding tally_code
none_counted x b k e f g h = simp (ne_eqb x 128 e, ne_eqb x 133 f, ne_eqb x 134 g, ne_eqb x 136 h)

-- names and what joins two configurations count nothing
last_counted : (x b : ℕ) (σ : Stack) (k : Sizes) → (x ≡ 133 → ⊥) → (x ≡ 136 → ⊥) → counted (last x ∷ σ) b k ≡ k
unfolding counted
last_counted x b σ k e f = rw (ne_eqb x 133 e, ne_eqb x 136 f) (go (eqb x 129))
  where
    go : (r : Bool) → counted (cond r (name first_name) joint ∷ σ) b k ≡ k
    go true = refl
    go false = refl

byte_counted : (p b : ℕ) (σ : Stack) (k : Sizes) → (code_at p ≡ 0 → ⊥) → code_at p < 128 → counted (held p None ++ σ) b k ≡ k
unfolding counted
byte_counted p b σ k e h = go (in_name p) refl
  where
    go : (r : Bool) → in_name p ≡ r → counted (held p None ++ σ) b k ≡ k
    go true o = rw (held_name p o) refl
    go false o = rw (held_byte p o e h) refl

end_counted : (p b : ℕ) (σ : Stack) (k : Sizes) → code_at p ≡ 0 → σ ≡ [] → counted (held p None ++ σ) b k ≡ k
unfolding counted
end_counted p b σ k e f = rw (held_end p e, f) refl

program_counted : (p b : ℕ) (σ : Stack) (k : Sizes) → code_at p ≡ 128
    → counted (held p None ++ σ) b k ≡ (tally_code (code_at p) b k)
unfolding counted tally_code
program_counted p b σ k e = rw (held_program p e, e) refl

parts_counted : (p b : ℕ) (σ : Stack) (k : Sizes) → code_at p ≡ 133
    → counted (held p None ++ σ) b k ≡ (tally_code (code_at p) b k)
unfolding counted tally_code
parts_counted p b σ k e = rw (held_last p (omega arith) (omega arith) (λ z. omega arith), e) (go (eqb b 44))
  where
    go : (s : Bool) → cond s (a_node k) k ≡ (cond s (a_node k) k)
    go true = refl
    go false = refl

test_counted : (p b : ℕ) (σ : Stack) (k : Sizes) → code_at p ≡ 134
    → counted (held p None ++ σ) b k ≡ (tally_code (code_at p) b k)
unfolding counted tally_code
test_counted p b σ k e = rw (held_test p e, e) refl

inner_counted : (p b : ℕ) (σ : Stack) (k : Sizes) → code_at p ≡ 136
    → counted (held p None ++ σ) b k ≡ (tally_code (code_at p) b k)
unfolding counted tally_code
inner_counted p b σ k e = rw (held_inner p e, e) (go (eqb b 110))
  where
    go : (s : Bool) → cond s k (a_test k) ≡ (cond s k (a_test k))
    go true = refl
    go false = refl

digits_counted : (p b : ℕ) (σ : Stack) (k : Sizes) → 138 ≤ code_at p → counted (held p None ++ σ) b k ≡ k
unfolding counted
digits_counted p b σ k h = rw (held_digits p h) refl

counts_code : (p b : ℕ) (σ : Stack) (k : Sizes) → (code_at p ≡ 0 → σ ≡ [])
    → counted (held p None ++ σ) b k ≡ (tally_code (code_at p) b k)
counts_code p b σ k z =
    go (ltb (code_at p) 128) refl (eqb (code_at p) 0) refl (eqb (code_at p) 128) refl (eqb (code_at p) 133) refl
    (eqb (code_at p) 134) refl (eqb (code_at p) 136) refl (ltb (code_at p) 138) refl
  where
    go : (a : Bool) → ltb (code_at p) 128 ≡ a → (c : Bool) → eqb (code_at p) 0 ≡ c → (d : Bool) → eqb (code_at p) 128 ≡ d
        → (e : Bool) → eqb (code_at p) 133 ≡ e → (f : Bool) → eqb (code_at p) 134 ≡ f → (g : Bool) → eqb (code_at p) 136 ≡ g
        → (h : Bool) → ltb (code_at p) 138 ≡ h → counted (held p None ++ σ) b k ≡ (tally_code (code_at p) b k)
    go true a true c d d' e e' f f' g g' h h' =
        let o = eqb-true (code_at p) 0 c in
        end_counted p b σ k o (z o)
        ∙ sym ((none_counted (code_at p) b k (λ y. omega arith) (λ y. omega arith) (λ y. omega arith) (λ y. omega arith)))
    go true a false c d d' e e' f f' g g' h h' =
        let o = ltb-true (code_at p) 128 a in
        byte_counted p b σ k (eqb-false (code_at p) 0 c) o
        ∙ sym ((none_counted (code_at p) b k (λ y. omega arith) (λ y. omega arith) (λ y. omega arith) (λ y. omega arith)))
    go false a c c' true d e e' f f' g g' h h' = program_counted p b σ k (eqb-true (code_at p) 128 d)
    go false a c c' false d true e f f' g g' h h' = parts_counted p b σ k (eqb-true (code_at p) 133 e)
    go false a c c' false d false e true f g g' h h' = test_counted p b σ k (eqb-true (code_at p) 134 f)
    go false a c c' false d false e false f true g h h' = inner_counted p b σ k (eqb-true (code_at p) 136 g)
    go false a c c' false d false e false f false g true h =
        let o = more (code_at p) (ltb-false (code_at p) 128 a) (eqb-false (code_at p) 128 d) in
        rw (held_last p o (ltb-true (code_at p) 138 h) (eqb-false (code_at p) 134 f))
        (last_counted (code_at p) b σ k (eqb-false (code_at p) 133 e) (eqb-false (code_at p) 136 g)
        ∙ sym ((none_counted (code_at p) b k (eqb-false (code_at p) 128 d) (eqb-false (code_at p) 133 e)
        (eqb-false (code_at p) 134 f) (eqb-false (code_at p) 136 g))))
    go false a c c' false d false e false f false g false h =
        digits_counted p b σ k (ltb-false (code_at p) 138 h)
        ∙ sym ((none_counted (code_at p) b k (eqb-false (code_at p) 128 d) (eqb-false (code_at p) 133 e)
        (eqb-false (code_at p) 134 f) (eqb-false (code_at p) 136 g)))

-- what the reader counts at a byte
pub counts_at : (p : ℕ) (n : Option ℕ) (b : ℕ) (σ : Stack) (k : Sizes) → Numbered p n → (code_at p ≡ 0 → σ ≡ [])
    → counted (held p n ++ σ) b k ≡ (tally_at p n b k)
unfolding tally_at
counts_at p None b σ k m z = counts_code p b σ k z
counts_at p (Some v) b σ k m z = counts_number p v b σ k m.0
