-- What each turn keeps of the place where the reader is: at parts, names and numbers; and so each turn.
use Rattle.std.specs.Prelude.{Option, None, Some}
use Prim.Native.Nat.{ℕ, zero, suc, ◌-◌, ◌<◌, ◌≤◌}
use mathlib.Core.Bool.{Bool, true, false, cond, ◌&&◌, false≢true}
use mathlib.Core.Path.{◌≡◌, refl}
use native.Mathlib.Omega.{arith}
use lib.Dec.{eqb, ltb, leb}
use borrow.Author.Tests.{eqb-true, eqb-false, ne_eqb, eq-eqb, le-ltb, lt-ltb, le-leb, leb-true, ltb-true, ltb-false}
use Rattle.form.specs.Inside.Rows.{code_at, codes, in_name, first_name}
use Rattle.form.specs.Inside.Machine.{Number, event, plain, value, cap, is_digit_byte, grown, limit, sort_of}
use Rattle.form.proofs.ComputedTests.{both}
use Rattle.form.proofs.Digits.{digit_is}
use Rattle.form.proofs.NamesRead.{codes_more}
use Rattle.scanner.specs.declared.rules.Turn.TheVariants.{On, Into, Out}
use Rattle.scanner.specs.declared.levels.Level.{Level}
use Rattle.scanner.specs.declared.levels.Level.TheVariants.{Top, Several, Branches, Test, One}
use Rattle.scanner.specs.Rules.{place_behind_j, behind_a, behind_o, behind_comma}
use Rattle.scanner.specs.Turns.{literal_turn, digit_turn, test_turn, inner_turn, parts_turn, joint_turn}
use Rattle.scanner.specs.Turns.{symbol_turn, number_turn, turn_of}
use Rattle.scanner.specs.Places.{is_bracket, is_test, is_several, heads, fits, Numbered}
use Rattle.scanner.proofs.NamesChecked.{after_number, name_heads, before_name}
use Rattle.scanner.proofs.SymbolSteps.{end_known}
use Rattle.scanner.proofs.TurnSteps.{more}
use Rattle.scanner.proofs.PlaceKept.{Goes, Sits, sits_dead, sits_on, sits_program, sits_out, As, sits_as}
use Rattle.scanner.proofs.PlaceKept.{follows_byte, follows_symbol, follows_first, sits_literal}
use Rattle.scanner.proofs.PlaceKeptByTests.{sits_digit, sits_at_test, sits_inner}

-- behind a second or later part
parts_fits : (p : ℕ) (k : Level) (c : ℕ) → code_at p ≡ 133 → fits k c (codes p) ≡ true → is_several k ≡ true
unfolding fits
parts_fits p k c e o = rw (codes_more p (λ z. omega arith), e) at o

no_head_parts : (p : ℕ) → code_at p ≡ 133 → heads (codes p) ≡ true → ⊥
unfolding heads
no_head_parts p e k = false≢true (rw (codes_more p (λ z. omega arith), e) at k)

several_bracket : (k : Level) → is_several k ≡ true → is_bracket k ≡ true
several_bracket Top e = e
several_bracket Several e = refl
several_bracket Branches e = refl
several_bracket Test e = refl
several_bracket One e = refl

more_fits : (k : Level) (c : ℕ) → is_several k ≡ true → fits k c (codes behind_comma) ≡ true
unfolding codes fits
more_fits Top c e = absurd (false≢true e)
more_fits Several zero e = refl
more_fits Several (suc c) e = refl
more_fits Branches c e = absurd (false≢true e)
more_fits Test c e = absurd (false≢true e)
more_fits One c e = absurd (false≢true e)

goes_part : (p : ℕ) → code_at p ≡ 133 → Goes p 44 behind_comma None
unfolding code_at
goes_part p e =
    record {
      not_open = λ z. omega arith;
      not_close = λ z. omega arith;
      in_head = λ k. absurd (no_head_parts p e k);
      in_body = λ k c o. more_fits k c (parts_fits p k c e o);
      following = λ t i q o. follows_byte 185 44 refl (λ z. omega arith) t i q (follows_symbol 185 (omega arith) t i);
      numbering = tt;
    }

sits_parts : (p b : ℕ) → code_at p ≡ 133 → Sits p b (parts_turn b)
unfolding parts_turn
sits_parts p b e = go (eqb b 41) refl (eqb b 44) refl
  where
    go : (s : Bool) → eqb b 41 ≡ s → (t : Bool) → eqb b 44 ≡ t → Sits p b (cond s (Some Out) (cond t (Some (On behind_comma None)) None))
    go true q t r =
        sits_out (eqb-true b 41 q)
        (record { no_head = no_head_parts p e; in_body = λ k c o. several_bracket k (parts_fits p k c e o) })
    go false q true r = rw (eqb-true b 44 r) (sits_on (goes_part p e))
    go false q false r = sits_dead

-- where a name is to come, the reader may be at the first of them as well
as_first : (p : ℕ) → code_at p ≡ 129 → As p first_name
unfolding code_at codes heads in_name
as_first p e =
    record {
      heads_here = rw (codes_more p (λ z. omega arith), e) refl;
      heads_there = name_heads first_name refl;
      letter_there = omega arith;
      following = λ t i f.
          let d = before_name p e in
          let x = f.one (rw d refl) in
          record { one = λ h. absurd (false≢true h); two = λ h. absurd (false≢true h); first = λ h. omega (arith, x, d) };
    }

sits_name : (p b : ℕ) → code_at p ≡ 129 → Sits p b (literal_turn first_name b)
unfolding code_at
sits_name p b e = sits_as (as_first p e) (sits_literal first_name b (λ z. omega arith) (omega arith))

joint_fits : (p : ℕ) (k : Level) (c : ℕ) → 128 < code_at p → code_at p < 138 → (code_at p ≡ 129 → ⊥) → (code_at p ≡ 133 → ⊥)
    → (code_at p ≡ 134 → ⊥) → (code_at p ≡ 136 → ⊥) → fits k c (codes p) ≡ true → is_test k ≡ true
unfolding fits
joint_fits p k c g h n m e f o =
    simp (
      codes_more p (λ z. omega arith),
      le-ltb (code_at p) 128 (omega arith),
      ne_eqb (code_at p) 128 (λ z. omega arith),
      ne_eqb (code_at p) 134 e,
      ne_eqb (code_at p) 136 f,
      ne_eqb (code_at p) 133 m,
      ne_eqb (code_at p) 129 n,
      lt-ltb (code_at p) 138 h,
    ) at o

no_head_symbol : (p : ℕ) → 128 ≤ code_at p → (code_at p ≡ 129 → ⊥) → heads (codes p) ≡ true → ⊥
unfolding heads
no_head_symbol p g n k =
    false≢true
    (simp (
      codes_more p (λ z. omega arith),
      ne_eqb (code_at p) 40 (λ z. omega arith),
      le-leb 128 (code_at p) g,
      ne_eqb (code_at p) 129 n,
    ) at k)

and_fits : (k : Level) (c : ℕ) → is_test k ≡ true → fits k c (codes behind_a) ≡ true
unfolding codes fits
and_fits Top c e = absurd (false≢true e)
and_fits Several c e = absurd (false≢true e)
and_fits Branches c e = absurd (false≢true e)
and_fits Test zero e = refl
and_fits Test (suc c) e = refl
and_fits One c e = absurd (false≢true e)

or_fits : (k : Level) (c : ℕ) → is_test k ≡ true → fits k c (codes behind_o) ≡ true
unfolding codes fits
or_fits Top c e = absurd (false≢true e)
or_fits Several c e = absurd (false≢true e)
or_fits Branches c e = absurd (false≢true e)
or_fits Test zero e = refl
or_fits Test (suc c) e = refl
or_fits One c e = absurd (false≢true e)

-- behind the first letter of `and` or `or`
goes_word : (p q b : ℕ) → (heads (codes p) ≡ true → ⊥) → ((k : Level) (c : ℕ) → fits k c (codes p) ≡ true → is_test k ≡ true)
    → ((k : Level) (c : ℕ) → is_test k ≡ true → fits k c (codes (suc q)) ≡ true)
    → 97 ≤ b → b ≡ code_at q → code_at (q - 1) ≡ 0 → Goes p b (suc q) None
goes_word p q b n f g l e z =
    record {
      not_open = λ y. omega arith;
      not_close = λ y. omega arith;
      in_head = λ k. absurd (n k);
      in_body = λ k c o. rw (ne_eqb b 32 (λ y. omega arith)) (g k c (f k c o));
      following = λ t i y o. follows_first q b e (λ x. omega arith) z t i y;
      numbering = tt;
    }

sits_joint : (p b : ℕ) → (heads (codes p) ≡ true → ⊥) → ((k : Level) (c : ℕ) → fits k c (codes p) ≡ true → is_test k ≡ true)
    → Sits p b (joint_turn b)
unfolding code_at joint_turn
sits_joint p b n f = go (eqb b 97) refl (eqb b 111) refl
  where
    go : (s : Bool) → eqb b 97 ≡ s → (t : Bool) → eqb b 111 ≡ t → Sits p b (cond s (Some (On behind_a None)) (cond t (Some (On behind_o None)) None))
    go true q t r = let e = eqb-true b 97 q in sits_on (goes_word p 80 b n f and_fits (omega arith) e refl)
    go false q true r = let e = eqb-true b 111 r in sits_on (goes_word p 100 b n f or_fits (omega arith) e refl)
    go false q false r = sits_dead

-- the next digit of a number
goes_on : (p v b : ℕ) → Numbered p (Some v) → is_digit_byte b ≡ true → grown v b ≤ 65535 → Goes p b p (Some (grown v b))
goes_on p v b (e, s, m) d h =
    let l = digit_is b d in
    record {
      not_open = λ z. omega arith;
      not_close = λ z. omega arith;
      in_head = λ k. ((λ z. omega arith), k);
      in_body = λ k c o. rw (ne_eqb b 32 (λ z. omega arith)) o;
      following = λ t i q o. follows_symbol p s t (suc i);
      numbering = (e, s, h);
    }

limit_low : (n : Number) (x : ℕ) → x ≤ limit n → x ≤ 65535
limit_low event x h = omega arith
limit_low plain x h = h
limit_low value x h = omega arith
limit_low cap x h = omega arith

sits_number : (p v b : ℕ) → Numbered p (Some v) → Sits p b (number_turn p v b)
unfolding number_turn
sits_number p v b m =
    go (is_digit_byte b) refl (leb 1 v && leb (grown v b) (limit (sort_of (code_at (p - 1))))) refl
  where
    go : (d : Bool) → is_digit_byte b ≡ d → (s : Bool) → leb 1 v && leb (grown v b) (limit (sort_of (code_at (p - 1)))) ≡ s
        → Sits p b (cond d (cond s (Some (On p (Some (grown v b)))) None) (literal_turn p b))
    go true d true s =
        let l = leb-true (grown v b) (limit (sort_of (code_at (p - 1)))) (both {a = leb 1 v} s).1 in
        sits_on (goes_on p v b m d (limit_low (sort_of (code_at (p - 1))) (grown v b) l))
    go true d false s = sits_dead
    go false d s r = let k = end_known (code_at p) m.0 in sits_literal p b k.2 k.1

digits_fits : (p : ℕ) (k : Level) (c : ℕ) → 138 ≤ code_at p → fits k c (codes p) ≡ true → fits k c (codes (suc p)) ≡ true
unfolding fits
digits_fits p k c h o =
    simp (
      codes_more p (λ z. omega arith),
      le-ltb (code_at p) 128 (omega arith),
      ne_eqb (code_at p) 128 (λ z. omega arith),
      ne_eqb (code_at p) 134 (λ z. omega arith),
      ne_eqb (code_at p) 136 (λ z. omega arith),
      ne_eqb (code_at p) 133 (λ z. omega arith),
      ne_eqb (code_at p) 129 (λ z. omega arith),
      le-ltb (code_at p) 138 h,
    ) at o

sits_symbol : (p b : ℕ) → 128 ≤ code_at p → Sits p b (symbol_turn (code_at p) p b)
unfolding symbol_turn
sits_symbol p b h =
    go (eqb (code_at p) 128) refl (eqb (code_at p) 133) refl (eqb (code_at p) 134) refl (eqb (code_at p) 136) refl
    (eqb (code_at p) 129) refl (ltb (code_at p) 138) refl (eqb b 74) refl
  where
    go : (r : Bool) → eqb (code_at p) 128 ≡ r → (s : Bool) → eqb (code_at p) 133 ≡ s → (t : Bool) → eqb (code_at p) 134 ≡ t
        → (u : Bool) → eqb (code_at p) 136 ≡ u → (v : Bool) → eqb (code_at p) 129 ≡ v → (w : Bool) → ltb (code_at p) 138 ≡ w
        → (x : Bool) → eqb b 74 ≡ x
        → Sits p b (cond r (cond x (Some (Into place_behind_j)) None) (cond s (parts_turn b) (cond t (test_turn p b) (cond u (inner_turn p b)
        (cond v (literal_turn first_name b) (cond w (joint_turn b) (digit_turn p b)))))))
    go true e s f t g u i v j w k true l = sits_program (eqb-true b 74 l) (eqb-true (code_at p) 128 e)
    go true e s f t g u i v j w k false l = sits_dead
    go false e true f t g u i v j w k x l = sits_parts p b (eqb-true (code_at p) 133 f)
    go false e false f true g u i v j w k x l = sits_at_test p b (eqb-true (code_at p) 134 g)
    go false e false f false g true i v j w k x l = sits_inner p b (eqb-true (code_at p) 136 i)
    go false e false f false g false i true j w k x l = sits_name p b (eqb-true (code_at p) 129 j)
    go false e false f false g false i false j true k x l =
        let n = eqb-false (code_at p) 129 j in
        sits_joint p b (no_head_symbol p h n) (λ m c o.
        joint_fits p m c (more (code_at p) h (eqb-false (code_at p) 128 e)) (ltb-true (code_at p) 138 k) n (eqb-false (code_at p) 133 f)
        (eqb-false (code_at p) 134 g) (eqb-false (code_at p) 136 i) o)
    go false e false f false g false i false j false k x l =
        let y = ltb-false (code_at p) 138 k in
        sits_digit p b h (no_head_symbol p h (eqb-false (code_at p) 129 j)) (λ m c o. digits_fits p m c y o) (after_number p y)

sits_ended : (p b : ℕ) → code_at p ≡ 0 → Sits p b (literal_turn p b)
unfolding literal_turn
sits_ended p b e = rw (eq-eqb (code_at p) 0 e) sits_dead

pub sits : (p : ℕ) (n : Option ℕ) (b : ℕ) → Numbered p n → Sits p b (turn_of p n b)
unfolding turn_of
sits p None b m = go (ltb (code_at p) 128) refl (eqb (code_at p) 0) refl
  where
    go : (s : Bool) → ltb (code_at p) 128 ≡ s → (t : Bool) → eqb (code_at p) 0 ≡ t
        → Sits p b (cond s (literal_turn p b) (symbol_turn (code_at p) p b))
    go false e t f = sits_symbol p b (ltb-false (code_at p) 128 e)
    go true e true f = sits_ended p b (eqb-true (code_at p) 0 f)
    go true e false f = sits_literal p b (eqb-false (code_at p) 0 f) (ltb-true (code_at p) 128 e)
sits p (Some v) b m = sits_number p v b m
