-- Every stack of the reading machine can be completed.
use Prim.Native.Nat.{ℕ, suc}
use mathlib.Core.Bool.{Bool, true, false}
use mathlib.Core.Path.{◌≡◌, refl, ap, sym, ◌∙◌, fun_ext}
use mathlib.Core.List.{List, [], ◌∷◌, ◌++◌}
use native.Mathlib.Omega.{arith}
use lib.Dec.{eqb}
use borrow.Author.Tests.{eqb-true, eqb-false, eq-eqb, ne_eqb}
use Rattle.letters.specs.Text.{bytes}
use Rattle.form.specs.Names.{Part, number, event, value, cap, test, program, programs, form_of}
use Rattle.form.specs.Inside.Rows.{code_at, codes_of, codes, in_name}
use Rattle.form.specs.Inside.Machine.{end_byte, Sym, Stack, then, byte, prog, name, parts, conf, inner, joint}
use Rattle.form.specs.Inside.Machine.{num, tail, syms, Next, dead, on, step, run}
use Rattle.form.proofs.NamesRead.{codes_more, name_code, name_on, not_first, opened, codes_inside}
use Rattle.form.proofs.Accepts.{run_byte, run_end}

-- a text for what stands in a form's brackets
abbrev finish_part : Part → List ℕ → List ℕ
finish_part number t = 48 ∷ t
finish_part event t = 48 ∷ t
finish_part value t = 48 ∷ t
finish_part cap t = 48 ∷ t
finish_part test t = 48 ∷ t
finish_part program t = bytes "Jr.Stop()" ++ t
finish_part programs t = bytes "Jr.Stop())"

finish_parts : List Part → List ℕ
finish_parts [] = bytes ")"
finish_parts (p ∷ []) = finish_part p (bytes ")")
finish_parts (p ∷ q ∷ l) = finish_part p (bytes ", " ++ finish_parts (q ∷ l))

finishes_parts : (l : List Part) (σ : Stack) (x : List ℕ) → run (syms false (codes_of l) ++ σ) (finish_parts l ++ x) ≡ run σ x
unfolding run syms codes_of finish_parts
finishes_parts [] σ x = refl
finishes_parts (number ∷ []) σ x = refl
finishes_parts (event ∷ []) σ x = refl
finishes_parts (value ∷ []) σ x = refl
finishes_parts (cap ∷ []) σ x = refl
finishes_parts (test ∷ []) σ x = refl
finishes_parts (program ∷ []) σ x = refl
finishes_parts (programs ∷ []) σ x = refl
finishes_parts (number ∷ q ∷ l) σ x = finishes_parts (q ∷ l) σ x
finishes_parts (event ∷ q ∷ l) σ x = finishes_parts (q ∷ l) σ x
finishes_parts (value ∷ q ∷ l) σ x = finishes_parts (q ∷ l) σ x
finishes_parts (cap ∷ q ∷ l) σ x = finishes_parts (q ∷ l) σ x
finishes_parts (test ∷ q ∷ l) σ x = finishes_parts (q ∷ l) σ x
finishes_parts (program ∷ q ∷ l) σ x = finishes_parts (q ∷ l) σ x
finishes_parts (programs ∷ q ∷ l) σ x = refl

-- a text after which nothing is left of a symbol
pub record Finish (s : Sym) : Type 0 where
  text : List ℕ
  reads : (σ : Stack) (x : List ℕ) → run (s ∷ σ) (text ++ x) ≡ run σ x

-- a name is finished along its own row
module _ (p : ℕ) (h : in_name p ≡ true) where
  at_bracket : code_at p ≡ 40 → Finish (name p)
  unfolding run
  at_bracket e =
      let o = opened p e in
      record {
        text = 40 ∷ finish_parts (form_of o.form).inside;
        reads = λ σ x.
            rw (h, eq-eqb 40 (code_at p) (sym e), ne_eqb p 0 (not_first p h), o.end_is, codes_inside o.form o.known)
            (finishes_parts (form_of o.form).inside σ x);
      }

  at_letter : (code_at p ≡ 40 → ⊥) → Finish (name (suc p)) → Finish (name p)
  unfolding run
  at_letter e f =
      record {
        text = code_at p ∷ f.text;
        reads = λ σ x.
            rw (h, eq-eqb (code_at p) (code_at p) refl, ne_eqb p 0 (not_first p h), ne_eqb (code_at p) 40 e) (f.reads σ x);
      }

along : (l : List ℕ) (p : ℕ) → codes p ≡ l → in_name p ≡ true → Finish (name p)
along [] p e h = absurd (nil≢cons (sym e ∙ codes_more p (name_code p h)))
  where
    nil≢cons : {x : ℕ} {m : List ℕ} → [] ≡ x ∷ m → ⊥
    nil≢cons z = let y : ◌≡◌ {A = ℕ} 0 1 = cc in omega arith
along (c ∷ l) p e h = go (eqb (code_at p) 40) refl (λ n. along l (suc p) (ap tail_of (sym (codes_more p (name_code p h)) ∙ e)) n)
  where
    tail_of : List ℕ → List ℕ
    tail_of [] = []
    tail_of (x ∷ m) = m

    go : (b : Bool) → eqb (code_at p) 40 ≡ b → (in_name (suc p) ≡ true → Finish (name (suc p))) → Finish (name p)
    go true f k = at_bracket p h (eqb-true _ 40 f)
    go false f k = at_letter p h (eqb-false _ 40 f) (k (name_on p h (eqb-false _ 40 f)))

finish_name : (p : ℕ) → Finish (name p)
unfolding run
finish_name p = go (in_name p) refl
  where
    go : (b : Bool) → in_name p ≡ b → Finish (name p)
    go true h = along (codes p) p refl h
    go false h = record { text = bytes "Nothing()"; reads = λ σ x. rw h refl }

finish_sym : (s : Sym) → Finish s
unfolding run
finish_sym (byte c) = record { text = c ∷ []; reads = λ σ x. run_byte c σ x }
finish_sym prog = record { text = bytes "Jr.Stop()"; reads = λ σ x. refl }
finish_sym (name p) = finish_name p
finish_sym parts = record { text = bytes ")"; reads = λ σ x. refl }
finish_sym (conf e) = record { text = 48 ∷ end_byte e ∷ []; reads = λ σ x. run_end _ 0 e σ x }
finish_sym inner = record { text = bytes "not 0)"; reads = λ σ x. refl }
finish_sym joint = record { text = bytes "or 0)"; reads = λ σ x. refl }
finish_sym (num n e) = record { text = 48 ∷ end_byte e ∷ []; reads = λ σ x. run_end n 0 e σ x }
finish_sym (tail n v e) = record { text = end_byte e ∷ []; reads = λ σ x. run_end n v e σ x }

pub finish : Stack → List ℕ
finish [] = []
finish (s ∷ σ) = (finish_sym s).text ++ finish σ

pub finishes : (σ : Stack) → run σ (finish σ) ≡ on []
unfolding run finish
finishes [] = refl
finishes (s ∷ σ) = (finish_sym s).reads σ (finish σ) ∙ finishes σ

then_then : (n : Next) (f g : Stack → Next) → then (then n f) g ≡ then n (λ τ. then (f τ) g)
then_then dead f g = refl
then_then (on τ) f g = refl

pub run_append : (σ : Stack) (w x : List ℕ) → run σ (w ++ x) ≡ then (run σ w) (λ τ. run τ x)
unfolding run
run_append σ [] x = refl
run_append σ (b ∷ w) x =
    ap (then (step σ b)) (fun_ext (λ τ. run_append τ w x)) ∙ sym (then_then (step σ b) (λ τ. run τ w) (λ τ. run τ x))
