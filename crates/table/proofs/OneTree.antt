-- The records spell one tree only: `one_tree`.
use Prim.Native.Nat.{ℕ, zero, suc, ◌+◌}
use mathlib.Core.Path.{◌≡◌, refl, ap, ap₂, sym, ◌∙◌}
use mathlib.Core.List.{List}
use native.Mathlib.Omega.{arith}
use Rattle.junior.specs.Configuration.{Config}
use Rattle.junior.specs.Program.{Program, Nothing, Atom, Repeat, Generate, Await, When, Until, Control, Local, Freezable, If}
use Rattle.junior.specs.Program.{Argument, no_argument, number, event, configuration, value, capped, argument, kind}
use Rattle.junior.specs.Values.{exactly, asked}
use Rattle.junior.specs.Program.{Leaf, nothing, stop, atom, generate, await, One, loop, repeat, control, local, freezable}
use Rattle.junior.specs.Program.{Two, seq, par, when, until, if, Parts, no_part, one_part, two_parts, parts, size_of, size}
use Rattle.table.proofs.ByParts.{written}
use Rattle.table.proofs.Spelled.{configuration_is}
use Rattle.table.specs.Records.{kind_at, argument_at, second_child, part_size}
use Rattle.table.specs.Spells.{value_in, cap_in, weight, Configured, configuration_of, Argues, SpellsParts, Spells, form, tested}

-- the program at node i, found by the sizes written there
reading : List ℕ → ℕ → ℕ → Program
reading t zero i = Nothing
reading t (suc f) i =
    form
    (kind_at t i)
    (argument_at t i)
    (configuration_of t (part_size t (tested t i)) (tested t i))
    (reading t f (i + 1))
    (reading t f (second_child t i))

-- a level for the node itself, and enough for its parts
leaf_level : (f : ℕ) → 1 + f ≡ suc f
leaf_level f = omega arith

one_level : (x f : ℕ) → 1 + x + f ≡ suc (x + f)
one_level x f = omega arith

two_levels : (x y f : ℕ) → 1 + x + y + f ≡ suc (x + (y + f))
two_levels x y f = omega arith

exchange : (x y f : ℕ) → x + (y + f) ≡ y + (x + f)
exchange x y f = omega arith

-- the argument a or c is this one
abbrev Fits : ℕ → Config → Argument → Type 0
Fits a c no_argument = Unit {0}
Fits a c (number n) = a ≡ n
Fits a c (event s) = a ≡ s
Fits a c (configuration d) = c ≡ d
Fits a c (value v) = a ≡ v
Fits a c (capped v cap) = (value_in a ≡ v) × (cap_in a ≡ cap)

-- each form is the form of its kind with its argument and its parts
module _ (a : ℕ) (c : Config) where
  form_none : {p : Program} → Leaf p → (q r : Program) → Fits a c (argument p) → form (kind p) a c q r ≡ p
  unfolding form kind
  form_none nothing q r e = refl
  form_none stop q r e = refl
  form_none (atom n) q r e = ap Atom e
  form_none (generate s) q r e = ap Generate e
  form_none (await d) q r e = ap Await e

  form_one : {p q : Program} → One p q → (r : Program) → Fits a c (argument p) → form (kind p) a c q r ≡ p
  unfolding form kind
  form_one (loop q) r e = refl
  form_one (repeat (exactly n) q) r e = ap (λ n. Repeat (exactly n) q) e
  form_one (repeat (asked v cap) q) r e = ap₂ (λ v cap. Repeat (asked v cap) q) e.0 e.1
  form_one (control s q) r e = ap (λ s. Control s q) e
  form_one (local s q) r e = ap (λ s. Local s q) e
  form_one (freezable s q) r e = ap (λ s. Freezable s q) e

  form_two : {p q r : Program} → Two p q r → Fits a c (argument p) → form (kind p) a c q r ≡ p
  unfolding form kind
  form_two (seq q r) e = refl
  form_two (par q r) e = refl
  form_two (when d q r) e = ap (λ d. When d q r) e
  form_two (until d q r) e = ap (λ d. Until d q r) e
  form_two (if v q r) e = ap (λ v. If v q r) e

module _ (t : List ℕ) where
  tested_is : (c : ℕ) (d : Config) → Configured t c d → configuration_of t (part_size t c) c ≡ d
  tested_is c d h =
      let n : part_size t c ≡ weight d + 0 = let w = written t c d h in omega arith in
      rw n (configuration_is t c 0 d h)

  fits : (i : ℕ) (a : Argument) → Argues t i a
      → Fits (argument_at t i) (configuration_of t (part_size t (tested t i)) (tested t i)) a
  fits i no_argument h = tt
  fits i (number n) h = h
  fits i (event s) h = h
  fits i (configuration c) h = tested_is (tested t i) c h
  fits i (value v) h = h
  fits i (capped v cap) h = h

  reading_is : (f i : ℕ) {p : Program} (v : Parts p) → SpellsParts t i v → reading t (size_of v + f) i ≡ p
  unfolding reading
  reading_is f i {p} (no_part g) ((k, s), a) = rw (leaf_level f, k) (form_none _ _ g _ _ (fits i (argument p) a))
  reading_is f i {p} (one_part g q) ((k, s), a, h) =
      rw (one_level (size_of q) f, k, reading_is f _ q h) (form_one _ _ g _ (fits i (argument p) a))
  reading_is f i {p} (two_parts g q r) ((k, s), a, h, u) =
      rw
      (two_levels (size_of q) (size_of r) f, k, reading_is (size_of r + f) _ q h, exchange (size_of q) (size_of r) f)
      (rw (reading_is (size_of q + f) _ r u) (form_two _ _ g (fits i (argument p) a)))

  whole_is : (f i : ℕ) (p : Program) → Spells t i p → reading t (size p + f) i ≡ p
  unfolding Spells size
  whole_is f i p h = reading_is f i (parts p) h

pub one_tree : (t : List ℕ) (i : ℕ) (p q : Program) → Spells t i p → Spells t i q → p ≡ q
one_tree t i p q h g =
    let n : size q + size p ≡ size p + size q = omega arith in
    sym (whole_is t (size q) i p h) ∙ rw n at (whole_is t (size p) i q g)
