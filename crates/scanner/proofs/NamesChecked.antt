-- Facts that hold at each place of the table of names, each by one computed test over all of them.
use Prim.Native.Nat.{ℕ, suc, ◌-◌, ◌≤◌}
use mathlib.Core.Bool.{Bool, true, false, cond, ◌&&◌, false≢true}
use mathlib.Core.Path.{◌≡◌, refl}
use mathlib.Core.List.{[], ◌∷◌}
use native.Mathlib.Omega.{arith}
use lib.Dec.{eqb, ltb, leb}
use borrow.Author.Tests.{eqb-true, le-leb}
use Rattle.form.specs.Inside.Rows.{long, code_at, codes, same, in_name}
use Rattle.form.proofs.ComputedTests.{both, all, all_at}
use Rattle.form.proofs.NamesRead.{in_names, at_code, by_code, name_code}
use Rattle.scanner.specs.Levels.{level_of}
use Rattle.scanner.specs.Places.{heads, fits, is_plain, is_end}

unfoldable closed : ℕ → Bool
closed p = eqb (code_at (suc p)) 0

-- a closing bracket ends its rule
pub after_close : (p : ℕ) → code_at p ≡ 41 → code_at (suc p) ≡ 0
unfolding all at_code code_at closed
after_close p e = eqb-true _ _ (by_code 41 closed (λ z. omega arith) refl p e)

unfoldable ended : ℕ → Bool
ended p = is_end (code_at (suc p))

-- behind a configuration or a number stands its end byte
pub after_test : (p : ℕ) → code_at p ≡ 134 → is_end (code_at (suc p)) ≡ true
unfolding all at_code code_at ended
after_test p e = by_code 134 ended (λ z. omega arith) refl p e

pub after_number : (p : ℕ) → 138 ≤ code_at p → is_end (code_at (suc p)) ≡ true
unfolding all code_at ended
after_number p h =
    simp (le-leb 138 (code_at p) h) at (all_at long (λ q. cond (leb 138 (code_at q)) (ended q) true) refl p (in_names p (λ o. omega arith)))

unfoldable second : ℕ → Bool
second p = same (codes (suc p)) (32 ∷ 137 ∷ []) && eqb (code_at (p - 1)) 0

pub after_inner : (p : ℕ) → code_at p ≡ 136 → same (codes (suc p)) (32 ∷ 137 ∷ []) ≡ true
unfolding all at_code code_at codes same second
after_inner p e = (both (by_code 136 second (λ z. omega arith) refl p e)).0

pub before_inner : (p : ℕ) → code_at p ≡ 136 → code_at (p - 1) ≡ 0
unfolding all at_code code_at codes same second
before_inner p e = eqb-true _ _ (both {a = same (codes (suc p)) (32 ∷ 137 ∷ [])} (by_code 136 second (λ z. omega arith) refl p e)).1

unfoldable tested : ℕ → Bool
tested p = is_plain (code_at (p - 1)) && ltb (code_at (p - 1)) 97

-- before a configuration stands a bracket or a space
pub before_test : (p : ℕ) → code_at p ≡ 134 → is_plain (code_at (p - 1)) && ltb (code_at (p - 1)) 97 ≡ true
unfolding all at_code code_at tested
before_test p e = by_code 134 tested (λ z. omega arith) refl p e

unfoldable named : ℕ → Bool
named p = is_plain (code_at (p - 1)) && is_plain (code_at (p - 2))

pub before_bracket : (p : ℕ) → code_at p ≡ 40 → is_plain (code_at (p - 1)) && is_plain (code_at (p - 2)) ≡ true
unfolding all at_code code_at named
before_bracket p e = by_code 40 named (λ z. omega arith) refl p e

unfoldable fitting : ℕ → Bool
fitting p = fits (level_of (code_at (p - 2)) (code_at (p - 1))) 0 (codes (suc p))

-- a form's name tells its level
pub level_told : (p : ℕ) → code_at p ≡ 40 → fits (level_of (code_at (p - 2)) (code_at (p - 1))) 0 (codes (suc p)) ≡ true
unfolding all at_code code_at codes level_of fits fitting
level_told p e = by_code 40 fitting (λ z. omega arith) refl p e

-- a closing bracket is in no name
unfoldable outside : ℕ → Bool
outside p = cond (in_name p) false true

pub close_out : (p : ℕ) → code_at p ≡ 41 → in_name p ≡ true → ⊥
unfolding all at_code code_at in_name outside
close_out p e h = false≢true (rw h at (by_code 41 outside (λ z. omega arith) refl p e))

-- within a name its bracket is to come
unfoldable headed : ℕ → Bool
headed p = cond (in_name p) (heads (codes p)) true

pub name_heads : (p : ℕ) → in_name p ≡ true → heads (codes p) ≡ true
unfolding all code_at codes in_name heads headed
name_heads p h = rw h at (all_at long headed refl p (in_names p (name_code p h)))

-- before a name stands the dot
unfoldable dotted : ℕ → Bool
dotted p = eqb (code_at (p - 1)) 46

pub before_name : (p : ℕ) → code_at p ≡ 129 → code_at (p - 1) ≡ 46
unfolding all at_code code_at dotted
before_name p e = eqb-true _ 46 (by_code 129 dotted (λ z. omega arith) refl p e)
