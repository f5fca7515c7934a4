-- What the tests on a node's phase and flags say.
use Prim.Native.Nat.{ℕ}
use mathlib.Core.Bool.{Bool, true, false, ◌&&◌, false≢true}
use mathlib.Core.Path.{◌≡◌, refl, sym, ◌∙◌}
use mathlib.Core.Logic.{◌≢◌}
use lib.Dec.{eqb}
use borrow.Author.Tests.{eqb-true, eq-eqb}

pub both_true : (a b : Bool) → (a && b) ≡ true → (a ≡ true) × (b ≡ true)
both_true true b e = (refl, e)
both_true false b e = absurd (false≢true e)

pub both_zero : (p f : ℕ) → (eqb p 0 && eqb f 0) ≡ true → (p ≡ 0) × (f ≡ 0)
both_zero p f e = let (a, b) = both_true (eqb p 0) (eqb f 0) e in (eqb-true p 0 a, eqb-true f 0 b)

pub not_both_zero : (p f : ℕ) → (eqb p 0 && eqb f 0) ≡ false → p ≡ 0 → f ≢ 0
not_both_zero p f e a b = false≢true (sym e ∙ rw (eq-eqb p 0 a, eq-eqb f 0 b))
