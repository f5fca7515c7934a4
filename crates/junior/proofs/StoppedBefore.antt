-- What stopped before request L2 still stops, and no figure has grown.
use Prim.Native.Nat.{ℕ, ◌≤◌}
use mathlib.Core.Bool.{Bool, true, false, not, ◌&&◌, and-eq-true_iff, false≢true, or-true}
use mathlib.Core.Path.{◌≡◌, refl}
use native.Mathlib.Nat.{mul-le-mul}
use native.Mathlib.Omega.{arith}
use Rattle.junior.specs.Values.{most, surely}
use Rattle.junior.specs.Configuration.{early_true, early_false}
use Rattle.junior.specs.Program.{Program, Nothing, Stop, Atom, Seq, Par, Loop, Repeat, Generate, Await, When, Until, Control, Local, Freezable}
use Rattle.junior.specs.Program.{If}
use Rattle.junior.specs.Figures.{only_if, stops, times, figure}
use Rattle.junior.specs.StoppedBefore.{stopped_before, figure_before}
use Rattle.junior.proofs.Held.{either}

-- what stops is enough, needed or not
enough : (possible : Bool) {b : Bool} → b ≡ true → only_if possible b ≡ true
enough possible h = rw h (or-true (not possible))

both : {a b c d : Bool} → (a ≡ true → c ≡ true) → (b ≡ true → d ≡ true) → (a && b) ≡ true → (c && d) ≡ true
both {a} {b} {c} {d} f g h = let k = (and-eq-true_iff a b).0 h in (and-eq-true_iff c d).1 (f k.0, g k.1)

pub still_stops : (p : Program) → stopped_before p ≡ true → stops p ≡ true
unfolding stopped_before stops
still_stops Nothing h = h
still_stops Stop h = h
still_stops (Atom a) h = h
still_stops (Seq p q) h = either (stopped_before p) (stopped_before q) (still_stops p) (still_stops q) h
still_stops (Par p q) h = either (stopped_before p) (stopped_before q) (still_stops p) (still_stops q) h
still_stops (Loop p) h = h
still_stops (Repeat n p) h = both {a = surely n} {c = surely n} (λ x. x) (still_stops p) h
still_stops (Generate s) h = h
still_stops (Await c) h = absurd (false≢true h)
still_stops (When c p q) h =
    both {a = stopped_before p} (λ x. enough (early_true c) (still_stops p x)) (λ x. enough (early_false c) (still_stops q x)) h
still_stops (Until c p q) h = both {a = stopped_before p} (still_stops p) (λ x. enough (early_true c) (still_stops q x)) h
still_stops (Control s p) h = still_stops p h
still_stops (Local s p) h = still_stops p h
still_stops (Freezable s p) h = h
still_stops (If v p q) h = both {a = stopped_before p} (still_stops p) (still_stops q) h

-- how often a body counts that stopped before only if it stops now
no_oftener : (n : ℕ) (before now : Bool) → (before ≡ true → now ≡ true) → times n now ≤ times n before
no_oftener n true true h = omega arith
no_oftener n true false h = absurd (false≢true (h refl))
no_oftener n false true h = omega arith
no_oftener n false false h = omega arith

module _ (k : Program → ℕ) where
  pub no_larger : (p : Program) → figure k p ≤ figure_before k p
  unfolding figure figure_before
  no_larger Nothing = omega arith
  no_larger Stop = omega arith
  no_larger (Atom a) = omega arith
  no_larger (Seq p q) = omega (arith, no_larger p, no_larger q)
  no_larger (Par p q) = omega (arith, no_larger p, no_larger q)
  no_larger (Loop p) = omega (arith, no_larger p)
  no_larger (Repeat n p) =
      let m = mul-le-mul (no_oftener (most n) (stopped_before p) (stops p) (still_stops p)) (no_larger p) in omega arith
  no_larger (Generate s) = omega arith
  no_larger (Await c) = omega arith
  no_larger (When c p q) = omega (arith, no_larger p, no_larger q)
  no_larger (Until c p q) = omega (arith, no_larger p, no_larger q)
  no_larger (Control s p) = omega (arith, no_larger p)
  no_larger (Local s p) = omega (arith, no_larger p)
  no_larger (Freezable s p) = omega (arith, no_larger p)
  no_larger (If v p q) = omega (arith, no_larger p, no_larger q)
