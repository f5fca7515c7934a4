-- What the tests of a record say as facts: how it is laid out, and which of the four kinds a good configuration has.
use Prim.Native.Nat.{ℕ, zero, suc, ◌+◌, ◌≤◌, ◌<◌}
use mathlib.Core.Bool.{Bool, true, false, cond, ◌&&◌, false≢true}
use mathlib.Core.Path.{◌≡◌, refl}
use mathlib.Core.List.{List}
use native.Mathlib.Omega.{arith}
use lib.Dec.{eqb, ltb}
use borrow.Author.Tests.{eqb-true, ltb-true, leb-true}
use Rattle.table.specs.Records.{configurations, events, configuration_at, kind_byte, part_kind, part_event, part_size}
use Rattle.table.specs.Good.{is_laid_out, parts, good_but_height}

pub both : {a b : Bool} → (a && b) ≡ true → (a ≡ true) × (b ≡ true)
both {a = true} {b} e = (refl, e)
both {a = false} {b} e = absurd (false≢true e)

-- record i of n with that many children
pub data Laid (written : ℕ → ℕ) (n i : ℕ) : ℕ → Type 0 where
  none : written i ≡ 1 → Laid written n i 0
  one : i + 1 < n → written i ≡ 1 + written (i + 1) → Laid written n i 1
  two : {more : ℕ} → i + 1 < n → i + 1 + written (i + 1) < n
      → written i ≡ 1 + written (i + 1) + written (i + 1 + written (i + 1)) → Laid written n i (suc (suc more))

pub laid : (written : ℕ → ℕ) (n i children : ℕ) → is_laid_out written n i children ≡ true → Laid written n i children
unfolding is_laid_out
laid written n i zero e = none (eqb-true _ _ e)
laid written n i (suc zero) e = let h = both e in one (ltb-true _ _ h.0) (eqb-true _ _ h.1)
laid written n i (suc (suc more)) e =
    let h = both e in
    let k = both h.1 in
    two (ltb-true _ _ h.0) (ltb-true _ _ k.0) (eqb-true _ _ k.1)

-- so its children are records too
pub one_inside : {written : ℕ → ℕ} {n i : ℕ} → Laid written n i 1 → i + 1 < n
one_inside (one l s) = l

pub two_inside : {written : ℕ → ℕ} {n i : ℕ} → Laid written n i 2 → (i + 1 < n) × (i + 1 + written (i + 1) < n)
two_inside (two l m s) = (l, m)

-- the size written in configuration j
abbrev pub size_of : List ℕ → ℕ → ℕ
size_of t j = part_size t (configuration_at t j)

abbrev pub kind_of : List ℕ → ℕ → ℕ
kind_of t j = part_kind t (configuration_at t j)

pub data Kind : ℕ → Type 0 where
  event : Kind 0
  negation : Kind 1
  conjunction : Kind 2
  disjunction : Kind 3

pub kind_below : (k : ℕ) → k ≤ 3 → Kind k
kind_below zero h = event
kind_below (suc zero) h = negation
kind_below (suc (suc zero)) h = conjunction
kind_below (suc (suc (suc zero))) h = disjunction
kind_below (suc (suc (suc (suc k)))) h = absurd (omega arith)

-- configuration j, of kind k, is good but for its height
pub record Fine (t : List ℕ) (j k : ℕ) : Type 0 where
  pub kind : Kind k
  pub event_below : part_event t (configuration_at t j) < cond (eqb k 0) (events t) 1
  pub laid_out : Laid (size_of t) (configurations t) j (parts k)

pub fine : (t : List ℕ) (j k : ℕ) → kind_of t j ≡ k → good_but_height t j ≡ true → Fine t j k
unfolding good_but_height
fine t j k e g =
    let own = both {a = ltb (kind_byte t (configuration_at t j)) 64} g in
    let h = both own.1 in
    let i = both h.1 in
    rw (← e) (record { kind = kind_below _ (leb-true _ _ h.0); event_below = ltb-true _ _ i.0; laid_out = laid _ _ _ _ i.1 })
