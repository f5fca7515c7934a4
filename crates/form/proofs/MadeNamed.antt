-- V is at least 1, and at most the number of places for a program in form.
use Prim.Native.Nat.{ℕ, suc, ◌≤◌, max}
use mathlib.Core.Bool.{Bool, true, false, cond}
use mathlib.Core.Path.{◌≡◌, refl}
use native.Mathlib.Omega.{arith}
use lib.Dec.{leb}
use borrow.Author.Tests.{leb-true, leb-false}
use Rattle.events.specs.Members.{places}
use Rattle.junior.specs.Configuration.{Config, Event, Not, And, Or}
use Rattle.junior.specs.Program.{Program, Argument, no_argument, number, event, configuration, value, capped, argument}
use Rattle.junior.specs.Program.{Parts, no_part, one_part, two_parts, parts}
use Rattle.form.specs.Made.{larger, named_in, named_with, named_parts, named}
use Rattle.form.specs.InForm.{TestInForm, ArgumentInForm, PartsInForm, InForm}

pub larger_max : (m n : ℕ) → larger m n ≡ max m n
larger_max m n = go (leb m n) refl
  where
    go : (b : Bool) → leb m n ≡ b → cond b n m ≡ max m n
    go true e = omega (arith, leb-true m n e)
    go false e = omega (arith, leb-false m n e)

-- the first and the second of two names are at most what the larger is at most
pub larger_first : (m n v : ℕ) → larger m n ≤ v → m ≤ v
larger_first m n v h = omega (arith, larger_max m n)

pub larger_second : (m n v : ℕ) → larger m n ≤ v → n ≤ v
larger_second m n v h = omega (arith, larger_max m n)

-- and so are the parts' names, of an argument and the parts together
pub named_rest : (a : Argument) (m v : ℕ) → named_with a m ≤ v → m ≤ v
named_rest no_argument m v h = h
named_rest (number n) m v h = h
named_rest (event s) m v h = larger_second (suc s) m v h
named_rest (configuration c) m v h = larger_second (named_in c) m v h
named_rest (value n) m v h = h
named_rest (capped n cap) m v h = h

with_least : (a : Argument) (v : ℕ) → 1 ≤ v → 1 ≤ named_with a v
with_least no_argument v h = h
with_least (number n) v h = h
with_least (event s) v h = omega (arith, larger_max (suc s) v)
with_least (configuration c) v h = omega (arith, larger_max (named_in c) v)
with_least (value n) v h = h
with_least (capped n cap) v h = h

least : {p : Program} (v : Parts p) → 1 ≤ named_parts v
least {p} (no_part f) = with_least (argument p) 1 (omega arith)
least {p} (one_part f q) = with_least (argument p) (named_parts q) (least q)
least {p} (two_parts f q r) =
    with_least (argument p) (larger (named_parts q) (named_parts r)) (omega (arith, larger_max (named_parts q) (named_parts r), least q))

pub named_least : (p : Program) → 1 ≤ named p
unfolding named
named_least p = least (parts p)

-- the larger of two is at most what both are
at_most : (k m n : ℕ) → m ≤ k → n ≤ k → larger m n ≤ k
at_most k m n h g = omega (arith, larger_max m n)

named_in_most : (c : Config) → TestInForm c → named_in c ≤ places
unfolding named_in
named_in_most (Event s) h = h
named_in_most (Not c) h = named_in_most c h
named_in_most (And c d) (h, g) = at_most places _ _ (named_in_most c h) (named_in_most d g)
named_in_most (Or c d) (h, g) = at_most places _ _ (named_in_most c h) (named_in_most d g)

with_most : (a : Argument) (v : ℕ) → ArgumentInForm a → v ≤ places → named_with a v ≤ places
with_most no_argument v h l = l
with_most (number n) v h l = l
with_most (event s) v h l = at_most places _ _ h l
with_most (configuration c) v h l = at_most places _ _ (named_in_most c h) l
with_most (value n) v h l = l
with_most (capped n cap) v h l = l

most : {p : Program} (v : Parts p) → PartsInForm v → named_parts v ≤ places
most {p} (no_part f) h = with_most (argument p) 1 h (omega arith)
most {p} (one_part f q) (h, x) = with_most (argument p) (named_parts q) h (most q x)
most {p} (two_parts f q r) (h, x, y) =
    with_most (argument p) (larger (named_parts q) (named_parts r)) h (at_most places _ _ (most q x) (most r y))

pub named_most : (p : Program) → InForm p → named p ≤ places
unfolding named
named_most p h = most (parts p) h
