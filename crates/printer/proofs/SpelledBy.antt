-- A program's spelling is what its own record tells and the rest: `spelled_by`; in short, the same and how it closes: `outlined_by`; and what
-- the codes of its kind tell of its argument.
use mathlib.Core.Bool.{Bool, true, false}
use mathlib.Core.Path.{◌≡◌, refl, ap, ◌∙◌}
use mathlib.Core.List.{List, [], ◌++◌, append_assoc}
use Prim.Native.Nat.{ℕ}
use Rattle.letters.specs.Text.{bytes}
use Rattle.junior.specs.Configuration.{Config}
use Rattle.junior.specs.Program.{Program, Nothing, Stop, Atom, Seq, Par, Loop, Repeat, Generate, Await, When, Until}
use Rattle.junior.specs.Program.{Control, Local, Freezable, If, Argument, no_argument, number, event, configuration, value, capped, argument as own, kind}
use Rattle.junior.specs.Values.{exactly, asked}
use Rattle.junior.specs.Program.{Leaf, One, Two, Parts, no_part, one_part, two_parts, parts}
use Rattle.junior.proofs.Parts.{parts_none, parts_one, parts_two}
use Rattle.form.specs.Spelling.{name, spell_argument, before, spell_parts, spell}
use Rattle.printer.specs.Outline.{outline_parts, outline}
use Rattle.printer.specs.Printing.{takes_test, takes_cap, takes_number, argument, link, head, rest_of, rest}

-- an argument, and whether a form that has it takes a test, a cap, and a number
pub data Takes : Argument → Bool → Bool → Bool → Type 0 where
  takes_none : Takes no_argument false false false
  by_number : {n : ℕ} → Takes (number n) false false true
  takes_event : {s : ℕ} → Takes (event s) false false true
  by_test : {c : Config} → Takes (configuration c) true false false
  takes_value : {v : ℕ} → Takes (value v) false false true
  cap_taken : {v n : ℕ} → Takes (capped v n) false true true

-- what stands behind the argument if parts follow
abbrev link_after : Argument → List ℕ
link_after no_argument = []
link_after (number n) = bytes ", "
link_after (event s) = bytes ", "
link_after (configuration c) = bytes ", "
link_after (value v) = bytes ", "
link_after (capped v n) = bytes ", "

abbrev between : {p : Program} → Parts p → List ℕ
between (no_part f) = []
between {p} (one_part f q) = link_after (own p)
between {p} (two_parts f q r) = link_after (own p)

-- the codes of each form's kind tell these
pub record CodesTell (p : Program) : Type 0 where
  pub takes : Takes (own p) (takes_test (kind p)) (takes_cap (kind p)) (takes_number (kind p))
  pub link_is : link (kind p) ≡ between (parts p)

pub codes_tell : (p : Program) → CodesTell p
unfolding kind takes_test takes_cap takes_number link
codes_tell Nothing = record { takes = takes_none; link_is = refl }
codes_tell Stop = record { takes = takes_none; link_is = refl }
codes_tell (Atom a) = record { takes = by_number; link_is = refl }
codes_tell (Seq p q) = record { takes = takes_none; link_is = refl }
codes_tell (Par p q) = record { takes = takes_none; link_is = refl }
codes_tell (Loop p) = record { takes = takes_none; link_is = refl }
codes_tell (Repeat (exactly n) p) = record { takes = by_number; link_is = refl }
codes_tell (Repeat (asked v n) p) = record { takes = cap_taken; link_is = refl }
codes_tell (Generate s) = record { takes = takes_event; link_is = refl }
codes_tell (Await c) = record { takes = by_test; link_is = refl }
codes_tell (When c p q) = record { takes = by_test; link_is = refl }
codes_tell (Until c p q) = record { takes = by_test; link_is = refl }
codes_tell (Control s p) = record { takes = takes_event; link_is = refl }
codes_tell (Local s p) = record { takes = takes_event; link_is = refl }
codes_tell (Freezable s p) = record { takes = takes_event; link_is = refl }
codes_tell (If v p q) = record { takes = takes_value; link_is = refl }

before_is : (a : Argument) (w : List ℕ) → before a w ≡ spell_argument a ++ (link_after a ++ w)
before_is no_argument w = refl
before_is (number n) w = refl
before_is (event s) w = refl
before_is (configuration c) w = refl
before_is (value v) w = refl
before_is (capped v n) w = simp append_assoc

-- what is before the rest w, in one
regroup : (o a l w : List ℕ) → o ++ (a ++ (l ++ w)) ≡ (o ++ (a ++ l)) ++ w
regroup o a l w = simp append_assoc

with_argument : (p : Program) (w : List ℕ)
    → name p ++ before (own p) w ≡ (name p ++ (spell_argument (own p) ++ link_after (own p))) ++ w
with_argument p w =
    ap (λ (x : List ℕ). name p ++ x) (before_is (own p) w) ∙ regroup (name p) (spell_argument (own p)) (link_after (own p)) w

by_parts : {p : Program} (v : Parts p) → spell_parts v ≡ (name p ++ (spell_argument (own p) ++ between v)) ++ rest_of v
by_parts {p} (no_part f) = regroup (name p) (spell_argument (own p)) [] (bytes ")")
by_parts {p} (one_part f q) = with_argument p (rest_of (one_part f q))
by_parts {p} (two_parts f q r) = with_argument p (rest_of (two_parts f q r))

pub spelled_by : (p : Program) → spell p ≡ head p ++ rest p
unfolding spell argument rest
spelled_by p = rw (codes_tell p).link_is (by_parts (parts p))

-- the rest of a form of no part, one or two
pub rest_none : {p : Program} → Leaf p → rest p ≡ bytes ")"
unfolding rest
rest_none f = ap rest_of (parts_none f)

pub rest_one : {p q : Program} → One p q → rest p ≡ spell q ++ bytes ")"
unfolding rest spell
rest_one f = ap rest_of (parts_one f)

pub rest_two : {p q r : Program} → Two p q r → rest p ≡ spell q ++ (bytes ", " ++ (spell r ++ bytes ")"))
unfolding rest spell
rest_two f = ap rest_of (parts_two f)

-- how a program in short closes
abbrev closing_of : {p : Program} → Parts p → List ℕ
closing_of (no_part f) = bytes ")"
closing_of (one_part f q) = bytes "..)"
closing_of (two_parts f q r) = bytes "..)"

unfoldable pub closing : Program → List ℕ
closing p = closing_of (parts p)

short_by_parts : {p : Program} (v : Parts p)
    → outline_parts v ≡ (name p ++ (spell_argument (own p) ++ between v)) ++ closing_of v
short_by_parts {p} (no_part f) = regroup (name p) (spell_argument (own p)) [] (bytes ")")
short_by_parts {p} (one_part f q) = with_argument p (bytes "..)")
short_by_parts {p} (two_parts f q r) = with_argument p (bytes "..)")

pub outlined_by : (p : Program) → outline p ≡ head p ++ closing p
unfolding outline argument closing
outlined_by p = rw (codes_tell p).link_is (short_by_parts (parts p))

pub closing_none : {p : Program} → Leaf p → closing p ≡ bytes ")"
unfolding closing
closing_none f = ap closing_of (parts_none f)

pub closing_one : {p q : Program} → One p q → closing p ≡ bytes "..)"
unfolding closing
closing_one f = ap closing_of (parts_one f)

pub closing_two : {p q r : Program} → Two p q r → closing p ≡ bytes "..)"
unfolding closing
closing_two f = ap closing_of (parts_two f)
