-- What the functions that print promise one another; the public call is crate text's.
use Rattle.std.specs.Prelude.{ℕ, ◌+◌, ◌*◌, ◌≤◌, ◌<◌, Bool, cond, ◌&&◌, List, [], ◌++◌, length, eqb, leb}
use Rattle.letters.specs.Rooms.{Puts}
use Rattle.letters.specs.Decimal.{decimal}
use Rattle.letters.specs.Text.{bytes}
use Rattle.junior.specs.Configuration.{Config}
use Rattle.junior.specs.Program.{Program, argument as own, kind, Parts, no_part, one_part, two_parts, parts}
use Rattle.table.specs.Spells.{Spells, Configured, weight, value_in, cap_in}
use Rattle.table.specs.Inside.{Placed}
use Rattle.form.specs.Names.{opening}
use Rattle.form.specs.Spelling.{spell_test, spell_argument, spell_parts}
use Rattle.form.specs.Inside.Rows.{inside}

-- the place behind the text w at `at` is a number of 64 bits
pub record Fits (at : ℕ) (w : List ℕ) : Type 0 where
  pub below : at + length w < 18446744073709551616

-- A program's spelling in two, what its own record tells and the rest; the law `spelled_by` says that these are all. The record tells the
-- name of its form with the bracket, its argument, and the comma behind the argument if parts follow. The codes in the brackets of a kind
-- tell whether its argument is a configuration, a value's number with a cap, or is written as it is.
unfoldable pub takes_test : ℕ → Bool
unfolding inside
takes_test k = eqb (inside k 0) 134

unfoldable pub takes_number : ℕ → Bool
unfolding inside
takes_number k = leb 138 (inside k 0)

unfoldable pub takes_cap : ℕ → Bool
unfolding inside
takes_cap k = eqb (inside k 3) 141

-- a RepeatExt's argument
abbrev pub capped_text : ℕ → List ℕ
capped_text a = decimal (value_in a) ++ (bytes ", " ++ decimal (cap_in a))

unfoldable pub argument : Program → List ℕ
argument p = spell_argument (own p)

-- between the argument and a part, by the first two codes
unfoldable pub linked : ℕ → ℕ → List ℕ
linked code behind = cond (leb 134 code && eqb behind 44) (bytes ", ") []

unfoldable pub link : ℕ → List ℕ
unfolding inside linked
link k = linked (inside k 0) (inside k 1)

abbrev pub head : Program → List ℕ
head p = opening (kind p) ++ (argument p ++ link (kind p))

abbrev pub rest_of : {p : Program} → Parts p → List ℕ
rest_of (no_part f) = bytes ")"
rest_of (one_part f q) = spell_parts q ++ bytes ")"
rest_of (two_parts f q r) = spell_parts q ++ (bytes ", " ++ (spell_parts r ++ bytes ")"))

unfoldable pub rest : Program → List ℕ
rest p = rest_of (parts p)

-- the word of a configuration of two parts, by its kind
unfoldable pub joint : ℕ → List ℕ
joint k = cond (eqb k 2) (bytes " and ") (bytes " or ")

-- some program stands at node i, and what is written of it fits
pub record Printable (text : Program → List ℕ) (t : List ℕ) (i at : ℕ) : Type 0 where
  pub program : Program
  pub placed : Placed t i program
  pub fits : Fits at (text program)

-- whatever program stands at node i, what is written of it was put
pub record Shows (text : Program → List ℕ) (t : List ℕ) (i : ℕ) (old new : List ℕ) (at r : ℕ) : Type 0 where
  pub puts : (p : Program) → Spells t i p → Puts old new at (text p) r

-- some configuration stands at byte c, and its text fits
pub record Testable (t : List ℕ) (c at : ℕ) : Type 0 where
  pub test : Config
  pub there : Configured t c test
  pub inside : c + 4 * weight test ≤ length t
  pub fits : Fits at (spell_test test)

-- whatever configuration stands at byte c was put
pub record ShowsTest (t : List ℕ) (c : ℕ) (old new : List ℕ) (at r : ℕ) : Type 0 where
  pub puts : (d : Config) → Configured t c d → Puts old new at (spell_test d) r
