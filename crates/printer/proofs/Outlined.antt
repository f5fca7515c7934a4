-- Printing a program in short by its node: that the texts fit, that they are few bytes, and the whole text.
use Prim.Native.Nat.{ℕ, ◌≤◌}
use mathlib.Core.Path.{◌≡◌, refl}
use mathlib.Core.List.{List, ◌++◌}
use native.Mathlib.Omega.{arith}
use lib.ListN.{length, length-append}
use Rattle.letters.specs.Text.{bytes}
use Rattle.letters.specs.Rooms.{Puts}
use Rattle.letters.proofs.Puts.{puts_then}
use Rattle.junior.specs.Program.{Program}
use Rattle.table.specs.Records.{kind_at}
use Rattle.table.specs.Good.{children}
use Rattle.table.specs.Inside.{Placed}
use Rattle.table.proofs.Tree.{Tree, leaf, one, two, tree}
use Rattle.printer.specs.Outline.{outline}
use Rattle.printer.specs.Printing.{Fits, head, Printable, Shows}
use Rattle.printer.proofs.SpelledBy.{closing, outlined_by, closing_none, closing_one, closing_two}
use Rattle.printer.proofs.FitsInParts.{fits_first, fits_on}
use Rattle.printer.proofs.NodesIn.{tree_at_lem}
use Rattle.printer.proofs.ShortTexts.{head_few}

-- how it closes, by how many parts its record says there are
none_closing : {t : List ℕ} {i : ℕ} {p : Program} → Tree t i 0 p → closing p ≡ bytes ")"
none_closing (leaf h f) = closing_none f

some_closing : {t : List ℕ} {i n : ℕ} {p : Program} → (n ≡ 0 → ⊥) → Tree t i n p → closing p ≡ bytes "..)"
some_closing a (leaf h f) = absurd (a refl)
some_closing a (one h f x) = closing_one f
some_closing a (two h f x y) = closing_two f

closing_few : {t : List ℕ} {i n : ℕ} {p : Program} → Tree t i n p → length (closing p) ≤ 3
closing_few (leaf h f) = rw (closing_none f) (omega arith)
closing_few (one h f x) = rw (closing_one f) (omega arith)
closing_few (two h f x y) = rw (closing_two f) (omega arith)

pub outline_few : {t : List ℕ} {i : ℕ} {p : Program} → Placed t i p → length (outline p) ≤ 14363
outline_few {t} {i} {p} h =
    rw (outlined_by p, length-append (head p) (closing p)) (omega (arith, head_few h, closing_few (tree t i p h.spelled)))

module _ {t : List ℕ} {i at : ℕ} (h : Printable outline t i at) where
  abbrev p : Program
  p = h.program

  whole : Fits at (head p ++ closing p)
  whole = rw (outlined_by p) at h.fits

  pub own_part_fits : Printable head t i at
  own_part_fits = record { program = p; placed = h.placed; fits = fits_first (head p) (closing p) whole }

  module _ {a b : List ℕ} {x : ℕ} (u : Shows head t i a b at x) where
    closing_fits : Fits x (closing p)
    closing_fits = fits_on (head p) (closing p) whole (u.puts p h.placed.spelled)

    pub bracket_fits : children (kind_at t i) ≡ 0 → Fits x (bytes ")")
    bracket_fits e = rw (none_closing (tree_at_lem h.placed.spelled e)) at closing_fits

    pub dots_fit : (children (kind_at t i) ≡ 0 → ⊥) → Fits x (bytes "..)")
    dots_fit n = rw (some_closing n (tree_at_lem h.placed.spelled refl)) at closing_fits

module _ {t : List ℕ} {i : ℕ} {a b c : List ℕ} {at x r : ℕ} (u : Shows head t i a b at x) where
  pub puts_bracket : children (kind_at t i) ≡ 0 → Puts b c x (bytes ")") r → Shows outline t i a c at r
  puts_bracket e v =
      record { puts = λ p h. rw (outlined_by p, none_closing (tree_at_lem h e)) (puts_then (u.puts p h) v) }

  pub puts_dots : (children (kind_at t i) ≡ 0 → ⊥) → Puts b c x (bytes "..)") r → Shows outline t i a c at r
  puts_dots n v =
      record { puts = λ p h. rw (outlined_by p, some_closing n (tree_at_lem h refl)) (puts_then (u.puts p h) v) }
