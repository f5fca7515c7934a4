-- Printing a program by its node and its parts: where they stand, that they are smaller, that their texts fit, and the whole text.
use Prim.Native.Nat.{ℕ, ◌+◌, ◌*◌, ◌≤◌, ◌<◌}
use mathlib.Core.Path.{◌≡◌, refl, subst}
use mathlib.Core.List.{List, ◌++◌}
use native.Mathlib.Omega.{arith}
use lib.ListN.{length}
use Rattle.letters.specs.Text.{bytes}
use Rattle.junior.specs.Program.{Program, size}
use Rattle.table.specs.Records.{nodes, kind_at, size_at, second_child}
use Rattle.table.specs.Good.{children}
use Rattle.table.specs.Spells.{Spells}
use Rattle.table.specs.Inside.{Placed}
use Rattle.table.proofs.Parts.{of_one, of_two}
use Rattle.table.proofs.Tree.{Tree, leaf, one, two, tree, spelled, written, size_pos}
use Rattle.form.specs.Spelling.{spell}
use Rattle.letters.specs.Rooms.{Puts}
use Rattle.printer.specs.Printing.{Fits, head, rest, Printable, Shows}
use Rattle.printer.proofs.SpelledBy.{spelled_by, rest_none, rest_one, rest_two}
use Rattle.letters.proofs.Puts.{puts_then}
use Rattle.printer.proofs.FitsInParts.{fits_first, fits_on}

-- what stands at a node, by how many parts its record says there are
pub tree_at_lem : {t : List ℕ} {i n : ℕ} {p : Program} → Spells t i p → children (kind_at t i) ≡ n → Tree t i n p
tree_at_lem {t} {i} {p = p} h e = subst (λ (m : ℕ). Tree t i m p) e (tree t i p h)

-- no part; some, the first of which comes first; one; two
leaf_rest : {t : List ℕ} {i : ℕ} {p : Program} → Tree t i 0 p → rest p ≡ bytes ")"
leaf_rest (leaf h f) = rest_none f

record SomeParts (t : List ℕ) (i : ℕ) (p : Program) : Type 0 where
  first : Program
  more : List ℕ
  there : Spells t (i + 1) first
  less : size first < size p
  rest_is : rest p ≡ spell first ++ more

record OnePart (t : List ℕ) (i : ℕ) (p : Program) : Type 0 where
  only : Program
  there : Spells t (i + 1) only
  rest_is : rest p ≡ spell only ++ bytes ")"

record TwoParts (t : List ℕ) (i : ℕ) (p : Program) : Type 0 where
  first : Program
  second : Program
  there : Spells t (i + 1) first
  behind : Spells t (second_child t i) second
  sizes : size p ≡ 1 + size first + size second
  rest_is : rest p ≡ spell first ++ (bytes ", " ++ (spell second ++ bytes ")"))

some_parts : {t : List ℕ} {i n : ℕ} {p : Program} → (n ≡ 0 → ⊥) → Tree t i n p → SomeParts t i p
some_parts a (leaf h f) = absurd (a refl)
some_parts a (one {q = q} h f x) =
    record { first = q; more = bytes ")"; there = spelled x; less = omega (arith, (of_one f).size_is); rest_is = rest_one f }
some_parts a (two {q = q} {r = r} h f x y) =
    record {
      first = q;
      more = bytes ", " ++ (spell r ++ bytes ")");
      there = spelled x;
      less = omega (arith, (of_two f).size_is);
      rest_is = rest_two f;
    }

one_part : {t : List ℕ} {i : ℕ} {p : Program} → Tree t i 1 p → OnePart t i p
one_part (one {q = q} h f x) = record { only = q; there = spelled x; rest_is = rest_one f }

two_parts : {t : List ℕ} {i n : ℕ} {p : Program} → (n ≡ 0 → ⊥) → (n ≡ 1 → ⊥) → Tree t i n p → TwoParts t i p
two_parts a b (leaf h f) = absurd (a refl)
two_parts a b (one h f x) = absurd (b refl)
two_parts a b (two {q = q} {r = r} h f x y) =
    record { first = q; second = r; there = spelled x; behind = spelled y; sizes = (of_two f).size_is; rest_is = rest_two f }

-- the texts of the node and of its parts fit
module _ {t : List ℕ} {i at : ℕ} (h : Printable spell t i at) where
  abbrev p : Program
  p = h.program

  whole : Fits at (head p ++ rest p)
  whole = rw (spelled_by p) at h.fits

  here : Tree t i (children (kind_at t i)) p
  here = tree t i p h.placed.spelled

  pub head_fits : Printable head t i at
  head_fits = record { program = p; placed = h.placed; fits = fits_first (head p) (rest p) whole }

  pub first_less : (children (kind_at t i) ≡ 0 → ⊥) → size_at t (i + 1) < size_at t i
  first_less n = let s = some_parts n here in omega (arith, s.less, written t (i + 1) s.first s.there, written t i p h.placed.spelled)

  module _ {a b : List ℕ} {x : ℕ} (u : Shows head t i a b at x) where
    rest_fits : Fits x (rest p)
    rest_fits = fits_on (head p) (rest p) whole (u.puts p h.placed.spelled)

    pub none_closes : children (kind_at t i) ≡ 0 → Fits x (bytes ")")
    none_closes e = rw (leaf_rest (tree_at_lem h.placed.spelled e)) at rest_fits

    pub first_part : (children (kind_at t i) ≡ 0 → ⊥) → Printable spell t (i + 1) x
    first_part n =
        let s = some_parts n here in
        let f : Fits x (spell s.first ++ s.more) = rw s.rest_is at rest_fits in
        let d : Placed t (i + 1) s.first = record { loaded = h.placed.loaded; spelled = s.there; inside = omega (arith, h.placed.inside, s.less) } in
        record { program = s.first; placed = d; fits = fits_first (spell s.first) s.more f }

    pub one_closes : children (kind_at t i) ≡ 1 → {c : List ℕ} {y : ℕ} → Shows spell t (i + 1) b c x y → Fits y (bytes ")")
    one_closes e v =
        let o = one_part (tree_at_lem h.placed.spelled e) in
        let f : Fits x (spell o.only ++ bytes ")") = rw o.rest_is at rest_fits in
        fits_on (spell o.only) (bytes ")") f (v.puts o.only o.there)

  module _ (n : children (kind_at t i) ≡ 0 → ⊥) (n' : children (kind_at t i) ≡ 1 → ⊥) where
    o : TwoParts t i p
    o = two_parts n n' here

    pub second_inside : 6 * i + 11 < length t
    second_inside =
        omega (arith, o.sizes, size_pos o.first, h.placed.inside, h.placed.loaded.framed.long)

    pub second_less : size_at t (second_child t i) < size_at t i
    second_less = omega (arith, o.sizes, written t (second_child t i) o.second o.behind, written t i p h.placed.spelled)

    abbrev second_text : List ℕ
    second_text = spell o.second ++ bytes ")"

    module _ {a b c : List ℕ} {x y : ℕ} (u : Shows head t i a b at x) (v : Shows spell t (i + 1) b c x y) where
      between : Fits y (bytes ", " ++ second_text)
      between =
          let f : Fits x (spell o.first ++ (bytes ", " ++ second_text)) = rw o.rest_is at (rest_fits u) in
          fits_on (spell o.first) (bytes ", " ++ second_text) f (v.puts o.first o.there)

      pub comma_fits : Fits y (bytes ", ")
      comma_fits = fits_first (bytes ", ") second_text between

      module _ {d : List ℕ} {z : ℕ} (w : Puts c d y (bytes ", ") z) where
        second_fits : Fits z second_text
        second_fits = fits_on (bytes ", ") second_text between w

        pub second_part_lem : Printable spell t (second_child t i) z
        second_part_lem =
            let l : second_child t i + size o.second ≤ nodes t = omega (arith, h.placed.inside, o.sizes, written t (i + 1) o.first o.there) in
            record {
              program = o.second;
              placed = record { loaded = h.placed.loaded; spelled = o.behind; inside = l };
              fits = fits_first (spell o.second) (bytes ")") second_fits;
            }

        pub two_closes : {e : List ℕ} {m : ℕ} → Shows spell t (second_child t i) d e z m → Fits m (bytes ")")
        two_closes k = fits_on (spell o.second) (bytes ")") second_fits (k.puts o.second o.behind)

-- so the whole text is put
module _ {t : List ℕ} {i : ℕ} {a b : List ℕ} {at x : ℕ} (u : Shows head t i a b at x) where
  pub puts_leaf : children (kind_at t i) ≡ 0 → {c : List ℕ} {r : ℕ} → Puts b c x (bytes ")") r → Shows spell t i a c at r
  puts_leaf e v =
      record { puts = λ p h. rw (spelled_by p, leaf_rest (tree_at_lem h e)) (puts_then (u.puts p h) v) }

  pub puts_one : children (kind_at t i) ≡ 1 → {c d : List ℕ} {y r : ℕ} → Shows spell t (i + 1) b c x y
      → Puts c d y (bytes ")") r → Shows spell t i a d at r
  puts_one e v w =
      record {
        puts = λ p h.
            let o = one_part (tree_at_lem h e) in
            rw (spelled_by p, o.rest_is) (puts_then (u.puts p h) (puts_then (v.puts o.only o.there) w));
      }

  pub puts_two : (children (kind_at t i) ≡ 0 → ⊥) → (children (kind_at t i) ≡ 1 → ⊥) → {c d e f : List ℕ} {y z m r : ℕ}
      → Shows spell t (i + 1) b c x y → Puts c d y (bytes ", ") z → Shows spell t (second_child t i) d e z m
      → Puts e f m (bytes ")") r → Shows spell t i a f at r
  puts_two n n' v w k l =
      record {
        puts = λ p h.
            let o = two_parts n n' (tree_at_lem h refl) in
            rw (spelled_by p, o.rest_is)
            (puts_then (u.puts p h) (puts_then (v.puts o.first o.there) (puts_then w (puts_then (k.puts o.second o.behind) l))));
      }
