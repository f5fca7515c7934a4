-- Printing a node's own record: its argument by what its kind takes, and the head of its text.
use Prim.Native.Nat.{ℕ, ◌+◌, ◌≤◌, ◌<◌}
use mathlib.Core.Bool.{Bool, true, false}
use mathlib.Core.Path.{◌≡◌, refl, sym, ap, subst, subst₂, ◌∙◌}
use mathlib.Core.List.{List, [], ◌++◌}
use native.Mathlib.Omega.{arith}
use lib.Dec.{leb}
use lib.ListN.{length}
use borrow.Author.Tests.{leb-true, eq-eqb, ne_eqb, le-leb, lt-leb}
use Rattle.letters.specs.Decimal.{decimal}
use Rattle.junior.specs.Configuration.{Config}
use Rattle.junior.specs.Program.{Program, Argument, number, event, configuration, value, capped, kind}
use Rattle.junior.specs.Program.{no_argument as argues_nothing, argument as own}
use Rattle.table.specs.Records.{configurations, kind_at, argument_at}
use Rattle.table.specs.Good.{argument_limit}
use Rattle.table.specs.Spells.{Argues, Spells, Configured, tested}
use Rattle.table.specs.Inside.{Placed}
use Rattle.table.proofs.Parts.{limit_of, by_kind}
use Rattle.table.proofs.Tree.{kind_is, argued as argues}
use Rattle.table.proofs.TestParts.{Test, ends_inside}
use Rattle.table.proofs.Loaded.{fine_at}
use Rattle.form.specs.Spelling.{spell_argument, spell_test}
use Rattle.form.specs.Names.{opening}
use Rattle.form.specs.Inside.Rows.{code_at, form_row, form_count, name_end, inside}
use Rattle.form.proofs.Rows.{code_first, code_behind}
use Rattle.form.proofs.ComputedTests.{all, all_at}
use Rattle.letters.specs.Rooms.{Puts}
use Rattle.printer.specs.Printing.{Fits, linked, link, takes_test, takes_cap, takes_number, capped_text, argument, head}
use Rattle.printer.specs.Printing.{Printable, Shows, Testable, ShowsTest}
use Rattle.letters.proofs.Puts.{puts_none, puts_then}
use Rattle.printer.proofs.SpelledBy.{Takes, takes_none, by_number, takes_event, by_test, takes_value, cap_taken, codes_tell}
use Rattle.printer.proofs.FitsInParts.{fits_first, fits_on}

-- what a kind takes, and how its argument is written
pub data Argued (t : List ℕ) (i : ℕ) (p : Program) : Bool → Bool → Bool → Type 0 where
  no_argument : argument p ≡ [] → Argued t i p false false false
  a_number : argument p ≡ decimal (argument_at t i) → Argued t i p false false true
  a_cap : argument p ≡ capped_text (argument_at t i) → Argued t i p false true true
  a_test :
      (d : Config)
      → Configured t (tested t i) d
      → argument_limit t (kind p) ≡ configurations t
      → argument p ≡ spell_test d
      → Argued t i p true false false

-- the argument that the record holds, by what its kind takes
argued_so : (t : List ℕ) (i : ℕ) (p : Program) (a : Argument) {x y z : Bool} → own p ≡ a → Takes a x y z → Argues t i a
    → argument_limit t (kind p) ≡ limit_of t a → Argued t i p x y z
unfolding argument
argued_so t i p argues_nothing e takes_none h l = no_argument (ap spell_argument e)
argued_so t i p (number n) e by_number h l = a_number (ap spell_argument e ∙ ap decimal (sym h))
argued_so t i p (event s) e takes_event h l = a_number (ap spell_argument e ∙ ap decimal (sym h))
argued_so t i p (configuration c) e by_test h l = a_test c h l (ap spell_argument e)
argued_so t i p (value v) e takes_value h l = a_number (ap spell_argument e ∙ ap decimal (sym h))
argued_so t i p (capped v n) e cap_taken (h, g) l = a_cap (ap spell_argument e ∙ rw (h, g) refl)

pub argued : (t : List ℕ) (i : ℕ) (p : Program) → Spells t i p
    → Argued t i p (takes_test (kind p)) (takes_cap (kind p)) (takes_number (kind p))
argued t i p h = argued_so t i p (own p) refl (codes_tell p).takes (argues t i p h) ((by_kind p).limit_is t)

pub argued_at : {t : List ℕ} {i : ℕ} {p : Program} {a b c : Bool} → Spells t i p → takes_test (kind_at t i) ≡ a
    → takes_cap (kind_at t i) ≡ b → takes_number (kind_at t i) ≡ c → Argued t i p a b c
argued_at {t} {i} {p} {a} {b} h e f g =
    let k = sym (kind_is t i p h) in
    let x = subst₂ (λ y z. Argued t i p y z (takes_number (kind p))) (ap takes_test k ∙ e) (ap takes_cap k ∙ f) (argued t i p h) in
    subst (Argued t i p a b) (ap takes_number k ∙ g) x

-- a test stands within the table, and its text fits
record Tested (t : List ℕ) (i : ℕ) (p : Program) : Type 0 where
  test : Config
  there : Configured t (tested t i) test
  limit : argument_limit t (kind p) ≡ configurations t
  text_is : argument p ≡ spell_test test

test_of : {t : List ℕ} {i : ℕ} {p : Program} {b c : Bool} → Argued t i p true b c → Tested t i p
test_of (a_test d c e f) = record { test = d; there = c; limit = e; text_is = f }

cap_of : {t : List ℕ} {i : ℕ} {p : Program} {c : Bool} → Argued t i p false true c → argument p ≡ capped_text (argument_at t i)
cap_of (a_cap e) = e

number_of : {t : List ℕ} {i : ℕ} {p : Program} → Argued t i p false false true → argument p ≡ decimal (argument_at t i)
number_of (a_number e) = e

none_of : {t : List ℕ} {i : ℕ} {p : Program} → Argued t i p false false false → argument p ≡ []
none_of (no_argument e) = e

-- what the first code in the brackets tells
module _ {x : ℕ} (k : ℕ) (e : x ≡ inside k 0) where
  pub is_test_lem : x ≡ 134 → takes_test k ≡ true
  unfolding takes_test
  is_test_lem h = eq-eqb (inside k 0) 134 (sym e ∙ h)

  pub is_no_test : (x ≡ 134 → ⊥) → takes_test k ≡ false
  unfolding takes_test
  is_no_test h = ne_eqb (inside k 0) 134 (λ z. h (e ∙ z))

  pub is_number : 138 ≤ x → takes_number k ≡ true
  unfolding takes_number
  is_number h = le-leb 138 (inside k 0) (omega arith)

  pub is_no_number : x < 138 → takes_number k ≡ false
  unfolding takes_number
  is_no_number h = lt-leb 138 (inside k 0) (omega arith)

-- and the one behind a number and a comma
module _ {x : ℕ} (k : ℕ) (e : x ≡ inside k 3) where
  pub is_cap : x ≡ 141 → takes_cap k ≡ true
  unfolding takes_cap
  is_cap h = eq-eqb (inside k 3) 141 (sym e ∙ h)

  pub is_no_cap : (x ≡ 141 → ⊥) → takes_cap k ≡ false
  unfolding takes_cap
  is_no_cap h = ne_eqb (inside k 3) 141 (λ z. h (e ∙ z))

-- the first two codes in the brackets tell the link
pub link_is : (k : ℕ) {n : ℕ} → n ≡ name_end (form_row k) → linked (code_at n) (code_at (n + 1)) ≡ link k
unfolding link
link_is k is = rw (code_first k is, code_behind k is 1)

-- the test that a node has
pub test_at : {t : List ℕ} {i : ℕ} {p : Program} → Placed t i p → argument_limit t (kind p) ≡ configurations t → (d : Config)
    → Configured t (tested t i) d → Test t (argument_at t i) d
test_at h e d c = record { among = omega (arith, (fine_at h).argument_below); there = c }

module _ {t : List ℕ} {i : ℕ} where
  module _ (e : takes_test (kind_at t i) ≡ true) where
    pub test_part : {at : ℕ} → Printable argument t i at → Testable t (tested t i) at
    test_part h =
        let x = test_of (argued_at h.placed.spelled e refl refl) in
        let y = ends_inside h.placed.loaded.configurations_good x.test (test_at h.placed x.limit x.test x.there) in
        record {
          test = x.test;
          there = x.there;
          inside = omega (arith, y, h.placed.loaded.framed.long);
          fits = rw x.text_is at h.fits;
        }

    pub puts_test : {a b : List ℕ} {at r : ℕ} → ShowsTest t (tested t i) a b at r → Shows argument t i a b at r
    puts_test q =
        record {
          puts = λ p h.
              let x = test_of (argued_at h e refl refl) in
              rw x.text_is (q.puts x.test x.there);
        }

  module _ (e : takes_test (kind_at t i) ≡ false) (o : takes_cap (kind_at t i) ≡ true) where
    pub cap_fits : {at n : ℕ} → n ≡ argument_at t i → Printable argument t i at → Fits at (capped_text n)
    cap_fits s h = rw s (rw (cap_of (argued_at h.placed.spelled e o refl)) at h.fits)

    pub puts_cap : {a b : List ℕ} {at r n : ℕ} → n ≡ argument_at t i → Puts a b at (capped_text n) r → Shows argument t i a b at r
    puts_cap s q = record { puts = λ p h. rw (cap_of (argued_at h e o refl), ← s) q }

  module _ (e : takes_test (kind_at t i) ≡ false) (o : takes_cap (kind_at t i) ≡ false) where
    pub number_fits : takes_number (kind_at t i) ≡ true → {at n : ℕ} → n ≡ argument_at t i → Printable argument t i at → Fits at (decimal n)
    number_fits f s h = rw s (rw (number_of (argued_at h.placed.spelled e o f)) at h.fits)

    pub puts_number : takes_number (kind_at t i) ≡ true → {a b : List ℕ} {at r n : ℕ} → n ≡ argument_at t i
        → Puts a b at (decimal n) r → Shows argument t i a b at r
    puts_number f s q = record { puts = λ p h. rw (number_of (argued_at h e o f), ← s) q }

    pub puts_no_argument : takes_number (kind_at t i) ≡ false → {a : List ℕ} {at : ℕ} → Shows argument t i a a at at
    puts_no_argument f {a} {at} = record { puts = λ p h. rw (none_of (argued_at h e o f)) (puts_none a at) }

-- the name of a kind is short
unfoldable brief : ℕ → Bool
brief k = leb (length (opening k)) 13

form_known : (p : Program) → kind p < form_count
form_known p = let l = leb-true (kind p) 15 (by_kind p).known_kind in omega arith

pub name_short : (p : Program) → length (opening (kind p)) ≤ 13
unfolding all brief opening
name_short p = leb-true _ 13 (all_at form_count brief refl (kind p) (form_known p))

-- the name, the argument, and what links it to a part; node i has form f
module _ {t : List ℕ} {i f : ℕ} (e : f ≡ kind_at t i) where
  module _ {at : ℕ} (h : Printable head t i at) where
    abbrev p : Program
    p = h.program

    k_is : kind p ≡ kind_at t i
    k_is = sym (kind_is t i p h.placed.spelled)

    whole : Fits at (opening f ++ (argument p ++ link (kind_at t i)))
    whole = rw e (rw k_is at h.fits)

    pub form_few : f < form_count
    form_few = rw (e, ← k_is) (form_known p)

    pub name_fits : Fits at (opening f)
    name_fits = fits_first (opening f) (argument p ++ link (kind_at t i)) whole

    module _ {a b : List ℕ} {x : ℕ} (u : Puts a b at (opening f) x) where
      behind_name_lem : Fits x (argument p ++ link (kind_at t i))
      behind_name_lem = fits_on (opening f) (argument p ++ link (kind_at t i)) whole u

      pub argument_part : Printable argument t i x
      argument_part = record { program = p; placed = h.placed; fits = fits_first (argument p) (link (kind_at t i)) behind_name_lem }

      pub link_fits : {c : List ℕ} {y : ℕ} → Shows argument t i b c x y → Fits y (link (kind_at t i))
      link_fits v = fits_on (argument p) (link (kind_at t i)) behind_name_lem (v.puts p h.placed.spelled)

  pub puts_head : {a b c d : List ℕ} {at x y r : ℕ} → Puts a b at (opening f) x → Shows argument t i b c x y
      → Puts c d y (link (kind_at t i)) r → Shows head t i a d at r
  puts_head u v w =
      record { puts = λ p h. rw (← kind_is t i p h) (rw e at (puts_then u (puts_then (v.puts p h) w))) }
