-- The configurations of the table that is made from a program in form have height at most 16 exactly if all its tests do.
use Prim.Native.Nat.{ℕ, zero, suc, ◌+◌, ◌*◌, ◌/◌, ◌%◌, ◌≤◌, ◌<◌, max}
use mathlib.Core.Bool.{Bool, true, false, ◌&&◌}
use mathlib.Core.Path.{◌≡◌, refl, sym, ap, ◌∙◌}
use mathlib.Core.List.{List, [], ◌++◌}
use native.Mathlib.Omega.{arith}
use lib.Dec.{leb}
use borrow.Author.Tests.{le-leb, lt-leb, leb-true, leb-false}
use Rattle.junior.specs.Configuration.{Config, Event, Not, And, Or}
use Rattle.junior.specs.Program.{Program, Argument, no_argument, number, event, configuration, value, capped, argument}
use Rattle.junior.specs.Program.{Parts as PartsOf, no_part, one_part, two_parts, parts as taken_apart}
use Rattle.table.specs.Records.{configuration_at}
use Rattle.table.specs.Good.{parts, good_but_height, height_at_most, good_configuration}
use Rattle.table.specs.Spells.{weight}
use Rattle.table.proofs.ByParts.{some_record}
use Rattle.table.proofs.Heights.{height_good}
use Rattle.table.proofs.Laid.{both as both_true}
use Rattle.form.specs.Made.{tests_with, tests_parts, tests, behind as after, test_records, records_with, tests_of_parts}
use Rattle.form.specs.Made.{table_of}
use Rattle.form.specs.InForm.{InForm}
use Rattle.form.proofs.BytesAt.{Has}
use Rattle.form.proofs.Spans.{All, both, own_and, own_and_both, first_of, second_of, behind_own, first_behind}
use Rattle.form.proofs.Spans.{second_behind}
use Rattle.form.proofs.Spans
use Rattle.form.proofs.MadeRecords.{test_there, kind_is, event_kind, test_behind, BothTests, both_tests, tested_there}
use Rattle.form.proofs.MadeRecords.{behind_argument}
use Rattle.form.proofs.MadeSpells.{made_stands}
use Rattle.form.proofs.MadeTests.{size_there, GoodTest, first_tests, second_tests, all_tests_good}
use Rattle.form.proofs.MadeTests.{made_tests_good}

-- how many levels a configuration has
unfoldable pub tall : Config → ℕ
tall (Event s) = 1
tall (Not c) = 1 + tall c
tall (And c d) = 1 + max (tall c) (tall d)
tall (Or c d) = 1 + max (tall c) (tall d)

-- all tests of a program have height at most 16
abbrev pub LowArgument : Argument → Type 0
LowArgument no_argument = Unit {0}
LowArgument (number n) = Unit {0}
LowArgument (event s) = Unit {0}
LowArgument (configuration c) = tall c ≤ 16
LowArgument (value v) = Unit {0}
LowArgument (capped v cap) = Unit {0}

abbrev pub LowParts : {p : Program} → PartsOf p → Type 0
LowParts {p} (no_part f) = LowArgument (argument p) × Unit {0}
LowParts {p} (one_part f q) = LowArgument (argument p) × LowParts q
LowParts {p} (two_parts f q r) = LowArgument (argument p) × (LowParts q × LowParts r)

unfoldable pub LowTests : Program → Type 0
LowTests p = LowParts (taken_apart p)

tall_least : (c : Config) → 1 ≤ tall c
unfolding tall
tall_least (Event s) = omega arith
tall_least (Not c) = omega arith
tall_least (And c d) = omega arith
tall_least (Or c d) = omega arith

one_more : (m h : ℕ) → leb m h ≡ leb (1 + m) (suc h)
one_more m h = go (leb m h) refl
  where
    go : (b : Bool) → leb m h ≡ b → b ≡ leb (1 + m) (suc h)
    go true e = let l = leb-true m h e in sym (le-leb (1 + m) (suc h) (omega arith))
    go false e = let l = leb-false m h e in sym (lt-leb (1 + m) (suc h) (omega arith))

one_more_than_both : (m n h : ℕ) → (leb m h && leb n h) ≡ leb (1 + max m n) (suc h)
one_more_than_both m n h = go (leb m h) refl (leb n h) refl
  where
    go : (a : Bool) → leb m h ≡ a → (b : Bool) → leb n h ≡ b → (a && b) ≡ leb (1 + max m n) (suc h)
    go true e true f =
        let l = leb-true m h e in
        let k = leb-true n h f in
        sym (le-leb (1 + max m n) (suc h) (omega arith))
    go true e false f = let k = leb-false n h f in sym (lt-leb (1 + max m n) (suc h) (omega arith))
    go false e b f = let l = leb-false m h e in sym (lt-leb (1 + max m n) (suc h) (omega arith))

module _ (t : List ℕ) where
  abbrev Low : ℕ → ℕ → Type 0
  Low h j = height_at_most t h j ≡ true

  -- d stands at configuration j, and its records are good
  record There (d : Config) (j : ℕ) : Type 0 where
    records : Has t (configuration_at t j) (test_records d)
    good : All (GoodTest t) j (weight d)

  own_good_lem : {d : Config} {j : ℕ} → There d j → GoodTest t j
  own_good_lem {d} {j} x = x.good j (omega arith) (omega (arith, some_record d))

  -- the parts of a not, and of an and or an or
  part_there : {d : Config} {j : ℕ} → There (Not d) j → There d (j + 1)
  unfolding test_records weight
  part_there {d} {j} x =
      record {
        records = test_behind 1 0 (1 + weight d) (omega arith) x.records;
        good = behind_own (GoodTest t) j (weight d) x.good;
      }

  record Parts (j k : ℕ) (d e : Config) : Type 0 where
    own : BothTests t j k d e
    first : There d (j + 1)
    second : There e (j + 1 + weight d)

  parts_there : {j k : ℕ} {d e : Config} → BothTests t j k d e → All (GoodTest t) j (1 + weight d + weight e) → Parts j k d e
  parts_there {j} {k} {d} {e} o g =
      record {
        own = o;
        first = record { records = o.first; good = first_behind (GoodTest t) j (weight d) (weight e) g };
        second = record { records = o.second; good = second_behind (GoodTest t) j (weight d) (weight e) g };
      }

  and_there : {d e : Config} {j : ℕ} → There (And d e) j → Parts j 2 d e
  unfolding test_records weight
  and_there {d} {e} {j} x = parts_there (both_tests j 2 d e x.records) x.good

  or_there : {d e : Config} {j : ℕ} → There (Or d e) j → Parts j 3 d e
  unfolding test_records weight
  or_there {d} {e} {j} x = parts_there (both_tests j 3 d e x.records) x.good

  abbrev HeightWhere : ℕ → Config → Type 0
  HeightWhere h d = (j : ℕ) → There d j → height_at_most t h j ≡ leb (tall d) h

  height_both : (h : ℕ) {j k : ℕ} {d e : Config} → Parts j k d e → k < 16 → parts k ≡ 2 → GoodTest t j → HeightWhere h d → HeightWhere h e
      → height_at_most t (suc h) j ≡ leb (1 + max (tall d) (tall e)) (suc h)
  height_both h {j} {d = d} {e = e} o l p g first second =
      let s = size_there t (j + 1) d o.first.records in
      height_good t h j 2 g (ap parts (kind_is o.own.own l) ∙ p)
      ∙ rw (s, first _ o.first, second _ o.second) (one_more_than_both (tall d) (tall e) h)

  height_is : (h : ℕ) (d : Config) → HeightWhere h d
  unfolding test_records tall parts height_at_most
  height_is zero d j x = sym (lt-leb (tall d) 0 (tall_least d))
  height_is (suc h) (Event s) j x =
      let o = test_there (16 * (s / 256)) (s % 256) 1 x.records in
      height_good t h j 0 (own_good_lem x) (ap parts (event_kind s o)) ∙ sym (le-leb 1 (suc h) (omega arith))
  height_is (suc h) (Not d) j x =
      let o = test_there 1 0 (1 + weight d) x.records in
      height_good t h j 1 (own_good_lem x) (ap parts (kind_is o (omega arith))) ∙ (height_is h d (j + 1) (part_there x) ∙ one_more (tall d) h)
  height_is (suc h) (And d e) j x = height_both h (and_there x) (omega arith) refl (own_good_lem x) (height_is h d) (height_is h e)
  height_is (suc h) (Or d e) j x = height_both h (or_there x) (omega arith) refl (own_good_lem x) (height_is h d) (height_is h e)

  -- all records of a configuration are as low as it is
  abbrev LowWhere : ℕ → Config → Type 0
  LowWhere h d = (j : ℕ) → There d j → tall d ≤ h → All (Low h) j (weight d)

  own_low : {h : ℕ} {d : Config} {j : ℕ} → There d j → tall d ≤ h → Low h j
  own_low {h} {d} {j} x l = height_is h d j x ∙ le-leb (tall d) h l

  all_low : (h : ℕ) (d : Config) → LowWhere h d
  unfolding weight tall
  all_low h (Event s) j x l = own_and (Low h) j 0 (own_low x l) (Spans.none (Low h) (j + 1))
  all_low h (Not d) j x l = own_and (Low h) j (weight d) (own_low x l) (all_low h d (j + 1) (part_there x) (omega arith))
  all_low h (And d e) j x l =
      let o = and_there x in
      let f = all_low h d (j + 1) o.first (omega arith) in
      let g = all_low h e (j + 1 + weight d) o.second (omega arith) in
      own_and_both (Low h) j (weight d) (weight e) (own_low x l) f g
  all_low h (Or d e) j x l =
      let o = or_there x in
      let f = all_low h d (j + 1) o.first (omega arith) in
      let g = all_low h e (j + 1 + weight d) o.second (omega arith) in
      own_and_both (Low h) j (weight d) (weight e) (own_low x l) f g

  -- n configurations from j on have height at most 16 exactly if A
  record Exactly (j n : ℕ) (A : Type 0) : Type 0 where
    only : All (Low 16) j n → A
    enough : A → All (Low 16) j n

  none_exactly : (j : ℕ) → Exactly j 0 (Unit {0})
  none_exactly j = record { only = λ f. tt; enough = λ a. Spans.none (Low 16) j }

  beside : {j n : ℕ} {B : Type 0} → Exactly j n B → Exactly j n (Unit {0} × B)
  beside x = record { only = λ f. (tt, x.only f); enough = λ a. x.enough a.1 }

  both_exactly : (j m n : ℕ) {A B : Type 0} → Exactly j m A → Exactly (j + m) n B → Exactly j (m + n) (A × B)
  both_exactly j m n x y =
      record {
        only = λ f. (x.only (first_of (Low 16) j m n f), y.only (second_of (Low 16) j m n f));
        enough = λ a. both (Low 16) j m n (x.enough a.0) (y.enough a.1);
      }

  test_exactly : (c : Config) (j : ℕ) → There c j → Exactly j (weight c) (tall c ≤ 16)
  test_exactly c j x =
      record {
        only = λ f. leb-true (tall c) 16 (sym (height_is 16 c j x) ∙ f j (omega arith) (omega (arith, some_record c)));
        enough = λ l. all_low 16 c j x l;
      }

  -- the configurations of an argument and n more
  argument_exactly : (a : Argument) (j n : ℕ) (w : List ℕ) {B : Type 0} → Has t (configuration_at t j) (records_with a w)
      → All (GoodTest t) j (tests_with a n) → (All (GoodTest t) (after j a) n → Exactly (after j a) n B)
      → Exactly j (tests_with a n) (LowArgument a × B)
  argument_exactly no_argument j n w h g more = beside (more g)
  argument_exactly (number m) j n w h g more = beside (more g)
  argument_exactly (event s) j n w h g more = beside (more g)
  argument_exactly (configuration c) j n w h g more =
      let x : There c j = record { records = tested_there j c w h; good = first_of (GoodTest t) j (weight c) n g } in
      both_exactly j (weight c) n (test_exactly c j x) (more (second_of (GoodTest t) j (weight c) n g))
  argument_exactly (value v) j n w h g more = beside (more g)
  argument_exactly (capped v cap) j n w h g more = beside (more g)

  low_exactly : {p : Program} (v : PartsOf p) (j : ℕ) → Has t (configuration_at t j) (tests_of_parts v)
      → All (GoodTest t) j (tests_parts v) → Exactly j (tests_parts v) (LowParts v)
  low_exactly {p} (no_part f) j h g = argument_exactly (argument p) j 0 [] h g (λ k. none_exactly (after j (argument p)))
  low_exactly {p} (one_part f q) j h g =
      argument_exactly (argument p) j (tests_parts q) (tests_of_parts q) h g
      (λ k. low_exactly q _ (behind_argument j (argument p) (tests_of_parts q) h) k)
  low_exactly {p} (two_parts f q r) j h g =
      let next = after j (argument p) in
      let w = tests_of_parts q ++ tests_of_parts r in
      let b = behind_argument j (argument p) w h in
      argument_exactly (argument p) j (tests_parts q + tests_parts r) w h g
      (λ k.
      both_exactly next (tests_parts q) (tests_parts r)
      (low_exactly q next (first_tests t next q r b) (first_of (GoodTest t) next (tests_parts q) (tests_parts r) k))
      (low_exactly r (next + tests_parts q) (second_tests t next q r b) (second_of (GoodTest t) next (tests_parts q) (tests_parts r) k)))

made_exactly : (p : Program) → InForm p → Exactly (table_of p) 0 (tests p) (LowTests p)
unfolding tests LowTests
made_exactly p f = low_exactly (table_of p) (taken_apart p) 0 (made_stands p).tests_there (all_tests_good p f)

-- all configurations of the table are good exactly if all tests are low
pub made_good : (p : Program) → InForm p → LowTests p → (j : ℕ) → j < tests p → good_configuration (table_of p) j ≡ true
unfolding good_configuration
made_good p f a j l = rw (made_tests_good p f j l, (made_exactly p f).enough a j (omega arith) (omega arith))

pub made_low : (p : Program) → InForm p → ((j : ℕ) → j < tests p → good_configuration (table_of p) j ≡ true) → LowTests p
unfolding good_configuration
made_low p f g =
    (made_exactly p f).only (λ j h l. (both_true {a = good_but_height (table_of p) j} (g j (omega arith))).1)
