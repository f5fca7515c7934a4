-- Every configuration of the table that is made from a program in form is good but for its height.
use Prim.Native.Nat.{ℕ, ◌+◌, ◌*◌, ◌/◌, ◌%◌, ◌≤◌, ◌<◌}
use mathlib.Core.Bool.{true, false}
use mathlib.Core.Path.{◌≡◌, refl}
use mathlib.Core.List.{List, [], ◌++◌}
use native.Mathlib.Omega.{arith}
use lib.Dec.{eqb}
use borrow.Author.Tests.{lt-ltb, le-leb}
use Rattle.events.specs.Members.{places}
use Rattle.junior.specs.Configuration.{Config, Event, Not, And, Or}
use Rattle.junior.specs.Program.{Program, Argument, no_argument, number, event, configuration, value, capped, argument}
use Rattle.junior.specs.Program.{Parts, no_part, one_part, two_parts, parts as taken_apart}
use Rattle.table.specs.Records.{configurations, events, configuration_at, kind_byte, part_event}
use Rattle.table.specs.Good.{parts, good_but_height}
use Rattle.table.specs.Spells.{weight}
use Rattle.table.proofs.ByParts.{some_record}
use Rattle.table.proofs.Laid.{Laid, one, two, size_of}
use Rattle.form.specs.Made.{larger, named_in, named_with, named_parts, named, tests_with, tests_parts, tests}
use Rattle.form.specs.Made.{behind as after, test_records, records_with, tests_of_parts, table_of}
use Rattle.form.specs.InForm.{TestInForm, ArgumentInForm, PartsInForm, InForm}
use Rattle.form.proofs.BytesAt.{Has, front, behind}
use Rattle.form.proofs.Spans.{All, both, own_and, own_and_both}
use Rattle.form.proofs.Spans
use Rattle.form.proofs.MadeLength.{tests_long}
use Rattle.form.proofs.MadeNamed.{larger_first, larger_second, named_rest}
use Rattle.form.proofs.MadeBytes.{made_configurations, made_events}
use Rattle.form.proofs.MadeRecords.{Test, test_there, kind_is, event_kind, few_sixteens, event_is, test_behind, BothTests, both_tests, tested_there}
use Rattle.form.proofs.MadeRecords.{behind_argument}
use Rattle.form.proofs.MadeSpells.{made_stands}
use Rattle.form.proofs.MadeGood.{laid_out}

module _ (t : List ℕ) where
  pub size_there : (j : ℕ) (d : Config) → Has t (configuration_at t j) (test_records d) → size_of t j ≡ weight d
  unfolding test_records weight
  size_there j (Event s) h = (test_there (16 * (s / 256)) (s % 256) 1 h).size_is
  size_there j (Not d) h = (test_there 1 0 (1 + weight d) h).size_is
  size_there j (And d e) h = (both_tests j 2 d e h).own.size_is
  size_there j (Or d e) h = (both_tests j 3 d e h).own.size_is

  abbrev pub GoodTest : ℕ → Type 0
  GoodTest j = good_but_height t j ≡ true

  -- an event s, and a kind k with parts
  event_good : (s : ℕ) {j n : ℕ} → Test t (configuration_at t j) (16 * (s / 256)) (s % 256) n → s < places → s < events t
      → Laid (size_of t) (configurations t) j 0 → GoodTest j
  unfolding good_but_height parts
  event_good s o f l w =
      rw (lt-ltb _ _ (few_sixteens s o f), event_kind s o, event_is s o f, lt-ltb s (events t) l, laid_out w)

  parted_good : {j k n : ℕ} → Test t (configuration_at t j) k 0 n → k ≤ 3 → eqb k 0 ≡ false
      → Laid (size_of t) (configurations t) j (parts k) → GoodTest j
  unfolding good_but_height
  parted_good {j} {k = k} o h z w =
      let small : kind_byte t (configuration_at t j) < 64 = let b = o.kind_byte_is in omega arith in
      let none : part_event t (configuration_at t j) ≡ 0 = let b = o.kind_byte_is in let e = o.event_byte_is in omega arith in
      rw (lt-ltb _ _ small, kind_is o (omega arith), none, le-leb k 3 h, z, laid_out w)

  -- all records of d, in form, are good wherever they stand
  abbrev GoodWhere : Config → Type 0
  GoodWhere d =
      (j : ℕ)
      → TestInForm d
      → Has t (configuration_at t j) (test_records d)
      → j + weight d ≤ configurations t
      → named_in d ≤ events t
      → All GoodTest j (weight d)

  -- an and, an or
  both_good : {j k : ℕ} {d e : Config} → BothTests t j k d e → k ≤ 3 → eqb k 0 ≡ false → parts k ≡ 2
      → TestInForm d × TestInForm e → GoodWhere d → GoodWhere e
      → j + (1 + weight d + weight e) ≤ configurations t → larger (named_in d) (named_in e) ≤ events t
      → All GoodTest j (1 + weight d + weight e)
  both_good {j} {d = d} {e = e} o l z p (x, y) first second m v =
      let s = size_there (j + 1) d o.first in
      let u = size_there (j + 1 + weight d) e o.second in
      let w : size_of t (j + 1 + size_of t (j + 1)) ≡ weight e = rw s u in
      let laid : Laid (size_of t) (configurations t) j 2 =
      two (omega (arith, some_record d)) (omega (arith, some_record e)) (omega (arith, o.own.size_is)) in
      own_and_both
      GoodTest
      j
      (weight d)
      (weight e)
      (parted_good o.own l z (rw p laid))
      (first _ x o.first (omega arith) (larger_first (named_in d) (named_in e) _ v))
      (second _ y o.second (omega arith) (larger_second (named_in d) (named_in e) _ v))

  good_test : (d : Config) → GoodWhere d
  unfolding test_records weight named_in parts
  good_test (Event s) j x h m v =
      let o = test_there (16 * (s / 256)) (s % 256) 1 h in
      own_and GoodTest j 0 (event_good s o x v (Laid.none o.size_is)) (Spans.none GoodTest (j + 1))
  good_test (Not d) j x h m v =
      let o = test_there 1 0 (1 + weight d) h in
      let b : Has t (configuration_at t (j + 1)) (test_records d) = test_behind 1 0 (1 + weight d) (omega arith) h in
      let laid : Laid (size_of t) (configurations t) j 1 =
      one (omega (arith, some_record d)) (omega (arith, o.size_is, size_there (j + 1) d b)) in
      own_and GoodTest j (weight d) (parted_good o (omega arith) refl laid) (good_test d (j + 1) x b (omega arith) v)
  good_test (And d e) j x h m v = both_good (both_tests j 2 d e h) (omega arith) refl refl x (good_test d) (good_test e) m v
  good_test (Or d e) j x h m v = both_good (both_tests j 3 d e h) (omega arith) refl refl x (good_test d) (good_test e) m v

  -- the configurations of two parts
  module _ (j : ℕ) {p q : Program} (v : Parts p) (w : Parts q) (h : Has t (configuration_at t j) (tests_of_parts v ++ tests_of_parts w)) where
    pub first_tests : Has t (configuration_at t j) (tests_of_parts v)
    first_tests = front (tests_of_parts v) (tests_of_parts w) h

    pub second_tests : Has t (configuration_at t (j + tests_parts v)) (tests_of_parts w)
    second_tests = behind (tests_of_parts v) (tests_of_parts w) (omega (arith, tests_long v)) h

  -- the configurations of an argument and n more
  argument_good : (a : Argument) (j n m : ℕ) (w : List ℕ) → ArgumentInForm a → Has t (configuration_at t j) (records_with a w)
      → j + tests_with a n ≤ configurations t → named_with a m ≤ events t
      → (after j a + n ≤ configurations t → All GoodTest (after j a) n) → All GoodTest j (tests_with a n)
  argument_good no_argument j n m w x h l v more = more l
  argument_good (number k) j n m w x h l v more = more l
  argument_good (event s) j n m w x h l v more = more l
  argument_good (configuration c) j n m w x h l v more =
      let f = good_test c j x (tested_there j c w h) (omega arith) (larger_first (named_in c) m _ v) in
      both GoodTest j (weight c) n f (more (omega arith))
  argument_good (value a) j n m w x h l v more = more l
  argument_good (capped a cap) j n m w x h l v more = more l

  -- all tests of p are good wherever they stand
  good_tests : {p : Program} (v : Parts p) (j : ℕ) → PartsInForm v → Has t (configuration_at t j) (tests_of_parts v)
      → j + tests_parts v ≤ configurations t → named_parts v ≤ events t → All GoodTest j (tests_parts v)
  good_tests {p} (no_part f) j x h l v =
      argument_good (argument p) j 0 1 [] x h l v (λ k. Spans.none GoodTest (after j (argument p)))
  good_tests {p} (one_part f q) j (x, y) h l v =
      argument_good (argument p) j (tests_parts q) (named_parts q) (tests_of_parts q) x h l v
      (λ k. good_tests q _ y (behind_argument j (argument p) (tests_of_parts q) h) k (named_rest (argument p) (named_parts q) _ v))
  good_tests {p} (two_parts f q r) j (x, y, z) h l v =
      let next = after j (argument p) in
      let w = tests_of_parts q ++ tests_of_parts r in
      let both_named = larger (named_parts q) (named_parts r) in
      let b = behind_argument j (argument p) w h in
      let c = named_rest (argument p) both_named _ v in
      argument_good (argument p) j (tests_parts q + tests_parts r) both_named w x h l v
      (λ k.
      both GoodTest next (tests_parts q) (tests_parts r)
      (good_tests q next y (first_tests next q r b) (omega arith) (larger_first (named_parts q) (named_parts r) _ c))
      (good_tests r (next + tests_parts q) z (second_tests next q r b) (omega arith) (larger_second (named_parts q) (named_parts r) _ c)))

pub all_tests_good : (p : Program) → InForm p → All (GoodTest (table_of p)) 0 (tests p)
unfolding tests named
all_tests_good p f =
    let m = made_configurations p in
    let v = made_events p in
    good_tests (table_of p) (taken_apart p) 0 f (made_stands p).tests_there (omega arith) (omega arith)

pub made_tests_good : (p : Program) → InForm p → (j : ℕ) → j < tests p → good_but_height (table_of p) j ≡ true
made_tests_good p f j l = all_tests_good p f j (omega arith) (omega arith)
