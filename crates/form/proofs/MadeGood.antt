-- Every node of the table that is made from a program in form is good.
use Prim.Native.Nat.{ℕ, zero, suc, ◌+◌, ◌≤◌, ◌<◌}
use mathlib.Core.Bool.{true, ◌||◌}
use mathlib.Core.Path.{◌≡◌, sym, ◌∙◌}
use mathlib.Core.List.{List}
use native.Mathlib.Omega.{arith}
use lib.Dec.{eqb, ltb}
use borrow.Author.Tests.{lt-ltb, eq-eqb}
use Rattle.junior.specs.Program.{Program, Argument, no_argument, number, event, configuration, value, capped, argument, kind}
use Rattle.junior.specs.Program.{Parts, no_part, one_part, two_parts, parts, size_of, size}
use Rattle.junior.proofs.Parts.{size_by, some_nodes}
use Rattle.table.specs.Records.{nodes, configurations, events, size_at}
use Rattle.table.specs.Good.{is_laid_out, good_node}
use Rattle.table.proofs.ByParts.{some_record}
use Rattle.table.proofs.Laid.{Laid, one, two}
use Rattle.table.proofs.Parts.{part_count, children_are, limit_of, by_kind}
use Rattle.table.proofs.Tree.{written, written_parts}
use Rattle.form.specs.Made.{larger, named_with, named_parts, named, tests_with, tests_parts, tests, as_number, behind, table_of}
use Rattle.form.specs.InForm.{ArgumentInForm, PartsInForm, InForm}
use Rattle.form.proofs.Spans.{All, own_and, own_and_both}
use Rattle.form.proofs.Spans
use Rattle.form.proofs.MadeNamed.{larger_first, larger_second, named_rest}
use Rattle.form.proofs.MadeBytes.{made_nodes, made_configurations, made_events}
use Rattle.form.proofs.MadeRecords.{Node, RecordsAt, no_parts, one_of, two_of}
use Rattle.form.proofs.MadeSpells.{spells, made_stands, made_spells}

pub laid_out : {written : ℕ → ℕ} {n i c : ℕ} → Laid written n i c → is_laid_out written n i c ≡ true
unfolding is_laid_out
laid_out (Laid.none s) = eq-eqb _ _ s
laid_out (one h s) = rw (lt-ltb _ _ h, eq-eqb _ _ s)
laid_out (two h g s) = rw (lt-ltb _ _ h, lt-ltb _ _ g, eq-eqb _ _ s)

module _ (t : List ℕ) (whole : size_at t 0 ≡ nodes t) where
  root_good : (i : ℕ) → (ltb 0 i || eqb (size_at t i) (nodes t)) ≡ true
  root_good zero = rw (eq-eqb _ _ whole)
  root_good (suc i) = rw (lt-ltb 0 (suc i) (omega arith))

  abbrev Good : ℕ → Type 0
  Good i = good_node t i ≡ true

  node_good : {i : ℕ} {p : Program} (v : Parts p) {a s : ℕ} → Node t i (kind p) a s → a < limit_of t (argument p)
      → Laid (size_at t) (nodes t) i (part_count v) → Good i
  unfolding good_node
  node_good {i} {p} v {a} o w l =
      rw (
        o.kind_is,
        o.zero_is,
        o.argument_is,
        children_are v,
        (by_kind p).limit_is t,
        (by_kind p).known_kind,
        lt-ltb a (limit_of t (argument p)) w,
        laid_out l,
        root_good i,
      )

  -- an argument in form is below its limit
  argument_below : (a : Argument) (j n v : ℕ) → ArgumentInForm a → j + tests_with a n ≤ configurations t → named_with a v ≤ events t
      → as_number j a < limit_of t a
  argument_below no_argument j n v f m l = omega arith
  argument_below (number k) j n v f m l = omega arith
  argument_below (event s) j n v f m l = larger_first (suc s) v _ l
  argument_below (configuration c) j n v f m l = omega (arith, some_record c)
  argument_below (value k) j n v f m l = omega arith
  argument_below (capped k cap) j n v (f, g) m l = omega arith

  -- the parts' tests are within the table, and their events are named
  tests_behind : (a : Argument) (j n : ℕ) → j + tests_with a n ≤ configurations t → behind j a + n ≤ configurations t
  tests_behind no_argument j n m = m
  tests_behind (number k) j n m = m
  tests_behind (event s) j n m = m
  tests_behind (configuration c) j n m = omega arith
  tests_behind (value v) j n m = m
  tests_behind (capped v cap) j n m = m

  -- all nodes of p are good wherever they stand
  abbrev GoodWhere : {p : Program} → Parts p → Type 0
  GoodWhere v =
      (i j : ℕ)
      → RecordsAt t i j v
      → PartsInForm v
      → i + size_of v ≤ nodes t
      → j + tests_parts v ≤ configurations t
      → named_parts v ≤ events t
      → All Good i (size_of v)

  good_nodes : {p : Program} (v : Parts p) → GoodWhere v
  good_nodes {p} (no_part f) i j s x n m l =
      let o = no_parts i j s in
      let w = argument_below (argument p) j 0 1 x m l in
      own_and Good i 0 (node_good (no_part f) o w (Laid.none (o.size_is ∙ size_by (no_part f)))) (Spans.none Good (i + 1))
  good_nodes {p} (one_part f q) i j s (x, y) n m l =
      let o = one_of i j q s in
      let w = argument_below (argument p) j (tests_parts q) (named_parts q) x m l in
      let z = written_parts t (i + 1) q (spells t q (i + 1) _ y o.part) in
      let first =
      good_nodes q (i + 1) _ o.part y (omega arith) (tests_behind (argument p) j (tests_parts q) m) (named_rest (argument p) (named_parts q) _ l) in
      own_and
      Good
      i
      (size_of q)
      (node_good (one_part f q) o.own w (one (omega (arith, some_nodes q)) (omega (arith, o.own.size_is, size_by (one_part f q)))))
      first
  good_nodes {p} (two_parts f q r) i j s (x, y, y') n m l =
      let o = two_of i j q r s in
      let both_named = larger (named_parts q) (named_parts r) in
      let w = argument_below (argument p) j (tests_parts q + tests_parts r) both_named x m l in
      let z = written_parts t (i + 1) q (spells t q (i + 1) _ y o.first) in
      let u = written_parts t (i + 1 + size_of q) r (spells t r (i + 1 + size_of q) _ y' o.second) in
      let z' : size_at t (i + 1 + size_at t (i + 1)) ≡ size_of r = rw z u in
      let b = tests_behind (argument p) j (tests_parts q + tests_parts r) m in
      let c = named_rest (argument p) both_named _ l in
      own_and_both
      Good
      i
      (size_of q)
      (size_of r)
      (node_good
      (two_parts f q r)
      o.own
      w
      (two {more = 0} (omega (arith, some_nodes q)) (omega (arith, some_nodes r)) (omega (arith, o.own.size_is, size_by (two_parts f q r)))))
      (good_nodes q _ _ o.first y (omega arith) (omega arith) (larger_first (named_parts q) (named_parts r) _ c))
      (good_nodes r _ _ o.second y' (omega arith) (omega arith) (larger_second (named_parts q) (named_parts r) _ c))

pub made_nodes_good : (p : Program) → InForm p → (i : ℕ) → i < size p → good_node (table_of p) i ≡ true
unfolding size tests named
made_nodes_good p f i l =
    let n = made_nodes p in
    let m = made_configurations p in
    let v = made_events p in
    let whole : size_at (table_of p) 0 ≡ nodes (table_of p) = written (table_of p) 0 p (made_spells p f) ∙ sym n in
    good_nodes (table_of p) whole (parts p) 0 0 (made_stands p) f (omega arith) (omega arith) (omega arith) i (omega arith) (omega arith)
