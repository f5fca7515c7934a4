-- How long the table is that is made from a program, and its parts.
use Prim.Native.Nat.{ℕ, ◌+◌, ◌*◌}
use mathlib.Core.Path.{◌≡◌}
use mathlib.Core.List.{List, [], ◌++◌}
use native.Mathlib.Omega.{arith}
use lib.ListN.{length, length-append}
use Rattle.junior.specs.Configuration.{Config, Event, Not, And, Or}
use Rattle.junior.specs.Program.{Program, Argument, no_argument, number, event, configuration, value, capped, argument}
use Rattle.junior.specs.Program.{Parts, no_part, one_part, two_parts, parts, size_of, size}
use Rattle.table.specs.Spells.{weight}
use Rattle.form.specs.Made.{tests_with, tests_parts, tests, behind, nodes_from_parts, nodes_from, test_records, records_with}
use Rattle.form.specs.Made.{tests_of_parts, tests_of, trailer, table_of, needed}

pub nodes_long : {p : Program} (j : ℕ) (v : Parts p) → length (nodes_from_parts j v) ≡ 6 * size_of v
nodes_long j (no_part f) = omega arith
nodes_long {p} j (one_part f q) = omega (arith, nodes_long (behind j (argument p)) q)
nodes_long {p} j (two_parts f q r) =
    let first = behind j (argument p) in
    simp length-append (omega (arith, nodes_long first q, nodes_long (first + tests_parts q) r))

pub nodes_length : (j : ℕ) (p : Program) → length (nodes_from j p) ≡ 6 * size p
unfolding nodes_from size
nodes_length j p = nodes_long j (parts p)

pub test_length : (c : Config) → length (test_records c) ≡ 4 * weight c
unfolding test_records weight
test_length (Event s) = omega arith
test_length (Not c) = omega (arith, test_length c)
test_length (And c d) = simp length-append (omega (arith, test_length c, test_length d))
test_length (Or c d) = simp length-append (omega (arith, test_length c, test_length d))

with_length : (a : Argument) (l : List ℕ) (n : ℕ) → length l ≡ 4 * n → length (records_with a l) ≡ 4 * tests_with a n
with_length no_argument l n e = e
with_length (number m) l n e = e
with_length (event s) l n e = e
with_length (configuration c) l n e = simp length-append (omega (arith, test_length c))
with_length (value v) l n e = e
with_length (capped v cap) l n e = e

pub tests_long : {p : Program} (v : Parts p) → length (tests_of_parts v) ≡ 4 * tests_parts v
tests_long {p} (no_part f) = with_length (argument p) [] 0 (omega arith)
tests_long {p} (one_part f q) = with_length (argument p) (tests_of_parts q) (tests_parts q) (tests_long q)
tests_long {p} (two_parts f q r) =
    with_length (argument p) (tests_of_parts q ++ tests_of_parts r) (tests_parts q + tests_parts r)
    (simp length-append (omega (arith, tests_long q, tests_long r)))

pub tests_length : (p : Program) → length (tests_of p) ≡ 4 * tests p
unfolding tests_of tests
tests_length p = tests_long (parts p)

pub table_length : (p : Program) → length (table_of p) ≡ needed p
unfolding table_of trailer
table_length p = simp length-append (omega (arith, nodes_length 0 p, tests_length p))
