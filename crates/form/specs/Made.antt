-- The table that is made from a program: V one above the highest event named, at least 1, and the configurations in text order, one for
-- each test (01, "Written form"; the layout is 01, "The table").
use Rattle.std.specs.Prelude.{ℕ, suc, ◌+◌, ◌*◌, ◌/◌, ◌%◌, cond, List, [], ◌∷◌, ◌++◌, leb}
use Rattle.junior.specs.Configuration.{Config, Event, Not, And, Or}
use Rattle.junior.specs.Program.{Program, Argument, no_argument, number, event, configuration, value, capped, argument, kind}
use Rattle.junior.specs.Program.{Parts, no_part, one_part, two_parts, parts, size}
use Rattle.table.specs.Bytes as Bytes
use Rattle.table.specs.Spells.{weight}

-- a number of 16 bits
abbrev pub big : ℕ → List ℕ
big n = (n / 256) ∷ (n % 256) ∷ []

abbrev pub larger : ℕ → ℕ → ℕ
larger m n = cond (leb m n) n m

-- one above the highest event named
unfoldable pub named_in : Config → ℕ
named_in (Event s) = suc s
named_in (Not c) = named_in c
named_in (And c d) = larger (named_in c) (named_in d)
named_in (Or c d) = larger (named_in c) (named_in d)

-- the same of a program, at least 1: by its argument and by its parts
abbrev pub named_with : Argument → ℕ → ℕ
named_with no_argument v = v
named_with (number n) v = v
named_with (event s) v = larger (suc s) v
named_with (configuration c) v = larger (named_in c) v
named_with (value n) v = v
named_with (capped n cap) v = v

abbrev pub named_parts : {p : Program} → Parts p → ℕ
named_parts {p} (no_part f) = named_with (argument p) 1
named_parts {p} (one_part f q) = named_with (argument p) (named_parts q)
named_parts {p} (two_parts f q r) = named_with (argument p) (larger (named_parts q) (named_parts r))

unfoldable pub named : Program → ℕ
named p = named_parts (parts p)

-- how many configuration records its tests have
abbrev pub tests_with : Argument → ℕ → ℕ
tests_with no_argument n = n
tests_with (number a) n = n
tests_with (event s) n = n
tests_with (configuration c) n = weight c + n
tests_with (value v) n = n
tests_with (capped v cap) n = n

abbrev pub tests_parts : {p : Program} → Parts p → ℕ
tests_parts {p} (no_part f) = tests_with (argument p) 0
tests_parts {p} (one_part f q) = tests_with (argument p) (tests_parts q)
tests_parts {p} (two_parts f q r) = tests_with (argument p) (tests_parts q + tests_parts r)

unfoldable pub tests : Program → ℕ
tests p = tests_parts (parts p)

-- an argument as a number, its configuration being number j, and the number behind that; "a cap times 16 plus a number" (L14)
abbrev pub as_number : ℕ → Argument → ℕ
as_number j no_argument = 0
as_number j (number n) = n
as_number j (event s) = s
as_number j (configuration c) = j
as_number j (value v) = v
as_number j (capped v cap) = cap * 16 + v

abbrev pub behind : ℕ → Argument → ℕ
behind j no_argument = j
behind j (number n) = j
behind j (event s) = j
behind j (configuration c) = j + weight c
behind j (value v) = j
behind j (capped v cap) = j

-- a node's own record
abbrev pub node : Program → ℕ → List ℕ
node p argument = Bytes.node (kind p) argument (size p)

-- the records of a program, its first configuration being number j
abbrev pub nodes_from_parts : {p : Program} → ℕ → Parts p → List ℕ
nodes_from_parts {p} j (no_part f) = node p (as_number j (argument p))
nodes_from_parts {p} j (one_part f q) = node p (as_number j (argument p)) ++ nodes_from_parts (behind j (argument p)) q
nodes_from_parts {p} j (two_parts f q r) =
    let first = behind j (argument p) in
    node p (as_number j (argument p)) ++ (nodes_from_parts first q ++ nodes_from_parts (first + tests_parts q) r)

unfoldable pub nodes_from : ℕ → Program → List ℕ
nodes_from j p = nodes_from_parts j (parts p)

-- the records of a configuration; an event's kind byte has the upper part of its number (L10)
unfoldable pub test_records : Config → List ℕ
test_records (Event s) = Bytes.configuration (16 * (s / 256)) (s % 256) 1
test_records (Not c) = Bytes.configuration 1 0 (1 + weight c) ++ test_records c
test_records (And c d) = Bytes.configuration 2 0 (1 + weight c + weight d) ++ (test_records c ++ test_records d)
test_records (Or c d) = Bytes.configuration 3 0 (1 + weight c + weight d) ++ (test_records c ++ test_records d)

-- the configurations of a program, in text order
abbrev pub records_with : Argument → List ℕ → List ℕ
records_with no_argument l = l
records_with (number n) l = l
records_with (event s) l = l
records_with (configuration c) l = test_records c ++ l
records_with (value v) l = l
records_with (capped v cap) l = l

abbrev pub tests_of_parts : {p : Program} → Parts p → List ℕ
tests_of_parts {p} (no_part f) = records_with (argument p) []
tests_of_parts {p} (one_part f q) = records_with (argument p) (tests_of_parts q)
tests_of_parts {p} (two_parts f q r) = records_with (argument p) (tests_of_parts q ++ tests_of_parts r)

unfoldable pub tests_of : Program → List ℕ
tests_of p = tests_of_parts (parts p)

-- N, M, V, and the distances back
unfoldable pub trailer : Program → List ℕ
trailer p = Bytes.trailer (size p) (tests p) (named p) (6 * size p + 4 * tests p) (4 * tests p)

unfoldable pub table_of : Program → List ℕ
table_of p = nodes_from 0 p ++ (tests_of p ++ trailer p)

-- how long that is
abbrev pub needed : Program → ℕ
needed p = 6 * size p + 4 * tests p + 10
