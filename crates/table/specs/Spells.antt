-- The tree that records spell.
use Rattle.std.specs.Prelude.{ℕ, zero, suc, ◌+◌, ◌/◌, ◌%◌, cond, ◌≡◌, List, [], ◌∷◌, eqb, get_or}
use Rattle.table.specs.Records.{nodes, kind_at, argument_at, size_at, second_child, configuration_at}
use Rattle.table.specs.Records.{part_kind}
use Rattle.table.specs.Records.{part_event, part_size, first_part_at, second_part}
use Rattle.junior.specs.Configuration.{Config, Event, Not, And, Or}
use Rattle.junior.specs.Program.{Program, Nothing, Stop, Atom, Seq, Par, Loop, Repeat, Generate, Await, When, Until}
use Rattle.junior.specs.Program.{Control, Local, Freezable, If, Argument, no_argument, number, event, configuration, value, capped, argument, kind}
use Rattle.junior.specs.Values.{exactly, asked}
use Rattle.junior.specs.Program.{Parts, no_part, one_part, two_parts, parts, size}

-- the records of a configuration
unfoldable pub weight : Config → ℕ
weight (Event s) = 1
weight (Not c) = 1 + weight c
weight (And c d) = 1 + weight c + weight d
weight (Or c d) = 1 + weight c + weight d

-- the configuration at byte c is d
unfoldable pub Configured : List ℕ → ℕ → Config → Type 0
Configured t c (Event s) = (part_kind t c ≡ 0) × (part_size t c ≡ 1) × (part_event t c ≡ s)
Configured t c (Not d) = (part_kind t c ≡ 1) × (part_size t c ≡ 1 + weight d) × Configured t (first_part_at c) d
Configured t c (And d e) =
    (part_kind t c ≡ 2)
    × (part_size t c ≡ 1 + weight d + weight e)
    × Configured t (first_part_at c) d
    × Configured t (second_part t c) e
Configured t c (Or d e) =
    (part_kind t c ≡ 3)
    × (part_size t c ≡ 1 + weight d + weight e)
    × Configured t (first_part_at c) d
    × Configured t (second_part t c) e

-- the configuration that node i tests
abbrev pub tested : List ℕ → ℕ → ℕ
tested t i = configuration_at t (argument_at t i)

-- the value's number and the cap in a RepeatExt's argument: "a cap times 16 plus a number"
abbrev pub value_in : ℕ → ℕ
value_in a = a % 16

abbrev pub cap_in : ℕ → ℕ
cap_in a = a / 16

-- node i's argument is this one
abbrev pub Argues : List ℕ → ℕ → Argument → Type 0
Argues t i no_argument = Unit {0}
Argues t i (number n) = argument_at t i ≡ n
Argues t i (event s) = argument_at t i ≡ s
Argues t i (configuration c) = Configured t (tested t i) c
Argues t i (value v) = argument_at t i ≡ v
Argues t i (capped v cap) = (value_in (argument_at t i) ≡ v) × (cap_in (argument_at t i) ≡ cap)

-- node i's own record is that of p
abbrev pub Heads : List ℕ → ℕ → Program → Type 0
Heads t i p = (kind_at t i ≡ kind p) × (size_at t i ≡ size p)

-- the program at node i is p: its own record, its argument, and its parts
abbrev pub SpellsParts : {p : Program} → List ℕ → ℕ → Parts p → Type 0
SpellsParts {p} t i (no_part f) = Heads t i p × Argues t i (argument p)
SpellsParts {p} t i (one_part f q) = Heads t i p × Argues t i (argument p) × SpellsParts t (i + 1) q
SpellsParts {p} t i (two_parts f q r) =
    Heads t i p × Argues t i (argument p) × SpellsParts t (i + 1) q × SpellsParts t (second_child t i) r

unfoldable pub Spells : List ℕ → ℕ → Program → Type 0
Spells t i p = SpellsParts t i (parts p)

-- The same tree as a function of the bytes: what good records spell, found downwards. Levels and kinds that no good table has are Nothing; the
-- theorem `spells_tree` says that the whole tree is there, and `one_tree` that it is the only one.
unfoldable pub configuration_of : List ℕ → ℕ → ℕ → Config
configuration_of t zero c = Event 0
configuration_of t (suc levels) c =
    let d = configuration_of t levels (first_part_at c) in
    let e = configuration_of t levels (second_part t c) in
    cond
    (eqb (part_kind t c) 0)
    (Event (part_event t c))
    (cond (eqb (part_kind t c) 1) (Not d) (cond (eqb (part_kind t c) 2) (And d e) (Or d e)))

-- the forms in the order of their kinds, with the argument a or c and the parts p and q
abbrev pub forms : ℕ → Config → Program → Program → List Program
forms a c p q =
    Nothing
    ∷ Stop
    ∷ Atom a
    ∷ Seq p q
    ∷ Par p q
    ∷ Loop p
    ∷ Repeat (exactly a) p
    ∷ Generate a
    ∷ Await c
    ∷ When c p q
    ∷ Until c p q
    ∷ Control a p
    ∷ Local a p
    ∷ Freezable a p
    ∷ If a p q
    ∷ Repeat (asked (value_in a) (cap_in a)) p
    ∷ []

unfoldable pub form : ℕ → ℕ → Config → Program → Program → Program
form k a c p q = get_or (forms a c p q) k Nothing

unfoldable pub program_of : List ℕ → ℕ → ℕ → Program
program_of t zero i = Nothing
program_of t (suc levels) i =
    let c = configuration_of t 16 (tested t i) in
    let p = program_of t levels (i + 1) in
    let q = program_of t levels (second_child t i) in
    form (kind_at t i) (argument_at t i) c p q

-- the tree of a table
abbrev pub tree_of : List ℕ → Program
tree_of t = program_of t (nodes t) 0
