-- The part of a table at a node as a table of its own (L8): "A taken piece leaves as a table (the body's nodes, all configurations, the same V)".
-- A node names an event by its number, and a scope is a place in the tree: "a local name of an outer scope is then global" changes no byte.
use Rattle.std.specs.Prelude.{ℕ, ◌+◌, ◌*◌, Bool, ◌&&◌, ◌||◌, List, ◌++◌, take, drop, eqb, ltb}
use Rattle.table.specs.Records.{nodes, configurations, events, kind_at, argument_at, size_at}
use Rattle.table.specs.Bytes.{trailer}
use Rattle.table.specs.Spells.{cap_in}

-- the records of node j and of all below it, those of all configurations, and the trailer
unfoldable pub part_table : List ℕ → ℕ → List ℕ
part_table t j =
    let n = size_at t j in
    let m = configurations t in
    take (6 * n) (drop (6 * j) t)
    ++ (take (4 * m) (drop (6 * nodes t) t) ++ trailer n m (events t) (6 * n + 4 * m) (4 * m))

abbrev pub part_length : List ℕ → ℕ → ℕ
part_length t j = 6 * size_at t j + 4 * configurations t + 10

-- node i stands above node j
abbrev pub above : List ℕ → ℕ → ℕ → Bool
above t j i = ltb i j && ltb j (i + size_at t i)

-- node i is a "repetition of count or cap 0"
abbrev pub never_runs : List ℕ → ℕ → Bool
never_runs t i =
    (eqb (kind_at t i) 6 && eqb (argument_at t i) 0) || (eqb (kind_at t i) 15 && eqb (cap_in (argument_at t i)) 0)
