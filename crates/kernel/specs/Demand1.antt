-- Demand 1: "Every call takes its table, state, events and rooms as they come, and returns. Something bad gets the number of the first check it
-- fails, and then nothing lent has been written. No table is run in part."
-- The first sentence is in the contracts: none of the three calls has a `requires`, and a call's proof shows that it returns.
use Rattle.std.specs.Prelude.{ℕ, zero, suc, ◌+◌, ◌*◌, ◌<◌, ◌≤◌, min, Bool, true, false, ◌≡◌, ◌≢◌, ◌⊎◌, List, [], ◌∷◌, ◌++◌, length}
use Rattle.events.specs.Events.{Events, none}
use Rattle.events.specs.Members.{places}
use Rattle.junior.specs.Values.{Values}
use Rattle.junior.specs.Program.{Program, Loop, size}
use Rattle.junior.specs.Figures.{stops, G, A, W, F}
use Rattle.junior.specs.Trace.{Piece}
use Rattle.table.specs.Records.{nodes, configurations, events, back_to_nodes, back_to_configurations}
use Rattle.table.specs.Good.{good_configuration, good_node}
use Rattle.table.specs.Spells.{Spells, tree_of}
use Rattle.table.specs.Verdict.{Verdict, Node, preorder, verdict_of, number_of, index_of}
use Rattle.state.specs.Resting.{rests}
use Rattle.store.specs.Store.{in_use}
use Rattle.store.specs.Stored.{Stored}
use Rattle.kernel.specs.Answer.{Outcome, Reply, Rooms, Bytes, outcome_number, outcome_index, Started, Answered}

-- what a call is handed; check is handed a table alone, start a table and a state
pub record Handed : Type 0 where
  pub table : List ℕ
  pub state : List ℕ
  pub handed_in : Events
  pub row : List ℕ
  pub store : List ℕ

abbrev pub handed : List ℕ → List ℕ → Events → Rooms → Handed
handed t s X lent = record { table = t; state = s; handed_in = X; row = lent.row; store = lent.store }

abbrev pub no_rooms : Rooms
no_rooms = record { row = []; store = [] }

-- the lowest of the first n that isn't good is i
pub record LowestBad (good : ℕ → Bool) (n i : ℕ) : Type 0 where
  pub inside : i < n
  pub bad : good i ≡ false
  pub lowest : (j : ℕ) → j < i → good j ≡ true

-- the lowest node of a list that is so is the i-th
unfoldable pub LowestNode : (Node → Type 0) → List Node → ℕ → Type 0
LowestNode So [] i = ⊥
LowestNode So (x ∷ l) zero = So x
LowestNode So (x ∷ l) (suc i) = (So x → ⊥) × LowestNode So l i

-- a Loop whose body doesn't stop
pub record Endless (x : Node) : Type 0 where
  pub body : Program
  pub loop : x.part ≡ Loop body
  pub runs_through : stops body ≡ false

-- the checks, in their order (01, "Refusal numbers")
pub data Check : Type 0 where
  its_length its_counts its_distances its_configurations its_nodes its_depth its_loops its_figures : Check
  state_room state_at_rest listed_events atom_room good_store parking_room : Check

abbrev pub number : Check → ℕ
number its_length = 1
number its_counts = 2
number its_distances = 3
number its_configurations = 4
number its_nodes = 5
number its_depth = 6
number its_loops = 7
number its_figures = 8
number state_room = 9
number state_at_rest = 10
number listed_events = 11
number atom_room = 12
number good_store = 25
number parking_room = 13

-- a check fails, with an index
abbrev pub Fails : Check → Handed → ℕ → Type 0
-- "length below 16 or above 32,778"
Fails its_length h i = ((length h.table < 16) ⊎ (32778 < length h.table)) × (i ≡ 0)
-- "N, M or V outside its range": N is 1 to 4,096, M 0 to 2,048, V 1 to 1,024 (L10), the places of an event set
Fails its_counts h i =
    (((nodes h.table < 1) ⊎ (4096 < nodes h.table))
    ⊎ ((2048 < configurations h.table) ⊎ ((events h.table < 1) ⊎ (places < events h.table))))
    × (i ≡ 0)
-- "distances not 6N+4M and 4M, or length not 6N+4M+10"
Fails its_distances h i =
    ((back_to_nodes h.table ≢ 6 * nodes h.table + 4 * configurations h.table)
    ⊎ ((back_to_configurations h.table ≢ 4 * configurations h.table)
    ⊎ (length h.table ≢ 6 * nodes h.table + 4 * configurations h.table + 10)))
    × (i ≡ 0)
-- "a configuration isn't good", lowest
Fails its_configurations h i = LowestBad (good_configuration h.table) (configurations h.table) i
-- "a node isn't good", lowest
Fails its_nodes h i = LowestBad (good_node h.table) (nodes h.table) i
-- "a node nests deeper than 64 (node 0 is depth 1)", lowest
Fails its_depth h i = LowestNode (λ x. 64 < x.depth) (preorder 1 (tree_of h.table)) i
-- "a Loop's body doesn't stop", lowest Loop
Fails its_loops h i = LowestNode Endless (preorder 1 (tree_of h.table)) i
-- "G, A or W beyond its limit": G is at most 4,094, A 4,096, W 65,535; L8: "8 also for F above 16,384"
Fails its_figures h i =
    ((4094 < G (tree_of h.table))
    ⊎ ((4096 < A (tree_of h.table)) ⊎ ((65535 < W (tree_of h.table)) ⊎ (16384 < F (tree_of h.table)))))
    × (i ≡ 0)
-- "state room below 4N bytes"
Fails state_room h i = (length h.state < 4 * nodes h.table) × (i ≡ 0)
-- "state not at rest", lowest blamed
Fails state_at_rest h i = LowestBad (rests h.table h.state) (nodes h.table) i
-- "an event at or above V handed in", lowest such event
Fails listed_events h i =
    (i < places)
    × (h.handed_in i ≡ true)
    × (events h.table ≤ i)
    × ((e : ℕ) → e < i → h.handed_in e ≡ true → e < events h.table)
-- "atom row shorter than A"
Fails atom_room h i = (length h.row < A (tree_of h.table)) × (i ≡ 0)
-- L8: "a store not so laid out (..) or with a piece not at rest": no list of pieces of the table stands there
Fails good_store h i = ((l : List Piece) → Stored h.table h.store l → ⊥) × (i ≡ 0)
-- L8: "exactly when the store's length, at most 65,537 of it, less 2 and all pieces is below F"
Fails parking_room h i = (min (length h.store) 65537 < 2 + in_use h.store + F (tree_of h.table)) × (i ≡ 0)

abbrev pub Passes : Check → Handed → Type 0
Passes c h = (i : ℕ) → Fails c h i → ⊥

-- c is the first of a list of checks that fails, with the index i; all of them are passed
unfoldable pub FirstToFail : List Check → Handed → Check → ℕ → Type 0
FirstToFail [] h c i = ⊥
FirstToFail (d ∷ l) h c i = ((d ≡ c) × Fails d h i) ⊎ (Passes d h × FirstToFail l h c i)

unfoldable pub AllPassed : List Check → Handed → Type 0
AllPassed [] h = Unit {0}
AllPassed (d ∷ l) h = Passes d h × AllPassed l h

-- a call that meets these checks answers with this number and index
pub record ByFirstCheck (l : List Check) (h : Handed) (n i : ℕ) : Type 0 where
  -- "Something bad gets the number of the first check it fails", and nothing else does
  pub refused : (c : Check) (j : ℕ) → FirstToFail l h c j → (n ≡ number c) × (i ≡ j)
  pub only_then : (c : Check) → n ≡ number c → FirstToFail l h c i
  -- "Success is number 0, index 0" (01)
  pub taken : AllPassed l h → (n ≡ 0) × (i ≡ 0)
  pub only_so : n ≡ 0 → AllPassed l h

-- check meets 1 to 8, start 1 to 9, an instant all
abbrev pub checks_of_table : List Check
checks_of_table = its_length ∷ its_counts ∷ its_distances ∷ its_configurations ∷ its_nodes ∷ its_depth ∷ its_loops ∷ its_figures ∷ []

abbrev pub checks_of_start : List Check
checks_of_start = checks_of_table ++ (state_room ∷ [])

abbrev pub checks_of_instant : List Check
checks_of_instant = checks_of_table ++ (state_room ∷ state_at_rest ∷ listed_events ∷ atom_room ∷ good_store ∷ parking_room ∷ [])

-- what runs is what the whole of the table spells, all N records of it
pub record WholeTable (t : List ℕ) : Type 0 where
  pub spelled : Spells t 0 (tree_of t)
  pub all_records : size (tree_of t) ≡ nodes t

-- of every answer that the contracts allow
pub record Demand1 : Type 0 where
  pub checked : (t : List ℕ) (r : Verdict) → r ≡ verdict_of t
      → ByFirstCheck checks_of_table (handed t [] none no_rooms) (number_of r) (index_of r)
  pub started : {t s s' : List ℕ} {r : Outcome} → Started t s s' r
      → ByFirstCheck checks_of_start (handed t s none no_rooms) (outcome_number r) (outcome_index r)
  pub answered : {t s : List ℕ} {X : Events} {value : Values} {lent : Rooms} {s' : List ℕ} {left : Rooms} {r : Reply} → Bytes lent.store
      → Answered t s X value lent s' left r
      → ByFirstCheck checks_of_instant (handed t s X lent) (outcome_number r) (outcome_index r)
  -- "and then nothing lent has been written"
  pub start_writes_nothing : {t s s' : List ℕ} {r : Outcome} → Started t s s' r → outcome_number r ≢ 0 → s' ≡ s
  pub instant_writes_nothing : {t s : List ℕ} {X : Events} {value : Values} {lent : Rooms} {s' : List ℕ} {left : Rooms} {r : Reply}
      → Answered t s X value lent s' left r
      → outcome_number r ≢ 0
      → (s' ≡ s) × (left ≡ lent)
  -- "No table is run in part"
  pub starts_whole : {t s s' : List ℕ} {r : Outcome} → Started t s s' r → outcome_number r ≡ 0 → WholeTable t
  pub runs_whole : {t s : List ℕ} {X : Events} {value : Values} {lent : Rooms} {s' : List ℕ} {left : Rooms} {r : Reply}
      → Answered t s X value lent s' left r
      → outcome_number r ≡ 0
      → WholeTable t
