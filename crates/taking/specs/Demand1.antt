-- Demand 1 of taking: "Every call takes its table, state, events and rooms as they come, and returns. Something bad gets the number of the first
-- check it fails, and then nothing lent has been written." The first sentence is in the contract: `take` has no `requires`.
use Rattle.std.specs.Prelude.{ℕ, ◌+◌, ◌*◌, ◌<◌, ◌≡◌, ◌≢◌, ◌⊎◌, Result, List, [], ◌∷◌, ◌++◌, length}
use Rattle.junior.specs.Program.{size}
use Rattle.junior.specs.Term.{prog}
use Rattle.junior.specs.Trace.{Piece}
use Rattle.table.specs.Records.{configurations}
use Rattle.table.specs.Verdict.{verdict_of, number_of, index_of, numbered_by}
use Rattle.store.specs.Stored.{Stored}
use Rattle.taking.specs.declared.Taken.{Taken}
use Rattle.taking.specs.declared.TakeRefusal.{TakeRefusal}
use Rattle.taking.specs.Taking.{taking_number, taking_index, Took}
use Rattle.taking.specs.TakenWell.{Bytes, Newest}

-- what a taking is handed
pub record Handed : Type 0 where
  pub table : List ℕ
  pub store : List ℕ
  pub event : ℕ
  pub table_room : List ℕ
  pub state_room : List ℕ

abbrev pub handed : List ℕ → List ℕ → ℕ → List ℕ → List ℕ → Handed
handed t s e tableRoom stateRoom = record { table = t; store = s; event = e; table_room = tableRoom; state_room = stateRoom }

-- "15 no room to take it": the newest piece of the event, and a room shorter than its table or its state
pub record TooLong (h : Handed) : Type 0 where
  pub older : List Piece
  pub piece : Piece
  pub newer : List Piece
  pub newest : Newest h.table h.store h.event older piece newer
  pub short :
      (length h.table_room < 6 * size (prog piece.state) + 4 * configurations h.table + 10)
      ⊎ (length h.state_room < 4 * size (prog piece.state))

-- the checks, in their order: "taking gives 1 to 8, 25, 14 no such piece, 15 no room to take it"
pub data Check : Type 0 where
  its_table its_store its_piece its_rooms : Check

-- a check fails, with a number and an index
abbrev pub Fails : Check → Handed → ℕ → ℕ → Type 0
-- "1 to 8": what check refuses, as it does
Fails its_table h n i =
    (number_of (verdict_of h.table) ≢ 0) × (n ≡ number_of (verdict_of h.table)) × (i ≡ index_of (verdict_of h.table))
-- 25: no pieces stand in the store so that they are all of it
Fails its_store h n i = ((l : List Piece) → Stored h.table h.store l → ⊥) × (n ≡ 25) × (i ≡ 0)
-- "14 no such piece"
Fails its_piece h n i =
    ((l m : List Piece) (x : Piece) → Stored h.table h.store (l ++ (x ∷ m)) → x.event ≢ h.event) × (n ≡ 14) × (i ≡ 0)
Fails its_rooms h n i = TooLong h × (n ≡ 15) × (i ≡ 0)

abbrev pub Passes : Check → Handed → Type 0
Passes c h = (n i : ℕ) → Fails c h n i → ⊥

-- the first of a list of checks that fails does so with the number n and the index i; all of them are passed
unfoldable pub FirstFailure : List Check → Handed → ℕ → ℕ → Type 0
FirstFailure [] h n i = ⊥
FirstFailure (c ∷ l) h n i = Fails c h n i ⊎ (Passes c h × FirstFailure l h n i)

unfoldable pub AllPassed : List Check → Handed → Type 0
AllPassed [] h = Unit {0}
AllPassed (c ∷ l) h = Passes c h × AllPassed l h

abbrev pub checks : List Check
checks = its_table ∷ its_store ∷ its_piece ∷ its_rooms ∷ []

-- a taking answers with this number and index
pub record ByFirstCheck (h : Handed) (n i : ℕ) : Type 0 where
  -- "Something bad gets the number of the first check it fails", and nothing else does
  pub refused : (m j : ℕ) → FirstFailure checks h m j → (n ≡ m) × (i ≡ j)
  pub only_then : n ≢ 0 → FirstFailure checks h n i
  -- "Success is number 0, index 0" (01)
  pub taken : AllPassed checks h → (n ≡ 0) × (i ≡ 0)
  pub only_so : n ≡ 0 → AllPassed checks h

-- of every answer that the contract allows
pub record Demand1 : Type 0 where
  pub answered : {t s : List ℕ} {e : ℕ} {tableRoom stateRoom s' tableRoom' stateRoom' : List ℕ} {r : Result Taken TakeRefusal}
      → Bytes s
      → Took t s e tableRoom stateRoom s' tableRoom' stateRoom' r
      → ByFirstCheck (handed t s e tableRoom stateRoom) (numbered_by taking_number r) (numbered_by taking_index r)
  -- "and then nothing lent has been written"
  pub writes_nothing : {t s : List ℕ} {e : ℕ} {tableRoom stateRoom s' tableRoom' stateRoom' : List ℕ} {r : Result Taken TakeRefusal}
      → Took t s e tableRoom stateRoom s' tableRoom' stateRoom' r
      → numbered_by taking_number r ≢ 0
      → (s' ≡ s) × (tableRoom' ≡ tableRoom) × (stateRoom' ≡ stateRoom)
