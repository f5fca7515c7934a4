-- What the functions of a pass promise one another, over one record of all that is lent. No contract of a customer's call cites this file.
use Rattle.std.specs.Prelude.{ℕ, ◌*◌, ◌≡◌, List, ◌++◌, length}
use Rattle.junior.specs.Term.{Term}
use Rattle.junior.specs.declared.Flag.{Flag}
use Rattle.steps.specs.declared.Pass.{Pass}
use Rattle.steps.specs.declared.progress.Progress.{Progress}
use Rattle.steps.specs.Running.{Rooms, rooms_of, Live, Runs}
use Rattle.steps.specs.Progress.{Holds, Kept, words_of, tally_of}

-- all that is lent; a room more changes `Rooms`, and what is read of a pass
pub record Lent : Type 0 where
  pub table : List ℕ
  pub state : List ℕ
  pub progress : Progress
  pub rooms : Rooms

abbrev pub lent : List ℕ → List ℕ → Progress → Rooms → Lent
lent table state m rooms = record { table = table; state = state; progress = m; rooms = rooms }

-- what a pass runs over
abbrev pub lent_of : Pass → Lent
lent_of p = lent p.table.now p.state.now p.progress (rooms_of p.atoms.now p.store.now)

-- what stands behind the references of pass p' later on, over the table of p
abbrev pub lent_then : Pass → Pass → Lent
lent_then p p' = lent p.table.now p'.state.now p'.progress (rooms_of p'.atoms.now p'.store.now)

-- the same for a node that does no atom, whatever the row is
abbrev pub storing : Pass → List ℕ → Lent
storing p row = lent p.table.now p.state.now p.progress (rooms_of row p.store.now)

abbrev pub storing_then : Pass → Pass → List ℕ → Lent
storing_then p p' row = lent p.table.now p'.state.now p'.progress (rooms_of row p'.store.now)

-- the bytes `part` of node i and all below it stand in the whole state
pub record Around (state : List ℕ) (i : ℕ) (before part behind : List ℕ) : Type 0 where
  pub split : state ≡ before ++ (part ++ behind)
  pub starts : length before ≡ 4 * i

-- a term that W holds of can be run at node i
pub record Stands (skip : ℕ) (W : Term → Type 0) (L : Lent) (i : ℕ) (before part behind : List ℕ) : Type 0 where
  pub around : Around L.state i before part behind
  pub holds : Holds L.table L.progress
  pub live : Live skip W L.table i part (words_of L.progress) L.rooms (tally_of L.progress)

-- whatever such term stands there was run once, all around it is as it was, and r is its flag
pub record Went (skip : ℕ) (W : Term → Type 0) (L : Lent) (i : ℕ) (before part behind : List ℕ) (L' : Lent) (r : Flag) : Type 0 where
  pub part' : List ℕ
  pub around : Around L'.state i before part' behind
  pub kept : Kept L.progress L'.progress
  pub runs :
      Runs skip W L.table i part (words_of L.progress) L.rooms (tally_of L.progress)
      part' (words_of L'.progress) L'.rooms (tally_of L'.progress) r

-- what each function of the cycle asks, and what it gives
abbrev pub CanRun : ℕ → (Term → Type 0) → Lent → ℕ → Type 0
CanRun skip W L i = (before : List ℕ) × (part : List ℕ) × (behind : List ℕ) × Stands skip W L i before part behind

abbrev pub HasRun : ℕ → (Term → Type 0) → Lent → ℕ → Lent → Flag → Type 0
HasRun skip W L i L' r =
    (before part behind : List ℕ) → Stands skip W L i before part behind → Went skip W L i before part behind L' r

-- the same where the row isn't looked at: whatever it is, it stays
abbrev pub CanRunBeside : ℕ → (Term → Type 0) → (List ℕ → Lent) → ℕ → Type 0
CanRunBeside skip W L i = (row : List ℕ) × CanRun skip W (L row) i

abbrev pub HasRunBeside : ℕ → (Term → Type 0) → (List ℕ → Lent) → ℕ → (List ℕ → Lent) → Flag → Type 0
HasRunBeside skip W L i L' r = (row : List ℕ) → HasRun skip W (L row) i (L' row) r

-- a pass holds on to its table and to its slices
abbrev pub Named : Pass → Pass → Type 0
Named p p' =
    (p'.table.now ≡ p.table.now) × (p'.state.ghost_name ≡ p.state.ghost_name) × (p'.atoms.ghost_name ≡ p.atoms.ghost_name)
    × (p'.store.ghost_name ≡ p.store.ghost_name)

-- the same of a pass: all that a contract of a function of the cycle says
abbrev pub CanPass : ℕ → (Term → Type 0) → Pass → ℕ → Type 0
CanPass skip W p i = CanRun skip W (lent_of p) i

pub record HasPassed (skip : ℕ) (W : Term → Type 0) (p : Pass) (i : ℕ) (p' : Pass) (r : Flag) : Type 0 where
  pub has_run : HasRun skip W (lent_of p) i (lent_then p p') r
  pub named : Named p p'

abbrev pub CanPassBeside : ℕ → (Term → Type 0) → Pass → ℕ → Type 0
CanPassBeside skip W p i = CanRunBeside skip W (storing p) i

pub record HasPassedBeside (skip : ℕ) (W : Term → Type 0) (p : Pass) (i : ℕ) (p' : Pass) (r : Flag) : Type 0 where
  pub has_run_beside : HasRunBeside skip W (storing p) i (storing_then p p') r
  pub same_row : p'.atoms.now ≡ p.atoms.now
  pub named : Named p p'
