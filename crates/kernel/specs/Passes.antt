-- What the functions of src/passes.rt promise. Private contracts alone cite this file; no public one does.
use Rattle.std.specs.Prelude.{ℕ, ◌+◌, ◌*◌, ◌/◌, ◌%◌, ◌^◌, ◌≤◌, ◌<◌, Bool, true, false, ◌≡◌, List, [], ◌∷◌, ◌++◌, length, get_or}
use Rattle.events.specs.declared.EventSet.{EventSet}
use Rattle.events.specs.Events.{Events, how_many, lowest}
use Rattle.events.specs.Members.{places, marks, members}
use Rattle.junior.specs.Values.{Values}
use Rattle.junior.specs.Term.{Term, prog}
use Rattle.junior.specs.Trace.{parks}
use Rattle.junior.specs.Figures.{LoopsStop, G, A, F}
use Rattle.junior.specs.AtRest.{AtRest}
use Rattle.table.specs.Records.{nodes}
use Rattle.table.specs.Spells.{tree_of}
use Rattle.table.specs.Inside.{Placed}
use Rattle.state.specs.StateBytes.{state_bytes}
use Rattle.state.specs.Pieces.{pieces_bytes}
use Rattle.store.specs.Store.{two}
use Rattle.steps.specs.Running.{values_in}
use Rattle.steps.specs.declared.progress.Progress.{Progress}
use Rattle.steps.specs.Progress.{words_of}
use Rattle.waiting.specs.declared.Wait.{Wait}
use Rattle.waiting.specs.Down.{SomeLeads, LeadsTo}
use Rattle.kernel.specs.declared.passes.Ending.{Ending}
use Rattle.kernel.specs.Answer.{rooms, Run}

-- the values that stand in two words, eight in each, the first in the lowest byte
abbrev pub word_values : ℕ → ℕ → Values
word_values low high = values_in (0 ∷ 0 ∷ 0 ∷ 0 ∷ low ∷ high ∷ [])

-- a word holds the eight bytes from a place on, the first the lowest
abbrev pub Eight : List ℕ → ℕ → ℕ → Type 0
Eight bytes from word = (k : ℕ) → k < 8 → word / 2 ^ (8 * k) % 256 ≡ get_or bytes (from + k) 0

-- past all refusals: a term at rest stands in the state, which is just as long, and there is room for its atoms in the row and for its pieces in the
-- free part of the store
pub record Startable (t s row free : List ℕ) : Type 0 where
  pub term : Term
  pub program : prog term ≡ tree_of t
  pub placed : Placed t 0 (prog term)
  pub loops : LoopsStop (prog term)
  pub long : length s ≡ 4 * nodes t
  pub bytes : s ≡ state_bytes term
  pub at_rest : AtRest term
  pub few : G (prog term) ≤ 4094
  pub room : A (prog term) ≤ length row
  pub parking_room : F (prog term) ≤ length free

-- an instant was run that parked its pieces in front of the free part of a store: as in a store begun empty, whose two bytes say what was parked
pub record RanFree (t s : List ℕ) (X : Events) (value : Values) (row free s' row' free' : List ℕ) (r : Ending) : Type 0 where
  pub run : Run t s X value (rooms row (0 ∷ 0 ∷ free)) s' (rooms row' (two r.parked ++ free')) r.answer
  pub parked_is : r.parked ≡ length (pieces_bytes (parks run.result.acts))

-- the answer of an instant that was run, and the bytes that were parked
pub record Reported (events : EventSet) (atoms parked : ℕ) (finished : Bool) (passes : ℕ) (waits : Wait) (r : Ending) : Type 0 where
  pub events_are : r.answer.events ≡ events
  pub count_is : r.answer.count ≡ how_many places (members events)
  pub lowest_is : r.answer.lowest ≡ lowest places (members events)
  pub atoms_are : r.answer.atoms ≡ atoms
  pub finished_is : r.answer.finished ≡ finished
  pub passes_are : r.answer.passes ≡ passes
  pub waits_are : r.answer.waits ≡ waits
  pub parked_is : r.parked ≡ parked

-- before the first pass: with the events and the values handed in nothing is done, moved, ended or parked
abbrev pub first_progress : EventSet → ℕ → ℕ → ℕ → Progress
first_progress events low high base =
    record { events = events; done = 0; moved = false; ended = false; base = base; values = low ∷ high ∷ []; parked = 0 }

abbrev pub NotBegun : List ℕ → Progress → Type 0
NotBegun t m = m ≡ first_progress m.events (get_or m.values 0 0) (get_or m.values 1 0) (6 * nodes t)

-- the way from node 0 leads to a test that waits, if nothing moved
abbrev pub LeadsIfStill : List ℕ → List ℕ → Progress → Type 0
LeadsIfStill t s m = m.moved ≡ false → SomeLeads t s 0 (marks (words_of m))

-- then r is that test, else what was named before
pub record WaitsAfter (t s : List ℕ) (m : Progress) (before r : Wait) : Type 0 where
  pub still : m.moved ≡ false → LeadsTo t s (marks (words_of m)) r
  pub moved : m.moved ≡ true → r ≡ before
