-- What the calls for C write into the lent places of an answer, as numbers.
use Rattle.std.specs.Prelude.{ℕ, ◌+◌, ◌/◌, cond, ◌≡◌, Result, Ok, Err, List, [], ◌∷◌, ◌++◌}
use Rattle.events.specs.Members.{places, marks}
use Rattle.table.specs.Verdict.{Verdict, ending, numbered_by, number_of, index_of, figures_of}
use Rattle.taking.specs.declared.Taken.{Taken}
use Rattle.taking.specs.declared.TakeRefusal.{TakeRefusal}
use Rattle.taking.specs.Taking.{taking_number, taking_index, Took}
use Rattle.kernel.specs.Answer.{Outcome, Reply, fields_of, Rooms, outcome_number, outcome_index, values_of, Started, Answered}

-- number, index, G, A, W, F
abbrev pub check_places : Verdict → List ℕ
check_places c = number_of c ∷ index_of c ∷ (figures_of c).generations ∷ (figures_of c).atoms ∷ (figures_of c).nodes ∷ (figures_of c).parked ∷ []

-- number, index
abbrev pub start_places : Outcome → List ℕ
start_places o = outcome_number o ∷ outcome_index o ∷ []

-- number, index, how many events are present, the lowest, how many atoms were written, whether finished, passes, the node and
-- the event of the test that waited, the set's words
abbrev pub instant_places : Reply → List ℕ
instant_places r =
    let a = fields_of r in
    start_places (ending r) ++ (a.count ∷ a.lowest ∷ a.atoms ∷ cond a.finished 1 0 ∷ a.passes ∷ a.waits.node ∷ a.waits.event ∷ a.events.words)

-- how many they are
abbrev pub instant_length : ℕ
instant_length = 9 + places / 64

pub record StartedInPlaces (t s s' into : List ℕ) : Type 0 where
  pub outcome : Outcome
  pub started : Started t s s' outcome
  pub written : into ≡ start_places outcome

-- `words` are those of the events handed in, `values` the bytes of the sixteen values
pub record AnsweredInPlaces (t s words values : List ℕ) (lent : Rooms) (s' : List ℕ) (left : Rooms) (into : List ℕ) : Type 0 where
  pub answer : Reply
  pub answered : Answered t s (marks words) (values_of values) lent s' left answer
  pub written : into ≡ instant_places answer

-- number, index, the lengths of the taken table and of the taken state (L8); 0 where nothing was taken
abbrev pub lengths_of : Result Taken TakeRefusal → Taken
lengths_of (Ok taken) = taken
lengths_of (Err why) = record { table = 0; state = 0 }

abbrev pub take_places : Result Taken TakeRefusal → List ℕ
take_places r = numbered_by taking_number r ∷ numbered_by taking_index r ∷ (lengths_of r).table ∷ (lengths_of r).state ∷ []

pub record TookInPlaces (t s : List ℕ) (e : ℕ) (tableRoom stateRoom s' tableRoom' stateRoom' into : List ℕ) : Type 0 where
  pub taken : Result Taken TakeRefusal
  pub took : Took t s e tableRoom stateRoom s' tableRoom' stateRoom' taken
  pub written : into ≡ take_places taken
