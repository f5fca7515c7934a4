-- Request L1 of the definitions, sentence by sentence.
use Rattle.std.specs.Prelude.{ℕ, ◌≤◌, ◌<◌, Bool, true, false, ◌≡◌, List, [], ◌∷◌, ◌++◌}
use Rattle.std.proofs.Math.Option.{none, some}
use Rattle.events.specs.Events.{Events}
use Rattle.junior.specs.Configuration.{Config, Env, unknown, handed_in}
use Rattle.junior.specs.Values.{Values}
use Rattle.junior.specs.Term.{Term}
use Rattle.junior.specs.Trace.{Place, Act, did_atom, did_generate, did_park, decided, waits, scope_answered}
use Rattle.junior.specs.Rules.{left_first, Result}
use Rattle.junior.specs.Instant.{Instant}
use Rattle.junior.specs.Decided.{last_answers, finished}
use Rattle.junior.specs.Waited.{mentions, lacks, Wait, before_the_end, waited}

-- the event named for c in the events X is e, "the lowest event it mentions that isn't present"
pub record Named (c : Config) (X : Events) (e : ℕ) : Type 0 where
  pub name : lacks c X ≡ some e
  pub mentioned : mentions c e ≡ true
  pub absent : X e ≡ false
  pub lowest : (k : ℕ) → k < e → mentions c k ≡ true → X k ≡ true

-- the tests that are found unknown in these acts are at node n or behind it
unfoldable pub WaitFrom : ℕ → List Act → Type 0
WaitFrom n [] = Unit {0}
WaitFrom n (did_atom a ∷ l) = WaitFrom n l
WaitFrom n (did_generate s ∷ l) = WaitFrom n l
WaitFrom n (did_park x ∷ l) = WaitFrom n l
WaitFrom n (decided P c b E ∷ l) = WaitFrom n l
WaitFrom n (waits P c E ∷ l) = (n ≤ P.node) × WaitFrom n l
WaitFrom n (scope_answered m α b ∷ l) = WaitFrom n l

-- w is "the first suspended test in node order" of these acts, "and its event", in the events that the test was read in
pub record FirstSuspended (l : List Act) (w : Wait) : Type 0 where
  pub earlier : List Act
  pub later : List Act
  pub place : Place
  pub test : Config
  pub read_in : Env
  pub suspended : l ≡ earlier ++ (waits place test read_in ∷ later)
  pub node_is : w.node ≡ place.node
  pub event_is : Named test read_in.now w.event
  pub first : WaitFrom w.node l

-- in these acts the test that w names is decided, and of the events that it mentions w's is still the lowest that isn't present: in its
-- finished events, those of F, a local event's being its own scope's
pub record LacksAtTheEnd (F : Events) (w : Wait) (l : List Act) : Type 0 where
  pub earlier : List Act
  pub later : List Act
  pub place : Place
  pub test : Config
  pub value : Bool
  pub read_in : Env
  pub decides : l ≡ earlier ++ (decided place test value read_in ∷ later)
  pub node_is : w.node ≡ place.node
  pub event_is : Named test (finished F (last_answers later) place) w.event

-- what an instant reports
pub record Reports {value : Values} {t : Term} {X : Events} {n : ℕ} {r : Result} (i : Instant (left_first value) t (handed_in X) n r) : Type 0 where
  -- "for the last pass before the end was declared, the first suspended test in node order .. and its event"
  pub if_declared : r.env.eoi ≡ true → (w : Wait) × (waited i ≡ some w)
  pub first : (w : Wait) → waited i ≡ some w → FirstSuspended (before_the_end i) w
  -- none "if the end was never declared"
  pub if_never : r.env.eoi ≡ false → waited i ≡ none
  -- so the event named is absent to the end
  pub to_the_end : (w : Wait) → waited i ≡ some w → LacksAtTheEnd r.env.now w r.acts

pub record L1 : Type 0 where
  -- "Where a configuration is unknown, the test now also names the lowest event it mentions that isn't present; one always exists."
  pub test_names : (c : Config) (E : Env) → unknown c E → (e : ℕ) × Named c E.now e
  -- "An instant also reports .."
  pub instant_reports : {value : Values} {t : Term} {X : Events} {n : ℕ} {r : Result} (i : Instant (left_first value) t (handed_in X) n r) → Reports i
