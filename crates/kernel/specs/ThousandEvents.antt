-- Request L10, "A thousand events", sentence by sentence.
use Rattle.std.specs.Prelude.{Err, ℕ, ◌+◌, ◌*◌, ◌≤◌, ◌<◌, true, ◌≡◌, ◌⊎◌, List, [], ◌∷◌}
use Rattle.std.proofs.Math.Option.{none}
use Rattle.events.specs.Events.{Events, none as no_event}
use Rattle.events.specs.Members.{places, members}
use Rattle.junior.specs.Configuration.{Event}
use Rattle.junior.specs.Values.{Values}
use Rattle.junior.specs.Program.{Program, Await}
use Rattle.junior.specs.Waited.{waited}
use Rattle.table.specs.Records.{byte, configurations, events, configuration_at, kind_byte, part_event}
use Rattle.table.specs.Spells.{tree_of}
use Rattle.table.specs.Verdict.{accepted_with, ending, verdict_of, number_of}
use Rattle.store.specs.Store.{store_good}
use Rattle.kernel.specs.declared.Refusal.{Refusal}
use Rattle.kernel.specs.declared.Answer.{Answer}
use Rattle.kernel.specs.Answer.{Reply, Rooms, Run, fields_of, Answered}
use Rattle.kernel.specs.TablesBefore.{places_before, HandedBefore, AcceptedBefore, AnswerBefore, AnsweredBefore}

-- the records of an event, its kind byte with h sixteens, and of a not, an and, an or
pub record EventRecord (t : List ℕ) (c h : ℕ) : Type 0 where
  pub few : h < 4
  pub kind : kind_byte t c ≡ 16 * h
  pub event : part_event t c ≡ 256 * h + byte t (c + 1)
  pub listed : part_event t c < events t

abbrev pub SomeEvent : List ℕ → ℕ → Type 0
SomeEvent t c = (h : ℕ) × EventRecord t c h

pub record PartedRecord (t : List ℕ) (c : ℕ) : Type 0 where
  pub kind : (1 ≤ kind_byte t c) × (kind_byte t c ≤ 3)
  pub no_event : byte t (c + 1) ≡ 0

-- the same number, or none each time
abbrev pub ButForNone : ℕ → ℕ → Type 0
ButForNone now before = (now ≡ before) ⊎ ((now ≡ places) × (before ≡ places_before))

-- the same answer, but for none
pub record SameFields (now : Answer) (before : AnswerBefore) : Type 0 where
  pub events : members now.events ≡ before.events
  pub count : now.count ≡ before.count
  pub lowest : ButForNone now.lowest before.lowest
  pub atoms : now.atoms ≡ before.atoms
  pub finished : now.finished ≡ before.finished
  pub passes : now.passes ≡ before.passes
  pub node : now.waits.node ≡ before.node
  pub event : ButForNone now.waits.event before.event

-- also where it was refused
pub record SameAnswer (now : Reply) (before : AnswerBefore) : Type 0 where
  pub outcome : ending now ≡ before.outcome
  pub fields : SameFields (fields_of now) before

-- Jr.Await(1023)
abbrev pub await_1023 : List ℕ
await_1023 = 8 ∷ 0 ∷ 0 ∷ 0 ∷ 0 ∷ 1 ∷ 48 ∷ 255 ∷ 0 ∷ 1 ∷ 0 ∷ 1 ∷ 0 ∷ 1 ∷ 4 ∷ 0 ∷ 0 ∷ 10 ∷ 0 ∷ 4 ∷ []

pub record ThousandEvents : Type 0 where
  -- "V and the places of every event set go to 1,024,"
  pub places_are : places ≡ 1024
  pub v_at_most : (t : List ℕ) → number_of (verdict_of t) ≡ 0 → events t ≤ 1024
  pub v_of_all : (events await_1023 ≡ 1024) × (verdict_of await_1023 ≡ accepted_with 0 0 1 0) × (tree_of await_1023 ≡ Await (Event 1023))
  -- "and 'none' becomes 1,024."
  pub none_lowest : {t s : List ℕ} {X : Events} {values : Values} {lent : Rooms} {s' : List ℕ} {left : Rooms} {r : Reply}
      → Answered t s X values lent s' left r
      → members (fields_of r).events ≡ no_event
      → (fields_of r).lowest ≡ 1024
  pub none_refused : (why : Refusal) → ((fields_of (Err why)).lowest ≡ 1024) × ((fields_of (Err why)).waits.event ≡ 1024)
  pub none_waited : {t s : List ℕ} {X : Events} {values : Values} {lent : Rooms} {s' : List ℕ} {left : Rooms} {r : Answer}
      → (x : Run t s X values lent s' left r)
      → waited x.instant ≡ none
      → r.waits.event ≡ 1024
  -- "In a configuration record the kind byte of an event may be 0, 16, 32 or 48, adding 0, 256, 512 or 768 to the event number."
  pub records : (t : List ℕ) (j : ℕ)
      → number_of (verdict_of t) ≡ 0
      → j < configurations t
      → SomeEvent t (configuration_at t j) ⊎ PartedRecord t (configuration_at t j)
  -- "Tables of today read as they did.": the same tree, the same figures; an instant from the same state with the same events the same
  -- answer, whatever store that passes 25 is lent (L8)
  pub read_as_before : (t : List ℕ) {p : Program} {g a w : ℕ}
      → AcceptedBefore t p g a w
      → (verdict_of t ≡ accepted_with g a w 0) × (tree_of t ≡ p)
  pub answers_as_before : {t : List ℕ} {p : Program} {g a w : ℕ} {s : List ℕ} {X : Events} {values : Values}
      {lent : Rooms} {s' : List ℕ} {left : Rooms} {now : Reply}
      → AcceptedBefore t p g a w
      → HandedBefore X
      → store_good t lent.store ≡ true
      → Answered t s X values lent s' left now
      → (before : AnswerBefore) × AnsweredBefore p t a s X values lent.row s' left.row before × SameAnswer now before
