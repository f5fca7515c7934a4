-- What start and instant answer, and what they leave in the lent rooms (01, "Refusal numbers" and "Rules of a pass").
use Rattle.std.specs.Prelude.{ℕ, ◌*◌, ◌/◌, ◌<◌, Bool, true, false, cond, ◌&&◌, ◌≡◌, List, ◌++◌, length, get_or, take, drop, replicate, leb, ltb}
use Rattle.std.specs.Prelude.{Result as RustResult, Ok, Err, MatchResult}
use Rattle.std.proofs.Math.Option.{Option, none, some}
use Rattle.events.specs.Events.{Events, how_many, lowest}
use Rattle.events.specs.Members.{places, members}
use Rattle.junior.specs.declared.Flag.{Flag}
use Rattle.junior.specs.declared.Flag.TheVariants.{SUSP, STOP, TERM}
use Rattle.junior.specs.Values.{Values}
use Rattle.junior.specs.Configuration.{handed_in}
use Rattle.junior.specs.Term.{Term, prog}
use Rattle.junior.specs.Trace.{atoms, parks}
use Rattle.junior.specs.Rules.{left_first, Result}
use Rattle.junior.specs.Instant.{Instant}
use Rattle.junior.specs.AtRest.{AtRest}
use Rattle.junior.specs.Waited.{Wait, waited}
use Rattle.table.specs.Records.{nodes, events}
use Rattle.table.specs.Spells.{tree_of}
use Rattle.table.specs.Verdict.{Verdict, refusal_number, refusal_index, verdict_of, ending, numbered_by}
use Rattle.state.specs.StateBytes.{state_bytes}
use Rattle.state.specs.Pieces.{pieces_bytes}
use Rattle.state.specs.Resting.{blamed}
use Rattle.store.specs.Store.{store_good, store_room, adding}
use Rattle.kernel.specs.declared.Refusal.{Refusal}
use Rattle.kernel.specs.declared.Refusal.TheVariants.{Table, StateRoom, NotAtRest, UnlistedEvent}
use Rattle.kernel.specs.declared.Refusal.TheVariants.{AtomRoom, BadStore, StoreRoom}
use Rattle.kernel.specs.declared.Answer.{Answer}

-- how a call ended, and what an instant answers: Rust's Result, and not the rules'
abbrev pub Outcome : Type 0
Outcome = RustResult (Unit {0}) Refusal

abbrev pub Reply : Type 0
Reply = RustResult Answer Refusal

-- this paper's number and index of each refusal
abbrev pub call_number : Refusal → ℕ
call_number (Table why) = refusal_number why
call_number StateRoom = 9
call_number (NotAtRest i) = 10
call_number (UnlistedEvent e) = 11
call_number AtomRoom = 12
call_number BadStore = 25
call_number StoreRoom = 13

abbrev pub call_index : Refusal → ℕ
call_index (Table why) = refusal_index why
call_index StateRoom = 0
call_index (NotAtRest i) = i
call_index (UnlistedEvent e) = e
call_index AtomRoom = 0
call_index BadStore = 0
call_index StoreRoom = 0

-- and of how a call ended: "Success is number 0, index 0"
abbrev pub outcome_number : {T : Type 0} → RustResult T Refusal → ℕ
outcome_number r = numbered_by call_number r

abbrev pub outcome_index : {T : Type 0} → RustResult T Refusal → ℕ
outcome_index r = numbered_by call_index r

-- a refused table is the outcome; an accepted one, with A atoms and F bytes of parked pieces at most, goes on
abbrev pub on_accepted : Verdict → (ℕ → ℕ → Outcome) → Outcome
on_accepted (Ok figures) go = go figures.atoms figures.parked
on_accepted (Err why) go = Err (Table why)

-- 9: the state room
abbrev pub has_room : List ℕ → List ℕ → Bool
has_room t s = leb (4 * nodes t) (length s)

-- start meets 1 to 9
unfoldable pub start_outcome : List ℕ → List ℕ → Outcome
start_outcome t s = on_accepted (verdict_of t) (λ a f. cond (has_room t s) (Ok tt) (Err StateRoom))

-- 11: the lowest event handed in at or above V; `places` if none is
abbrev pub unlisted : List ℕ → Events → ℕ
unlisted t X = lowest places (λ e. X e && leb (events t) e)

-- the rooms that an instant writes into beside the state: the row of atoms, and the store of parked pieces (L8)
pub record Rooms : Type 0 where
  pub row : List ℕ
  pub store : List ℕ

abbrev pub rooms : List ℕ → List ℕ → Rooms
rooms row store = record { row = row; store = store }

-- what stands in a room of bytes, as any running program has it
abbrev pub Bytes : List ℕ → Type 0
Bytes s = (i : ℕ) → get_or s i 0 < 256

-- 25, "after 12", then 13, "exactly when the store's length, at most 65,537 of it, less 2 and all pieces is below F"
unfoldable pub store_outcome : List ℕ → List ℕ → ℕ → Outcome
store_outcome t store f = cond (store_good t store) (cond (leb f (store_room store)) (Ok tt) (Err StoreRoom)) (Err BadStore)

-- an instant meets 1 to 12, 25, 13
unfoldable pub instant_outcome : List ℕ → List ℕ → Events → Rooms → Outcome
instant_outcome t s X lent =
    on_accepted (verdict_of t) (λ a f.
    cond
    (has_room t s)
    (cond
    (ltb (blamed t s) (nodes t))
    (Err (NotAtRest (blamed t s)))
    (cond
    (ltb (unlisted t X) places)
    (Err (UnlistedEvent (unlisted t X)))
    (cond (leb a (length lent.row)) (store_outcome t lent.store f) (Err AtomRoom))))
    (Err StateRoom))

-- the state room after a start: fresh, and past 4N bytes as it was
unfoldable pub started_room : Outcome → List ℕ → List ℕ → List ℕ
started_room (Ok done) t s = replicate (4 * nodes t) 0 ++ drop (4 * nodes t) s
started_room (Err why) t s = s

-- the whole of what start answers
pub record Started (t s s' : List ℕ) (r : Outcome) : Type 0 where
  pub outcome_is : r ≡ start_outcome t s
  pub room_is : s' ≡ started_room r t s

abbrev pub ended : Flag → Bool
ended SUSP = false
ended STOP = false
ended TERM = true

-- the test and the event that an instant's answer names: "node 4,096 and event 256 if the end was never declared" (L1), and "'none' becomes 1,024" (L10)
abbrev pub node_of : Option Wait → ℕ
node_of none = 4096
node_of (some w) = w.node

abbrev pub event_at : Option Wait → ℕ
event_at none = places
event_at (some w) = w.event

-- the sixteen values that the box hands in with an instant, one a byte (L14)
abbrev pub values_of : List ℕ → Values
values_of bytes v = cond (ltb v 16) (get_or bytes v 0) 0

-- an instant was run: the term that stands in the state's bytes, the instant that the rules give it, and all of it in the answer and the rooms
pub record Run (t s : List ℕ) (X : Events) (value : Values) (lent : Rooms) (s' : List ℕ) (left : Rooms) (r : Answer) : Type 0 where
  pub term : Term
  pub program : prog term ≡ tree_of t
  pub bytes : take (4 * nodes t) s ≡ state_bytes term
  pub at_rest : AtRest term
  pub result : Result
  pub instant : Instant (left_first value) term (handed_in X) r.passes result
  pub events_are : members r.events ≡ result.env.now
  pub count_is : r.count ≡ how_many places result.env.now
  pub lowest_is : r.lowest ≡ lowest places result.env.now
  pub atoms_are : r.atoms ≡ length (atoms result.acts)
  pub finished_is : r.finished ≡ ended result.flag
  pub waits_node_is : r.waits.node ≡ node_of (waited instant)
  pub waits_event_is : r.waits.event ≡ event_at (waited instant)
  pub state_is : s' ≡ state_bytes result.to ++ drop (4 * nodes t) s
  pub row_is : left.row ≡ atoms result.acts ++ drop r.atoms lent.row
  -- "A parked piece goes into a lent store", behind those that are there
  pub store_is : left.store ≡ adding (pieces_bytes (parks result.acts)) lent.store

-- what stands for the answer of an instant that was refused: every field 0 or false, the set empty, `places` for the lowest; of L1, "node 4,096
-- and event 256 if .. the call refused", with L10's none
abbrev pub no_answer : Answer
no_answer = record {
  events = record { words = replicate (places / 64) 0 };
  count = 0;
  lowest = places;
  atoms = 0;
  finished = false;
  passes = 0;
  waits = record { node = 4096; event = places };
}

abbrev pub fields_of : Reply → Answer
fields_of (Ok answer) = answer
fields_of (Err why) = no_answer

-- the whole of what an instant answers, and what it leaves: refused, it writes nothing
pub record Answered (t s : List ℕ) (X : Events) (value : Values) (lent : Rooms) (s' : List ℕ) (left : Rooms) (r : Reply) : Type 0 where
  pub outcome_is : ending r ≡ instant_outcome t s X lent
  pub leaves : MatchResult r (λ a. Run t s X value lent s' left a) (λ why. (s' ≡ s) × (left ≡ lent))
