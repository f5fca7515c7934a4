-- Demand 2: "For an accepted table, a state at rest, listed events and enough room for actions, one instant gives exactly the event set, the
-- actions in order, the finished answer, the pass count and the next state that Junior's rewriting rules give, read as the requirements settle
-- them, left branch first." L8: "Demand 2 includes the store ..; demands 2 and 3 now presume a store that passes 25 and 13 as well".
use Rattle.std.specs.Prelude.{Ok, ℕ, ◌+◌, ◌*◌, ◌<◌, ◌≤◌, true, ◌≡◌, List, ◌++◌, length, take, drop}
use Rattle.std.proofs.Math.Option.{Option}
use Rattle.events.specs.Events.{Events, how_many, lowest}
use Rattle.events.specs.Members.{places, members}
use Rattle.junior.specs.declared.Flag.{Flag}
use Rattle.junior.specs.Values.{Values}
use Rattle.junior.specs.Configuration.{handed_in}
use Rattle.junior.specs.Term.{Term, prog}
use Rattle.junior.specs.Trace.{Piece, atoms, parks}
use Rattle.junior.specs.Rules.{left_first, Result}
use Rattle.junior.specs.Instant.{Instant}
use Rattle.junior.specs.Printed.{Abstract, reads, World, world, froze, Deed, actions, ◌⊢◌∣◌—[◌doing◌]—◌passes→◌∣◌}
use Rattle.junior.specs.AtRest.{AtRest}
use Rattle.junior.specs.Waited.{Wait, waited}
use Rattle.table.specs.Records.{nodes, events}
use Rattle.table.specs.Spells.{tree_of}
use Rattle.table.specs.Verdict.{accepted_with, verdict_of}
use Rattle.state.specs.StateBytes.{state_bytes}
use Rattle.state.specs.Resting.{blamed}
use Rattle.store.specs.Store.{in_use, store_good, store_room}
use Rattle.store.specs.Stored.{Holds}
use Rattle.kernel.specs.declared.Answer.{Answer}
use Rattle.kernel.specs.Answer.{Reply, Rooms, Bytes, ended, node_of, event_at}

-- what an instant is handed
pub record Premises (t s : List ℕ) (X : Events) (lent : Rooms) : Type 0 where
  -- "an accepted table", with the generations, atoms, nodes and parked bytes worked out at loading
  pub generations : ℕ
  pub most_atoms : ℕ
  pub weight : ℕ
  pub most_parked : ℕ
  pub accepted : verdict_of t ≡ accepted_with generations most_atoms weight most_parked
  -- "a state at rest": no node is to blame
  pub room : 4 * nodes t ≤ length s
  pub at_rest : blamed t s ≡ nodes t
  -- "listed events"
  pub listed : (e : ℕ) → X e ≡ true → e < events t
  -- "enough room for actions"
  pub row_room : most_atoms ≤ length lent.row
  -- "a store that passes 25 and 13"
  pub store_bytes : Bytes lent.store
  pub store_passes : store_good t lent.store ≡ true
  pub parking_room : most_parked ≤ store_room lent.store

-- the term at rest that stands in the state's bytes: no other of the table's program does
pub record TermInState (t s : List ℕ) (x : Term) : Type 0 where
  pub program : prog x ≡ tree_of t
  pub bytes : take (4 * nodes t) s ≡ state_bytes x
  pub at_rest : AtRest x
  pub only : (y : Term) → prog y ≡ tree_of t → take (4 * nodes t) s ≡ state_bytes y → y ≡ x

-- the answer and the rooms are what n passes that end with r give, the pieces l being in the store
pub record Gives (t s : List ℕ) (lent : Rooms) (l : List Piece) (s' : List ℕ) (left : Rooms) (a : Answer) (n : ℕ) (r : Result) : Type 0 where
  -- "exactly the event set", how many events are present and which is the lowest
  pub event_set : members a.events ≡ r.env.now
  pub event_count : a.count ≡ how_many places r.env.now
  pub event_lowest : a.lowest ≡ lowest places r.env.now
  -- "the actions in order"
  pub action_count : a.atoms ≡ length (atoms r.acts)
  pub actions : take a.atoms left.row ≡ atoms r.acts
  -- "the finished answer"
  pub finished : a.finished ≡ ended r.flag
  -- "the pass count"
  pub pass_count : a.passes ≡ n
  -- "the next state"
  pub next_state : take (4 * nodes t) s' ≡ state_bytes r.to
  -- "the rest of each room keeps its contents" (01)
  pub state_beyond : drop (4 * nodes t) s' ≡ drop (4 * nodes t) s
  pub row_beyond : drop a.atoms left.row ≡ drop a.atoms lent.row
  -- L8: the pieces parked stand behind those that were there, "oldest first", and nothing else in the store has changed
  pub next_store : Holds t left.store (l ++ parks r.acts)
  pub store_beyond : drop (2 + in_use left.store) left.store ≡ drop (2 + in_use left.store) lent.store
  pub store_length : length left.store ≡ length lent.store

-- L1: "Demand 2 covers both fields", the node and the event of the test that the instant reports
pub record Reports (a : Answer) (w : Option Wait) : Type 0 where
  pub node : a.waits.node ≡ node_of w
  pub event : a.waits.event ≡ event_at w

-- the answer and the rooms are what n passes by the rules as 000 prints them give: the flag α, doing l, and u in E. L1's fields aren't among
-- them: what 000's rules tell of a pass has no nodes.
pub record GivesPrinted (t s' row' : List ℕ) (a : Answer) (n : ℕ) (α : Flag) (l : List Deed) (u : Abstract) (E : World) : Type 0 where
  pub event_set : members a.events ≡ E.now
  pub actions_in_order : take a.atoms row' ≡ actions l
  pub finished : a.finished ≡ ended α
  pub pass_count : a.passes ≡ n
  -- "the next state": the term that stands in it reads as u
  pub next : Term
  pub next_stands : TermInState t s' next
  pub next_reads : reads next ≡ u

pub record Demand2 (t s : List ℕ) (X : Events) (value : Values) (lent : Rooms) (s' : List ℕ) (left : Rooms) (r : Reply) : Type 0 where
  -- "one instant": it isn't refused
  pub answer : Answer
  pub ran : r ≡ Ok answer
  pub term : Term
  pub stands : TermInState t s term
  -- the pieces that stand in the store
  pub pieces : List Piece
  pub holds : Holds t lent.store pieces
  -- "that Junior's rewriting rules give .. left branch first": by rules without rule 9
  pub there : (n : ℕ) × (r : Result) × Instant (left_first value) term (handed_in X) n r
  pub gives : {n : ℕ} {r : Result} → Instant (left_first value) term (handed_in X) n r → Gives t s lent pieces s' left answer n r
  pub reports : {n : ℕ} {r : Result} (i : Instant (left_first value) term (handed_in X) n r) → Reports answer (waited i)
  -- "Junior's rewriting rules .. read as the requirements settle them": by the rules as 000 prints them, too, there is an instant, and every
  -- instant gives this, whatever T the table of frozen instructions was before it
  pub printed_there : (T : ℕ → Abstract)
      → (n : ℕ) × (α : Flag) × (l : List Deed) × (u : Abstract) × (E : World)
      × (value ⊢ reads term ∣ world (handed_in X) T —[ α doing l ]— n passes→ u ∣ E)
  pub printed_gives : {T : ℕ → Abstract} {n : ℕ} {α : Flag} {l : List Deed} {u : Abstract} {E : World}
      → value ⊢ reads term ∣ world (handed_in X) T —[ α doing l ]— n passes→ u ∣ E
      → GivesPrinted t s' left.row answer n α l u E
      × ((r : Result) → Instant (left_first value) term (handed_in X) n r → E.frozen ≡ froze (parks r.acts) T)
