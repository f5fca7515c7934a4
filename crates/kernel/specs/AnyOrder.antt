-- L6 of the running code: "For an accepted table, a state at rest and given events, let each Par, in each pass where both branches are
-- suspended, run either branch first": what `instant` answered is what every such choice gives. On demand 2's premises.
use Rattle.std.specs.Prelude.{Ok, ℕ, ◌*◌, ◌≡◌, List, ◌++◌, take}
use Rattle.events.specs.Events.{Events}
use Rattle.events.specs.Members.{members}
use Rattle.junior.specs.Values.{Values}
use Rattle.junior.specs.Configuration.{handed_in}
use Rattle.junior.specs.Term.{Term}
use Rattle.junior.specs.Trace.{Piece, atoms, parks}
use Rattle.junior.specs.Parked.{together}
use Rattle.junior.specs.Rules.{either_first, Result}
use Rattle.junior.specs.Instant.{Instant}
use Rattle.junior.specs.Waited.{waited}
use Rattle.junior.specs.Order.{often, OrderFree}
use Rattle.table.specs.Records.{nodes}
use Rattle.state.specs.StateBytes.{state_bytes}
use Rattle.store.specs.Stored.{Holds}
use Rattle.kernel.specs.declared.Answer.{Answer}
use Rattle.kernel.specs.Answer.{Reply, Rooms, ended}
use Rattle.kernel.specs.Demand2.{TermInState, Reports}

-- "event set, finished answer and end state are the same for all choices, and .. each atom occurs equally often"; L8: of the store "L6 not its order"
pub record GivesInAnyOrder (t : List ℕ) (l : List Piece) (s' : List ℕ) (left : Rooms) (a : Answer) (r : Result) : Type 0 where
  pub event_set : members a.events ≡ r.env.now
  pub finished : a.finished ≡ ended r.flag
  pub end_state : take (4 * nodes t) s' ≡ state_bytes r.to
  pub equally_often : (n : ℕ) → often n (take a.atoms left.row) ≡ often n (atoms r.acts)
  -- behind the pieces l that were there stand the same pieces but for their order: whatever each weighs, they weigh the same together
  pub parked : List Piece
  pub next_store : Holds t left.store (l ++ parked)
  pub same_pieces : (weight : Piece → ℕ) → together weight parked ≡ together weight (parks r.acts)

pub record AnyOrder (t s : List ℕ) (X : Events) (value : Values) (lent : Rooms) (s' : List ℕ) (left : Rooms) (r : Reply) : Type 0 where
  pub answer : Answer
  pub ran : r ≡ Ok answer
  pub term : Term
  pub stands : TermInState t s term
  pub pieces : List Piece
  pub holds : Holds t lent.store pieces
  -- the choices: each goes on to an end, and they all agree
  pub order_free : OrderFree value term X
  -- and what they agree in is the answer
  pub gives : {n : ℕ} {r : Result} → Instant (either_first value) term (handed_in X) n r → GivesInAnyOrder t pieces s' left answer r
  -- more than was asked: also in the two fields of L1
  pub reports : {n : ℕ} {r : Result} (i : Instant (either_first value) term (handed_in X) n r) → Reports answer (waited i)
