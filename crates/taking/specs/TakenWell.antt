-- What is taken is the newest piece of its event; it "leaves as a table .. and a state that document 01 accepts"; the other pieces stay in their
-- order, "and that room serves again".
use Rattle.std.specs.Prelude.{ℕ, ◌+◌, ◌≤◌, ◌<◌, true, ◌≡◌, ◌≢◌, Ok, List, ◌∷◌, ◌++◌, take}
use Rattle.junior.specs.Program.{Program}
use Rattle.junior.specs.Term.{Term, prog}
use Rattle.junior.specs.Trace.{Piece}
use Rattle.junior.specs.AtRest.{AtRest}
use Rattle.junior.specs.Parked.{All, stored_length}
use Rattle.junior.specs.Figures.{figure, G, A, W, F}
use Rattle.table.specs.Records.{byte, nodes, events}
use Rattle.table.specs.Spells.{tree_of}
use Rattle.table.specs.Verdict.{accepted_with, verdict_of}
use Rattle.state.specs.StateBytes.{state_bytes}
use Rattle.state.specs.Resting.{blamed}
use Rattle.store.specs.Store.{store_good, store_room}
use Rattle.store.specs.Stored.{Stored}
use Rattle.taking.specs.declared.Taken.{Taken}
use Rattle.taking.specs.Taking.{Took}

-- as the bytes of a running program are
abbrev pub Bytes : List ℕ → Type 0
Bytes l = (i : ℕ) → byte l i < 256

-- x is the newest piece of event e in the store: older ones stand before it, and none of e behind it
pub record Newest (t s : List ℕ) (e : ℕ) (older : List Piece) (x : Piece) (newer : List Piece) : Type 0 where
  pub stood : Stored t s (older ++ (x ∷ newer))
  pub its_event : x.event ≡ e
  pub no_newer : All (λ y. y.event ≢ e) newer

-- "a table .. and a state that document 01 accepts": that of the term x, which an instant goes on with by x's own rules, since no other stands there
pub record Accepts (table state : List ℕ) (x : Term) : Type 0 where
  pub tree : tree_of table ≡ prog x
  pub accepted : verdict_of table ≡ accepted_with (G (prog x)) (A (prog x)) (W (prog x)) (F (prog x))
  pub state_is : state ≡ state_bytes x
  pub at_rest : AtRest x
  pub none_blamed : blamed table state ≡ nodes table
  pub no_other : (y : Term) → prog y ≡ tree_of table → state ≡ state_bytes y → y ≡ x

-- a piece was taken from the store s of table t; `table` and `state` are what was written of each room
pub record TakenWell (t s : List ℕ) (e : ℕ) (s' table state : List ℕ) : Type 0 where
  pub older : List Piece
  pub piece : Piece
  pub newer : List Piece
  pub newest : Newest t s e older piece newer
  -- the store that stays: its pieces, that it passes 25, its room
  pub stays : Stored t s' (older ++ newer)
  pub good_again : store_good t s' ≡ true
  pub room_again : store_room s' ≡ store_room s + stored_length piece
  -- what leaves, of the same V, and no figure of it above the whole table's
  pub accepts : Accepts table state piece.state
  pub same_events : events table ≡ events t
  pub no_heavier : (weight : Program → ℕ) → figure weight (tree_of table) ≤ figure weight (tree_of t)

-- of every taking that the contract allows
pub record TakesWell : Type 0 where
  pub well : {t s : List ℕ} {e : ℕ} {tableRoom stateRoom s' tableRoom' stateRoom' : List ℕ} {r : Taken}
      → Bytes s
      → Took t s e tableRoom stateRoom s' tableRoom' stateRoom' (Ok r)
      → TakenWell t s e s' (take r.table tableRoom') (take r.state stateRoom')
