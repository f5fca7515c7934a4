-- The pieces that stand in a store (L8), said by what their bytes are: no reading of bytes is needed to say it.
use Rattle.std.specs.Prelude.{ℕ, ◌+◌, ◌≤◌, true, ◌≡◌, List, length, take, drop}
use Rattle.junior.specs.Term.{prog}
use Rattle.junior.specs.Trace.{Piece}
use Rattle.junior.specs.AtRest.{AtRest}
use Rattle.junior.specs.Parked.{All}
use Rattle.table.specs.Spells.{Spells}
use Rattle.state.specs.Pieces.{pieces_bytes}
use Rattle.store.specs.Store.{in_use, is_body}

-- x is a piece of the program in table t: its node is the body of a Freezable of its event, that body is its state's program, and it is at rest
pub record Belongs (t : List ℕ) (x : Piece) : Type 0 where
  pub body : is_body t x.event x.node ≡ true
  pub program : Spells t x.node (prog x.state)
  pub at_rest : AtRest x.state

-- the pieces l stand in the store s, "oldest first"
pub record Stored (t s : List ℕ) (l : List Piece) : Type 0 where
  pub begins : 2 ≤ length s
  pub all : 2 + in_use s ≤ length s
  pub bytes : take (in_use s) (drop 2 s) ≡ pieces_bytes l
  pub each : All (Belongs t) l

-- and no other list of pieces does
pub record Holds (t s : List ℕ) (l : List Piece) : Type 0 where
  pub stored : Stored t s l
  pub only : (k : List Piece) → Stored t s k → k ≡ l
