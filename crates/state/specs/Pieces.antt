-- Parked pieces as bytes (L8): "A parked piece goes into a lent store: event (16), body's node (16), then four state bytes for each node of the
-- body"; "the pieces follow, oldest first".
use Rattle.std.specs.Prelude.{ℕ, ◌/◌, ◌%◌, List, [], ◌∷◌, ◌++◌}
use Rattle.junior.specs.Trace.{Piece}
use Rattle.state.specs.StateBytes.{state_bytes}

abbrev pub piece_bytes : Piece → List ℕ
piece_bytes x = x.event / 256 ∷ x.event % 256 ∷ x.node / 256 ∷ x.node % 256 ∷ state_bytes x.state

-- one behind the other
unfoldable pub pieces_bytes : List Piece → List ℕ
pieces_bytes [] = []
pieces_bytes (x ∷ l) = piece_bytes x ++ pieces_bytes l
