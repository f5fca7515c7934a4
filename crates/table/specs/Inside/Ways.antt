-- Passing through the configurations from first to last.
use Rattle.std.specs.Prelude.{ℕ, ◌+◌, ◌*◌, Bool, true, false, List, [], ◌∷◌}

-- the way down from an outermost configuration to one of its parts, the last step first: is a second part still to come there?
abbrev pub Way : Type 0
Way = List Bool

-- behind a lone event comes the innermost second part still to come, or the next outermost configuration
unfoldable pub outward : Way → Way
outward [] = []
outward (true ∷ w) = false ∷ w
outward (false ∷ w) = outward w

-- a way as a number: its steps as binary digits behind a leading 1
unfoldable pub numbered : Way → ℕ
numbered [] = 1
numbered (false ∷ w) = 2 * numbered w
numbered (true ∷ w) = 2 * numbered w + 1
