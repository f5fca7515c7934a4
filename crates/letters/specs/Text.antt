-- Texts as lists of bytes, and how they are joined.
use Prim.Native.Char.{code}
use Prim.Native.String.{String, [] as []ˢ, ◌∷◌ as ◌∷ˢ◌}
use Rattle.std.specs.Prelude.{ℕ, List, [], ◌∷◌, ◌++◌, length, drop}

abbrev pub bytes : String → List ℕ
bytes []ˢ = []
bytes (c ∷ˢ s) = code c ∷ bytes s

abbrev pub newline : ℕ
newline = 10

abbrev pub space : ℕ
space = 32

abbrev pub comma : ℕ
comma = 44

-- the texts, a byte c before each
unfoldable pub led : ℕ → List (List ℕ) → List ℕ
led c [] = []
led c (w ∷ l) = c ∷ (w ++ led c l)

-- the texts, one byte c between
unfoldable pub joined : ℕ → List (List ℕ) → List ℕ
joined c [] = []
joined c (w ∷ l) = w ++ led c l

-- a room that begins with this, its other bytes as before
abbrev pub beginning : List ℕ → List ℕ → List ℕ
beginning w room = w ++ drop (length w) room
