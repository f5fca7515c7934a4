-- The output lines of the listing program (01, "The listing program"), and what writing one leaves in a lent room.
use Rattle.std.specs.Prelude.{ℕ, zero, suc, ◌+◌, ◌*◌, ◌≤◌, ◌≡◌, Bool, cond, List, [], ◌∷◌, ◌++◌, map, length, drop, leb}
use Rattle.events.specs.Events.{Events}
use Rattle.events.specs.Members.{places}
use Rattle.letters.specs.Decimal.{decimal}
use Rattle.letters.specs.Text.{bytes, newline, space, comma, joined}

-- the first n events that are present, rising
unfoldable pub rising : ℕ → Events → List ℕ
rising zero X = []
rising (suc n) X = rising n X ++ cond (X n) (n ∷ []) []

-- a list: joined by commas, `-` if empty
unfoldable pub listed : List ℕ → List ℕ
listed [] = bytes "-"
listed (n ∷ l) = joined comma (map decimal (n ∷ l))

-- a line: its fields, one space between, and a newline
unfoldable pub line : List (List ℕ) → List ℕ
line fields = joined space fields ++ (newline ∷ [])

unfoldable pub ran_line : ℕ → ℕ → Bool → Events → List ℕ → List ℕ
ran_line number passes finished events atoms =
    line
    (decimal number
    ∷ decimal passes
    ∷ cond finished (bytes "TERM") (bytes "STOP")
    ∷ listed (rising places events)
    ∷ listed atoms
    ∷ [])

unfoldable pub bad_line : ℕ → List ℕ
bad_line number = line (decimal number ∷ bytes "bad-line" ∷ [])

unfoldable pub refused_line : ℕ → ℕ → ℕ → List ℕ
refused_line number refusal index = line (decimal number ∷ bytes "refused" ∷ decimal refusal ∷ decimal index ∷ [])

unfoldable pub table_refused_line : ℕ → ℕ → List ℕ
table_refused_line refusal index = line (bytes "table" ∷ bytes "refused" ∷ decimal refusal ∷ decimal index ∷ [])

-- a room for every line with n atoms (proofs/Room.antt): a number of 16 bits and the byte behind it take at most 6
abbrev pub enough : ℕ → ℕ
enough n = 6 * (n + (places + 10))

-- A room of at least `least` bytes then begins with the line, its other bytes are as before, and the line's length is answered.
-- A shorter room stays as it was, and 0 is answered.
pub record Written (least : ℕ) (text old new : List ℕ) (r : ℕ) : Type 0 where
  pub answer : r ≡ cond (leb least (length old)) (length text) 0
  pub room : new ≡ cond (leb least (length old)) (text ++ drop (length text) old) old
  pub short : r ≤ least
  pub within : r ≤ length old
