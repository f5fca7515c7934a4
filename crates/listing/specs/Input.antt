-- An input line of the listing program (01, "The listing program"): which events it hands in, or that it is bad.
use Rattle.std.specs.Prelude.{ℕ, ◌≤◌, ◌<◌, ◌≡◌, Bool, true, false, List, [], ◌∷◌, map, length}
use Rattle.events.specs.Events.{Events, none, put}
use Rattle.events.specs.Members.{places}
use Rattle.letters.specs.Decimal.{decimal}
use Rattle.letters.specs.Text.{space, joined}

-- all numbers of the list are below b
abbrev pub Under : ℕ → List ℕ → Type 0
Under b [] = Unit {0}
Under b (n ∷ l) = (n < b) × Under b l

-- the longest line that can be good has so many bytes
abbrev pub longest : ℕ
longest = 4096

-- the form: event numbers in decimal without leading zeros, one space between. An empty line names none
pub record Names (line events : List ℕ) : Type 0 where
  pub spelled : line ≡ joined space (map decimal events)
  pub below : Under places events
  pub short : length line ≤ longest

-- X with every event of the list, one that is repeated counting once
unfoldable pub with_all : List ℕ → Events → Events
with_all [] X = X
with_all (e ∷ l) X = with_all l (put e true X)

-- what a line is read as: whether it has the form, and the events that it hands in
pub data Reading (line : List ℕ) : Bool → Events → Type 0 where
  good_line : (events : List ℕ) → Names line events → Reading line true (with_all events none)
  not_good_line : ((events : List ℕ) → Names line events → ⊥) → Reading line false none
