-- Which events a set's words mark as present.
use Rattle.std.specs.Prelude.{ℕ, ◌/◌, ◌%◌, ◌^◌, ◌<◌, ◌≡◌, List, length, get_or, eqb}
use Rattle.events.specs.Events.{Events}
use Rattle.events.specs.declared.EventSet.{EventSet}

-- the events that have a place in a set are those below this number
abbrev pub places : ℕ
places = 1024

-- event n is marked exactly if the binary digit n % 64 of word n / 64 is 1; past the last word none is
unfoldable pub marks : List ℕ → Events
marks words n = eqb (get_or words (n / 64) 0 / 2 ^ (n % 64) % 2) 1

-- the events that are present in a set
abbrev pub members : EventSet → Events
members s = marks s.words

-- what every set of a running program is: words for all the places, of 64 bits each
pub record Whole (s : EventSet) : Type 0 where
  pub long : length s.words ≡ places / 64
  pub fits : (q : ℕ) → get_or s.words q 0 < 2 ^ 64
