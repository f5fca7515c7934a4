-- How far an instant has come: what the laws call its event words and its tally, what it must hold, and how it goes on.
use Rattle.std.specs.Prelude.{ℕ, ◌*◌, Bool, false, not, ◌≡◌, List, [], ◌∷◌, length, get_or}
use mir.Val.{bool_byte}
use Rattle.events.specs.Events.{put}
use Rattle.events.specs.Members.{marks}
use Rattle.table.specs.Records.{nodes}
use Rattle.table.specs.Reading.{event_words}
use Rattle.steps.specs.declared.progress.Progress.{Progress}

-- its event words
abbrev pub words_of : Progress → List ℕ
words_of m = m.events.words

-- its tally: atoms done, moved, ended, bytes parked, the values
abbrev pub tally_of : Progress → List ℕ
tally_of m =
    m.done ∷ bool_byte m.moved ∷ bool_byte m.ended ∷ m.parked ∷ get_or m.values 0 0 ∷ get_or m.values 1 0 ∷ []

-- what it must hold: words for all places, and the byte where the table's configurations begin
pub record Holds (table : List ℕ) (m : Progress) : Type 0 where
  pub long : length (words_of m) ≡ event_words
  pub base : m.base ≡ 6 * nodes table

-- what a run leaves of it
pub record Kept (m m' : Progress) : Type 0 where
  pub long : length (words_of m') ≡ length (words_of m)
  pub ended : m'.ended ≡ m.ended
  pub base : m'.base ≡ m.base

-- event e is marked in the words, or its mark is taken away, and nothing else is changed
pub record Put (e : ℕ) (present : Bool) (m m' : Progress) : Type 0 where
  pub events : marks (words_of m') ≡ put e present (marks (words_of m))
  pub wide : length (words_of m') ≡ length (words_of m)
  pub tally : tally_of m' ≡ tally_of m
  pub kept : Kept m m'

-- between two passes: the end is declared if nothing moved, and move is false again
abbrev pub next_progress : Progress → Progress
next_progress m = record m { ended = not m.moved; moved = false }
