-- What reading a configuration asks and gives: leaves of the runner cite this file.
use Rattle.std.specs.Prelude.{ℕ, ◌+◌, ◌*◌, ◌≤◌, ◌/◌, max, Bool, ◌≡◌, List, length}
use Rattle.events.specs.Members.{places, marks}
use Rattle.junior.specs.declared.Verdict.{Verdict}
use Rattle.junior.specs.Configuration.{Config, Event, Not, And, Or, Env, test}
use Rattle.table.specs.Spells.{Configured, weight}

-- how many levels a configuration has: a lone event one
unfoldable pub height : Config → ℕ
height (Event s) = 1
height (Not c) = 1 + height c
height (And c d) = 1 + max (height c) (height d)
height (Or c d) = 1 + max (height c) (height d)

-- a configuration of at most 16 levels stands at byte c, within the table
abbrev pub ConfigurationAt : List ℕ → ℕ → Type 0
ConfigurationAt t c = (d : Config) × Configured t c d × (c + 4 * weight d ≤ length t) × (height d ≤ 16)

-- how many words mark the events
abbrev pub event_words : ℕ
event_words = places / 64

-- the environment of such words
abbrev pub environment : List ℕ → Bool → Bool → Env
environment words ended moved = record { now = marks words; eoi = ended; move = moved }

-- whatever configuration stands at byte c, it is read as r in the events of the words, whether or not something moved
abbrev pub ReadAs : List ℕ → ℕ → List ℕ → Bool → Verdict → Type 0
ReadAs t c words ended r =
    (d : Config) (moved : Bool) → Configured t c d → r ≡ test d (environment words ended moved)
