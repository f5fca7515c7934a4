-- What a writer does to its room.
use Rattle.std.specs.Prelude.{ℕ, ◌+◌, ◌≤◌, ◌≡◌, List, length}
use Rattle.letters.specs.Rooms.{Puts}
use Rattle.letters.specs.declared.Writer.{Writer}

-- so many bytes more have room
abbrev pub HasRoom : Writer → ℕ → Type 0
HasRoom w n = w.at + n ≤ length w.room.now

-- What is written stands behind what was, in the same room.
pub record Writes (old new : Writer) (text : List ℕ) : Type 0 where
  pub same_room : new.room.ghost_name ≡ old.room.ghost_name
  pub long : length new.room.now ≡ length old.room.now
  pub puts : Puts old.room.now new.room.now old.at text new.at
