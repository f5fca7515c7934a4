-- Texts that are put into a lent room.
use Rattle.std.specs.Prelude.{ℕ, ◌+◌, ◌≡◌, List, length}
use Rattle.std.proofs.lemmas.List.Edits.{sets}

-- the text was put at `at`, as far as there is room, and r is the place behind it
pub record Puts (old new : List ℕ) (at : ℕ) (text : List ℕ) (r : ℕ) : Type 0 where
  pub next : r ≡ at + length text
  pub room : new ≡ sets old at text
