-- What looking for an event that the table doesn't list gives. No contract of a customer's call cites this file.
use Rattle.std.specs.Prelude.{ℕ, ◌<◌, ◌≡◌, ◌&&◌, List, [], ◌∷◌, leb, MatchOption}
use Rattle.std.proofs.Common.{Option}
use Rattle.std.specs.Int.Bits.{bit_or}
use Rattle.events.specs.Events.{lowest}
use Rattle.events.specs.Members.{places, marks}

-- the lowest event from v on that the words mark; `places` if none is
abbrev pub lowest_from : List ℕ → ℕ → ℕ
lowest_from words v = lowest places (λ e. marks words e && leb v e)

-- r is that event, or there is none
abbrev pub Found : List ℕ → ℕ → Option ℕ → Type 0
Found words v r = MatchOption r (lowest_from words v ≡ places) (λ e. (e ≡ lowest_from words v) × (e < places))

-- words joined by `|`, w with them
unfoldable pub joined : ℕ → List ℕ → ℕ
joined w [] = w
joined w (x ∷ words) = joined (bit_or w x) words
