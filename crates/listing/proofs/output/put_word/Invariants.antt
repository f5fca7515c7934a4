-- `put_word` meets its contract: the events below the lowest digit that is left are written, and the digits from there on are still the word's.
use mathlib.Core.Path.{◌≡◌}
use mathlib.Core.List.{[], ◌∷◌, map}
use Prim.Native.Nat.{ℕ, ◌+◌, ◌-◌, ◌*◌, ◌^◌, ◌≤◌, ◌<◌}
use Rattle.events.specs.Members.{marks}
use Rattle.events.proofs.Bits.{digits}
use Rattle.listing.specs.Output.{rising}
use Rattle.letters.specs.Writing.{Writes}
use Rattle.listing.specs.Inside.{items}
use Rattle.listing.proofs.Rising.{low}
use Rattle.listing.proofs.output.put_word.Given as goal

abbrev pub invariant-loop-left : goal.invariant-loop-left
invariant-loop-left l = (l.left < 2 ^ 64)
    × (l.out.at ≤ l.initial.out.at + 6 * low l.left)
    × Writes l.initial.out l.out (items (map (λ n. l.base + n) (rising (low l.left) (marks (l.word ∷ [])))))
    × ((j : ℕ) → low l.left ≤ j → j < 64 → digits l.left j ≡ marks (l.word ∷ []) j)

abbrev pub decreases-loop-left : goal.decreases-loop-left
decreases-loop-left l = 64 - low l.left
