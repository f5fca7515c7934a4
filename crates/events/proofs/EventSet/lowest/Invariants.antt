-- `EventSet::lowest` meets its contract: no event in the words before word `at` is present.
use mathlib.Core.Path.{◌≡◌}
use mathlib.Core.Bool.{false}
use Prim.Native.Nat.{ℕ, ◌*◌, ◌<◌}
use Rattle.events.specs.Members.{members}
use Rattle.events.proofs.EventSet.lowest.Given as goal

abbrev pub invariant-loop-at : goal.invariant-loop-at
invariant-loop-at l = (n : ℕ) → n < 64 * l.at → members l.fn.self n ≡ false
