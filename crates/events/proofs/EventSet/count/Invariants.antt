-- `EventSet::count` meets its contract: `n` counts the events in the words before the word at hand.
use mathlib.Core.Path.{◌≡◌}
use Prim.Native.Nat.{◌*◌}
use Rattle.events.specs.Events.{how_many}
use Rattle.events.specs.Members.{members}
use Rattle.events.proofs.EventSet.count.Given as goal

abbrev pub invariant-loop-word : goal.invariant-loop-word
invariant-loop-word l = l.n ≡ how_many (64 * l.word-index) (members l.fn.self)
