-- `lowest_in` meets its contract: no event of the words before word `at` is marked.
use Prim.Native.Nat.{◌*◌, ◌≤◌}
use Rattle.kernel.proofs.Unlisted.{Unmarked}
use Rattle.kernel.proofs.lowest_in.Given as goal

abbrev pub invariant-loop-at : goal.invariant-loop-at
invariant-loop-at l = (64 * l.from ≤ 64 * l.at) × Unmarked l.words (64 * l.from) (64 * l.at)
