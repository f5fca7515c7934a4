-- `around` meets its contract.
use Prim.Native.Nat.{◌+◌, ◌≤◌}
use mathlib.Core.Path.{◌≡◌}
use Rattle.scanner.specs.Levels.{back, around}
use Rattle.scanner.proofs.levels.around.Given as goal

abbrev pub invariant-loop-at : goal.invariant-loop-at
invariant-loop-at l = (l.closed + l.at ≤ l.from) × (l.spaces + l.at ≤ l.from) × (around l.text l.from ≡ back l.text l.at l.closed l.spaces)
