-- `table::reading::leave_unknown` meets its contract: the levels still there leave what all do.
use mathlib.Core.Path.{◌≡◌}
use mathlib.Core.List.{List}
use Rattle.table.specs.Inside.Levels.{Level, levelled, unsettled}
use Rattle.table.proofs.OpenLevels.{Leaves}
use Rattle.table.proofs.reading.leave_unknown.Given as goal

abbrev pub invariant-loop-levels : goal.invariant-loop-levels
invariant-loop-levels l = (o : List Level) → l.before ≡ levelled o → Leaves l.levels (unsettled o)

abbrev pub decreases-loop-levels : goal.decreases-loop-levels
decreases-loop-levels l = l.levels
