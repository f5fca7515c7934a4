-- `table::reading::verdict_at` meets its contract: what is open around the part at byte `at` makes of its rank that of the whole.
use Prim.Native.Nat.{◌-◌}
use lib.ListN.{length}
use Rattle.table.specs.Inside.Ranks.{rank}
use Rattle.table.proofs.Within.{Reading}
use Rattle.table.proofs.reading.verdict_at.Given as goal

abbrev pub invariant-loop-present : goal.invariant-loop-present
invariant-loop-present l = Reading l.table l.c l.words (rank l.absent) l.at l.levels

abbrev pub decreases-loop-present : goal.decreases-loop-present
decreases-loop-present l = length l.table - l.at
