-- `table::reading::after_decided` meets its contract: the levels left, with the rank within, come to the same as all of them.
use mathlib.Core.List.{List}
use Rattle.table.specs.Inside.Levels.{Level, Open, Left, sat_rank}
use Rattle.table.proofs.reading.after_decided.Given as goal

abbrev pub invariant-loop-levels : goal.invariant-loop-levels
invariant-loop-levels l =
    (o : List Level) → Open l.table l.from l.before o → Left l.table l.from o (sat_rank l.first) l.at l.levels (sat_rank l.sat)

abbrev pub decreases-loop-levels : goal.decreases-loop-levels
decreases-loop-levels l = l.levels
