-- `table::configurations::low` meets its contract: the record at hand and what is to come along the way decide the whole.
use Prim.Native.Nat.{ℕ, ◌+◌, ◌-◌, ◌*◌}
use lib.ListN.{length}
use Rattle.table.specs.Inside.{Begins}
use Rattle.table.proofs.LowWays.{Looking}
use Rattle.table.proofs.configurations.low.Given as goal

abbrev pub invariant-loop-next : goal.invariant-loop-next
invariant-loop-next l = (j : ℕ) → Begins l.table l.c j → Looking l.table j l.at l.way

-- each record is passed once, or a part of size 0 closes a step of the way
abbrev pub decreases-loop-next : goal.decreases-loop-next
decreases-loop-next l = 65536 * (length l.table - l.at) + l.way
