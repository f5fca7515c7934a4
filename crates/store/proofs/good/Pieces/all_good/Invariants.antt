-- The pieces still to look at say whether all are good.
use Prim.Native.Nat.{◌-◌, ◌≤◌}
use Rattle.store.specs.Inside.{Spared}
use Rattle.store.proofs.Turns.{Still}
use Rattle.store.proofs.good.Pieces.all_good.Given as goal

abbrev pub invariant-loop-at : goal.invariant-loop-at
invariant-loop-at l = (l.at ≤ l.self.end) × Still l.self.table.now l.self.store.now l.self.end l.at × Spared l.self.table.now l.ways

abbrev pub decreases-loop-at : goal.decreases-loop-at
decreases-loop-at l = l.self.end - l.at
