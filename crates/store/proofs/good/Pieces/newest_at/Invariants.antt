-- The pieces still to look at, and the one found, say which is the newest.
use Prim.Native.Nat.{◌-◌, ◌≤◌, ◌<◌}
use Rattle.store.proofs.Turns.{Seeking, place, Behind0}
use Rattle.store.proofs.good.Pieces.newest_at.Given as goal

abbrev pub invariant-loop-at : goal.invariant-loop-at
invariant-loop-at l = (l.at ≤ l.self.end) × Seeking l.self.table.now l.self.store.now l.event l.self.end l.at (place l.found) × (0 < l.at) × Behind0 l.found

abbrev pub decreases-loop-at : goal.decreases-loop-at
decreases-loop-at l = l.self.end - l.at
