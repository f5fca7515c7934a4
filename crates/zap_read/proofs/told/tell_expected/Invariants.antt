-- `tell_expected` meets its contract: only byte k is written.
use Rattle.std.proofs.Common.{◌≡◌, ◌-◌, ◌≤◌, length}
use Rattle.zap_read.specs.Told.{OthersKept}
use Rattle.zap_read.proofs.told.tell_expected.Given as goal

abbrev pub invariant-loop-b : goal.invariant-loop-b
invariant-loop-b g l = (l.b ≤ 127) × (length l.text ≡ length l.initial.text) × OthersKept l.k l.initial.text l.text

abbrev pub decreases-loop-b : goal.decreases-loop-b
decreases-loop-b g l = 127 - l.b
