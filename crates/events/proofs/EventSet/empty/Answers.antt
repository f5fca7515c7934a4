-- `EventSet::empty` meets its contract: words that are all 0 mark nothing.
use Prim.Native.Nat.{◌/◌}
use Rattle.events.specs.Members.{places}
use Rattle.events.proofs.Words.{marks_zeros}
use Rattle.events.proofs.EventSet.empty.Goals as goal

pub returns : goal.returns
returns c = marks_zeros (places / 64)
