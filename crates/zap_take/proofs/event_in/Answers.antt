-- `event_in` is safe: numbers told apart by spaces are read in decimal.
use Rattle.std.proofs.Common.{refl}
use Rattle.letters.specs.Decimal.{figure}
use Rattle.zap_take.proofs.event_in.Goals as goal

-- let events = read_events(line, b' ')?;
pub read_events-requires : goal.read_events-requires
unfolding figure
read_events-requires c = refl
