-- `read_words` meets its contract: numbers are told apart by spaces.
use mathlib.Core.Path.{refl}
use Rattle.letters.specs.Decimal.{figure}
use Rattle.call_lines.proofs.take.read_words.Goals as goal

-- let events = read_events(event_word, b' ')?;
pub read_events-requires : goal.read_events-requires
unfolding figure
read_events-requires c = refl
