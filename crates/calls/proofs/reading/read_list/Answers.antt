-- `read_list` meets its contract: no event, or what `read_events` reads.
use mathlib.Core.Path.{refl, sym, ◌∙◌}
use Rattle.letters.specs.Decimal.{figure}
use Rattle.calls.proofs.Words.{no_event, list_by}
use Rattle.calls.proofs.reading.read_list.Goals as goal

pub returns-then-is_dash : goal.returns-then-is_dash
returns-then-is_dash c = rw c.empty.ensures (no_event c.args.text.now (sym c.is_dash.ensures ∙ c.if-is_dash.true))

-- listing::read_events(text, b',')
pub read_events-requires : goal.read_events-requires
unfolding figure
read_events-requires c = refl

pub returns : goal.returns
returns c = list_by c.args.text.now (sym c.is_dash.ensures ∙ c.if-is_dash.false) c.read_events.result c.read_events.ensures
