-- `table::reading::event_verdict` meets its contract.
use mathlib.Core.Path.{sym, ◌∙◌}
use Rattle.table.proofs.reading.event_verdict.Goals as goal

pub returns-then-marked : goal.returns-then-marked
returns-then-marked c = rw (sym c.marked.ensures ∙ c.if-marked.true)

pub returns : goal.returns
returns c = rw (sym c.marked.ensures ∙ c.if-marked.false)
