-- `table::nodes::place` meets its contract: a head that is no kind's number is bad.
use mathlib.Core.Bool.{false≢true}
use mathlib.Core.Path.{sym, ◌∙◌}
use Rattle.table.proofs.Judged.{not_good}
use Rattle.table.proofs.nodes.place.Goals as goal

-- return None;
pub returns-in_default : goal.returns-in_default
returns-in_default c good =
    let bad = not_good _ _ (rw c.head_at.ensures.0 at c.in_default.ensures.1) in
    absurd (false≢true (sym bad ∙ good))
