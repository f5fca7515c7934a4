-- `table::configurations::good` meets its contract.
use mathlib.Core.Path.{sym, ◌∙◌}
use Rattle.table.proofs.Heights.{lone_good, not_good, good_low}
use Rattle.table.proofs.configurations.good.Goals as goal

pub returns-then-lone : goal.returns-then-lone
returns-then-lone c j b = sym (lone_good _ _ j b (sym (c.lone.ensures j b) ∙ c.if-lone.true))

-- Some(_) => low(table, c),
pub returns-in-Some : goal.returns-in-Some
returns-in-Some c j b =
    let some = c.in-Some.ensures j b in
    c.low.ensures j b ∙ sym (good_low _ _ j _ some.0 some.1)

pub returns-in-None : goal.returns-in-None
returns-in-None c j b = sym (not_good _ _ j (sym (c.lone.ensures j b) ∙ c.if-lone.false) (c.in-None.ensures j b))
