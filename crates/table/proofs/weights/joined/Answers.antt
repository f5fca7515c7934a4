-- `table::weights::joined` meets its contract: When and If weigh as the heavier part, the others as both; and when each stops.
use borrow.Author.Rules.{rules}
use mathlib.Core.Path.{sym, ◌∙◌}
use Rattle.table.specs.declared.kinds.Kind.TheVariants.{When, Until, If}
use Rattle.table.proofs.ByNumber.{same_kind}
use Rattle.table.proofs.Weighed.{when_weighs, until_weighs, if_weighs, sum_weighs}
use Rattle.table.proofs.weights.joined.Goals as goal

pub returns-in-When : goal.returns-in-When
returns-in-When c p q s v e h w u = rw (c.most.ensures, c.from.ensures, c.from-in-When.ensures) (when_weighs v (sym (rw c.in-When.is at e)) h w u)

pub returns-in-Until : goal.returns-in-Until
returns-in-Until c p q s v e h w u = rw (c.sum.ensures, c.from-in-Until.ensures) (until_weighs v (sym (rw c.in-Until.is at e)) h w u)

pub returns-in-If : goal.returns-in-If
returns-in-If c p q s v e h w u = rw c.most-in-If.ensures (if_weighs v (sym (rw c.in-If.is at e)) h w u)

-- _ => sum(x, y, x.stops | y.stops),
pub returns-in_default : goal.returns-in_default
returns-in_default c p q s v e h w u =
    let other = c.in_default in
    rw
    c.sum-in_default.ensures
    (sum_weighs v
    (λ z. other.not-When (same_kind _ When (e ∙ z)))
    (λ z. other.not-Until (same_kind _ Until (e ∙ z)))
    (λ z. other.not-If (same_kind _ If (e ∙ z)))
    h
    w
    u)
