-- `first_blamed` meets its contract: the lowest, unless that is n.
use mathlib.Core.Path.{◌≡◌, sym, ◌∙◌}
use native.Mathlib.Omega.{arith}
use Rattle.state.specs.Resting.{rests}
use Rattle.state.proofs.Firsts.{first_lowest}
use Rattle.state.proofs.resting.first_blamed.Goals as goal

pub returns-then-low-n : goal.returns-then-low-n
returns-then-low-n c =
    (first_lowest (rests c.args.table.now c.args.state.now) _ _ (rw c.requires.rooted.whole at c.lowest_blamed-low.ensures), c.if-low-n.true)

pub returns : goal.returns
returns c =
    let f = rw c.requires.rooted.whole at c.lowest_blamed-low.ensures in
    let none : c.lowest_blamed-low.result ≡ c.args.n = omega (arith, f.within, c.if-low-n.false) in
    sym (first_lowest (rests c.args.table.now c.args.state.now) _ _ f) ∙ none
