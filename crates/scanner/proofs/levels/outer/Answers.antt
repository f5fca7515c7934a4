-- `outer` meets its contract.
use mathlib.Core.Path.{◌∙◌}
use native.Mathlib.Omega.{arith}
use Rattle.scanner.specs.Levels.{outer_at, rest_at}
use Rattle.scanner.proofs.BackToBracket.{back_within}
use Rattle.scanner.proofs.levels.outer.Goals as goal

pub level_at-requires : goal.level_at-requires
level_at-requires c =
    let l = back_within c.args.text.now c.args.bracket 0 0 in
    record { in_the_text = rw c.around-round.ensures (omega (arith, l)) }

pub returns : goal.returns
unfolding outer_at rest_at
returns c =
    (rw c.around-round.ensures, c.rest.ensures ∙ rw (c.level_at.ensures, c.around-round.ensures))
