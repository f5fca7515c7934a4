-- The stages between the steps of a form: a When or an If in its first branch, a Loop whose body begins, an Until*.
use mathlib.Core.Path.{◌≡◌}
use Rattle.junior.specs.Term.{Term}
use Rattle.state.specs.Kinds.{loop_kind, until_kind}
use Rattle.state.specs.StateBytes.{head}
use Rattle.steps.specs.Running.{KindPhase}
use Rattle.steps.specs.Kinds.{Choice}

abbrev pub InThen : Term → Type 0
InThen t = Choice t × ((head t).phase ≡ 1)

abbrev pub Beginning : Term → Type 0
Beginning = KindPhase loop_kind 0

abbrev pub Starred : Term → Type 0
Starred = KindPhase until_kind 1
