-- What the tests of two flags say.
use mathlib.Core.Bool.{Bool, true, false, not}
use mathlib.Core.Path.{◌≡◌, sym, ◌∙◌}
use mathlib.Core.Logic.{◌≢◌}
use denote.Enum.Bare.{sameb, same_true, differs_true, differs_false}
use Rattle.junior.specs.contracts.Flag.{the_type}
use Rattle.junior.specs.declared.Flag.{Flag}

module _ (f g : Flag) {r : Bool} where
  pub eq_is : r ≡ sameb the_type f g → r ≡ true → f ≡ g
  eq_is e t = same_true the_type tt f g (sym e ∙ t)

  pub ne_is : r ≡ not (sameb the_type f g) → r ≡ true → f ≢ g
  ne_is e t = differs_true the_type f g (sym e ∙ t)

  pub ne_not : r ≡ not (sameb the_type f g) → r ≡ false → f ≡ g
  ne_not e t = differs_false the_type tt f g (sym e ∙ t)
