-- When configurations can be decided early, as numbers: 0 false only, 1 either way, 2 true only. As with the ranks of verdicts the smaller
-- wins an and, the larger an or, and a not mirrors. Private contracts alone cite this file.
use Rattle.std.specs.Prelude.{ℕ, ◌+◌, ◌≤◌, ◌<◌, ◌≡◌, List, leb, length, get_or}
use Rattle.junior.specs.Configuration.{Config, early_true, early_false}
use Rattle.junior.specs.Program.{Program, kind, configuration, argument}
use Rattle.table.specs.Records.{configurations, argument_at, configuration_at}
use Rattle.table.specs.Spells.{Configured, tested}
use Rattle.table.specs.Inside.{Framed, ConfigurationsGood, Begins}

-- e says when d can be decided early
pub record Earliness (e : ℕ) (d : Config) : Type 0 where
  pub most : e ≤ 2
  pub true_is : early_true d ≡ leb 1 e
  pub false_is : early_false d ≡ leb e 1

-- whatever configuration stands at byte c, e says it of that
abbrev pub EarlyAt : List ℕ → ℕ → ℕ → Type 0
EarlyAt t c e = (d : Config) → Configured t c d → Earliness e d

-- a row says it of each configuration from j on
abbrev pub KnownFrom : List ℕ → List ℕ → ℕ → Type 0
KnownFrom t row j = (k : ℕ) → j ≤ k → k < configurations t → EarlyAt t (configuration_at t k) (get_or row k 0)

-- and of all, none being behind it
pub record AllKnown (t row : List ℕ) : Type 0 where
  pub room : configurations t ≤ length row
  pub known : KnownFrom t row 0

-- past 4, whatever V is
abbrev pub SomeFramed : List ℕ → ℕ → ℕ → Type 0
SomeFramed t n m = (v : ℕ) × Framed t n m v × ConfigurationsGood t

-- configuration j begins at byte c, and the row says it of all behind
pub record Behind (t row : List ℕ) (c j : ℕ) : Type 0 where
  pub begins : Begins t c j
  pub good : ConfigurationsGood t
  pub room : configurations t ≤ length row
  pub known : KnownFrom t row (j + 1)

-- e says it of the test of p, or of that of node i, of kind k, if it is an Await, a When or an Until
pub record Tests (e : ℕ) (p : Program) : Type 0 where
  pub early : 8 ≤ kind p → kind p ≤ 10 → (d : Config) → argument p ≡ configuration d → Earliness e d

pub record TestsAt (t : List ℕ) (i k e : ℕ) : Type 0 where
  pub early : 8 ≤ k → k ≤ 10 → argument_at t i < configurations t → EarlyAt t (tested t i) e
