-- How far a reader is that goes through a text from left to right.
use Rattle.std.specs.Prelude.{ℕ, ◌+◌, ◌≤◌, ◌≡◌, List, [], ◌∷◌, length, drop}
use Rattle.form.specs.Inside.Machine.{Stack, prog, run, reach}
use Rattle.form.specs.declared.Sizes.{Sizes}
use Rattle.form.specs.Inside.Counted.{none, tally}

-- the stack of a text's first byte
abbrev pub start : Stack
start = prog ∷ []

-- i bytes are read, σ is still to come, and k is counted so far
pub record ReadTo (text : List ℕ) (i : ℕ) (σ : Stack) (k : Sizes) : Type 0 where
  pub within : i ≤ length text
  pub runs_on : run start text ≡ run σ (drop i text)
  pub reaches_on : reach start text ≡ i + reach σ (drop i text)
  pub counts_on : tally start text none ≡ tally σ (drop i text) k
