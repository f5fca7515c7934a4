-- What stands in an answer's place for the length.
use Prim.Native.Nat.{ℕ}
use mathlib.Core.Path.{◌≡◌, refl}
use Rattle.std.specs.Prelude.{Result, Ok, Err}
use Rattle.text.specs.Answers.{length_of}

-- a refusal has no length
pub no_length : {E : Type 0} (r : Result ℕ E) → ((n : ℕ) → r ≡ Ok n → ⊥) → 0 ≡ length_of r
no_length (Err why) o = refl
no_length (Ok n) o = absurd (o n refl)
