-- How often a repetition runs, by the values, and how often at most and at least.
use Prim.Native.Nat.{ℕ, suc, ◌<◌}
use mathlib.Core.Bool.{false}
use mathlib.Core.Path.{◌≡◌, refl}
use native.Mathlib.Omega.{arith}
use Rattle.junior.specs.Values.{Values, Times, exactly, asked, runs_of, most, surely}

-- the count of a repetition that has begun is below the most that it can run
pub below_most : (value : Values) (n : Times) {k : ℕ} → runs_of value n ≡ suc k → k < most n
below_most value (exactly n) h = omega arith
below_most value (asked v cap) h = omega arith

-- one that doesn't run isn't sure to run
pub unsure : (value : Values) (n : Times) → runs_of value n ≡ 0 → surely n ≡ false
unsure value (exactly n) h = rw h
unsure value (asked v cap) h = refl
