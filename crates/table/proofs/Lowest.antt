-- The lowest record that isn't good, by what a search for it has seen; and none is where the lowest is past all.
use Prim.Native.Nat.{ℕ, ◌≤◌, ◌<◌}
use mathlib.Core.Bool.{Bool, true, false, not}
use mathlib.Core.Path.{◌≡◌, ap}
use native.Mathlib.Omega.{arith}
use borrow.Author.Tests.{not-false}
use Rattle.events.specs.Events.{lowest}
use Rattle.events.proofs.Events.{before_lowest, lowest_is}

pub lowest_bad : (good : ℕ → Bool) (n r : ℕ) → r ≤ n → ((k : ℕ) → k < r → good k ≡ true) → (r < n → good r ≡ false)
    → r ≡ lowest n (λ k. not (good k))
lowest_bad good n r w b t = lowest_is n r (λ k. not (good k)) w (λ k h. ap not (b k h)) (λ h. ap not (t h))

pub none_bad : (good : ℕ → Bool) (n r : ℕ) → r ≡ lowest n (λ k. not (good k)) → n ≤ r → (k : ℕ) → k < n → good k ≡ true
none_bad good n r e l k h = not-false (good k) (before_lowest n (λ k. not (good k)) k (omega arith))
