-- The first of which something doesn't hold, found from behind.
use Prim.Native.Nat.{ℕ, ◌+◌, ◌≤◌, ◌<◌}
use mathlib.Core.Bool.{Bool, true, false, not}
use mathlib.Core.Path.{◌≡◌}
use native.Mathlib.Omega.{arith}
use native.Mathlib.Decide.{ℕ_discrete, dec_lt}
use Rattle.events.specs.Events.{lowest}
use Rattle.table.proofs.Lowest.{lowest_bad}
use Rattle.state.specs.Inside.{First}

module _ (holds : ℕ → Bool) where
  -- it holds from i up to n
  abbrev pub Hold : ℕ → ℕ → Type 0
  Hold i n = (k : ℕ) → i ≤ k → k < n → holds k ≡ true

  -- it holds of one number more
  pub hold_more : (i n : ℕ) → holds i ≡ true → Hold (i + 1) n → Hold i n
  hold_more i n e h k a b = go (ℕ_discrete k i)
    where
      go : Dec (k ≡ i) → holds k ≡ true
      go (yes z) = rw z e
      go (no z) = h k (omega arith) b

  pub hold_join : (i m n : ℕ) → Hold i m → Hold m n → Hold i n
  hold_join i m n f g k a b = go (dec_lt k m)
    where
      go : Dec (k < m) → holds k ≡ true
      go (yes z) = f k a z
      go (no z) = g k (omega arith) b

  pub hold_one : (i : ℕ) → holds i ≡ true → Hold i (i + 1)
  hold_one i e = hold_more i (i + 1) e (λ k a b. absurd (omega arith))

  -- it doesn't hold of r, or there is none left
  pub first_at : (i r n : ℕ) → i ≤ r → r ≤ n → Hold i r → (r < n → holds r ≡ false) → First holds i n r
  first_at i r n l m h e = record { from = l; within = m; before = h; there = e }

  pub first_here : (i n : ℕ) → i ≤ n → (i < n → holds i ≡ false) → First holds i n i
  first_here i n l e = first_at i i n (omega arith) l (λ k a b. absurd (omega arith)) e

  pub first_later : (i m n r : ℕ) → i ≤ m → Hold i m → First holds m n r → First holds i n r
  first_later i m n r l h f =
      first_at i r n (omega arith) f.within (hold_join i m r h f.before) f.there

  -- from further on
  pub first_on : (i m n r : ℕ) → i ≤ m → m ≤ r → First holds i n r → First holds m n r
  first_on i m n r l g f = first_at m r n g f.within (λ k a b. f.before k (omega arith) b) f.there

  pub first_lowest : (n r : ℕ) → First holds 0 n r → r ≡ lowest n (λ k. not (holds k))
  first_lowest n r f =
      lowest_bad holds n r f.within (λ k h. f.before k (omega arith) h) f.there
