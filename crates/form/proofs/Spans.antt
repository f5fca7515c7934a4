-- What holds of all numbers of a span, by the parts of the span.
use Prim.Native.Nat.{ℕ, ◌+◌, ◌≤◌, ◌<◌}
use mathlib.Core.Path.{◌≡◌}
use native.Mathlib.Omega.{arith}
use Rattle.table.proofs.Little.{below_or}

-- so are n numbers from j on
abbrev pub All : (ℕ → Type 0) → ℕ → ℕ → Type 0
All So j n = (k : ℕ) → j ≤ k → k < j + n → So k

module _ (So : ℕ → Type 0) (j : ℕ) where
  pub none : All So j 0
  none k h l = absurd (omega arith)

  pub both : (m n : ℕ) → All So j m → All So (j + m) n → All So j (m + n)
  both m n f g k h l = below_or k (j + m) (λ b. f k h b) (λ b. g k b (omega arith))

  -- the first of them, and those behind it
  pub own_and : (n : ℕ) → So j → All So (j + 1) n → All So j (1 + n)
  own_and n e f k h l =
      below_or j k (λ b. f k (omega arith) (omega arith)) (λ b. let here : k ≡ j = omega arith in rw here e)

  pub own_and_both : (m n : ℕ) → So j → All So (j + 1) m → All So (j + 1 + m) n → All So j (1 + m + n)
  own_and_both m n e f g k h l =
      below_or
      k
      (j + 1 + m)
      (λ b. own_and m e f k h (omega arith))
      (λ b. g k b (omega arith))

  pub first_of : (m n : ℕ) → All So j (m + n) → All So j m
  first_of m n f k h l = f k h (omega arith)

  pub second_of : (m n : ℕ) → All So j (m + n) → All So (j + m) n
  second_of m n f k h l = f k (omega arith) (omega arith)

  pub behind_own : (n : ℕ) → All So j (1 + n) → All So (j + 1) n
  behind_own n f k h l = f k (omega arith) (omega arith)

  pub first_behind : (m n : ℕ) → All So j (1 + m + n) → All So (j + 1) m
  first_behind m n f k h l = f k (omega arith) (omega arith)

  pub second_behind : (m n : ℕ) → All So j (1 + m + n) → All So (j + 1 + m) n
  second_behind m n f k h l = f k (omega arith) (omega arith)
