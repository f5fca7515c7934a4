-- A number in decimal, read from left to right.
use Prim.Native.Nat.{ℕ, zero, suc, ◌+◌, ◌*◌, ◌/◌, ◌%◌, ◌≤◌, ◌<◌}
use mathlib.Core.Path.{◌≡◌, ◌∙◌}
use mathlib.Core.List.{List, [], ◌∷◌, ◌++◌, append_assoc}
use native.Mathlib.Omega.{arith}
use Rattle.letters.specs.Decimal.{decimal}
use Rattle.letters.proofs.Decimal.{one_or_more, decimal_digit, decimal_more}

-- a number and a digit behind it are a number
pub decimal_on : (v d : ℕ) (x : List ℕ) → 1 ≤ v → d < 10 → decimal (10 * v + d) ++ x ≡ decimal v ++ ((48 + d) ∷ x)
decimal_on v d x g h =
    let rest : (10 * v + d) / 10 ≡ v = omega arith in
    let last : (10 * v + d) % 10 ≡ d = omega arith in
    rw (decimal_more (10 * v + d) (omega arith), rest, last) (append_assoc (decimal v) ((48 + d) ∷ []) x)

-- a reader F that has read the number v is G v
pub record Reader {R : Type 0} (most : ℕ) (F : List ℕ → R) (G : ℕ → List ℕ → R) : Type 0 where
  pub first : (d : ℕ) (x : List ℕ) → d < 10 → F ((48 + d) ∷ x) ≡ G d x
  pub more : (v d : ℕ) (x : List ℕ) → 1 ≤ v → d < 10 → 10 * v + d ≤ most → G v ((48 + d) ∷ x) ≡ G (10 * v + d) x

pub reads_decimal : {R : Type 0} {most : ℕ} {F : List ℕ → R} {G : ℕ → List ℕ → R} → Reader most F G
    → (n : ℕ) → n ≤ most → (x : List ℕ) → F (decimal n ++ x) ≡ G n x
reads_decimal {R} {most} {F} {G} r n h x = go (suc n) n (omega arith) h x
  where
    go : (f n : ℕ) → n < f → n ≤ most → (x : List ℕ) → F (decimal n ++ x) ≡ G n x
    go zero n l h x = absurd (omega arith)
    go (suc f) n l h x =
        one_or_more n
        (λ k. rw (decimal_digit n k) (r.first n x k))
        (λ k.
        let v = n / 10 in
        let d = n % 10 in
        let s : 10 * v + d ≡ n = omega arith in
        let e : G v ((48 + d) ∷ x) ≡ G n x = rw s at (r.more v d x (omega arith) (omega arith) (omega arith)) in
        rw (decimal_more n k, append_assoc (decimal v) ((48 + d) ∷ []) x) (go f v (omega arith) (omega arith) ((48 + d) ∷ x) ∙ e))
