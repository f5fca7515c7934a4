-- Numbers copied one by one behind the first few places of a row.
use Prim.Native.Nat.{ℕ, zero, suc, ◌+◌, ◌<◌}
use mathlib.Core.Path.{◌≡◌, refl, ap}
use mathlib.Core.List.{List, [], ◌∷◌, ◌++◌}
use native.Mathlib.Omega.{arith}
use lib.ListN.{length, get_or, take, drop, set}

-- so many are written from a place on, the rest is as it was
abbrev pub with_first : ℕ → ℕ → List ℕ → List ℕ → List ℕ
with_first from k xs ys = take from ys ++ (take k xs ++ drop (from + k) ys)

-- at the start of a row
pub copy_more : (k : ℕ) (xs ys : List ℕ) → k < length xs → k < length ys
    → set (take k xs ++ drop k ys) k (get_or xs k 0) ≡ take (suc k) xs ++ drop (suc k) ys
copy_more k [] ys l n = absurd (omega arith)
copy_more k (x ∷ xs) [] l n = absurd (omega arith)
copy_more zero (x ∷ xs) (y ∷ ys) l n = refl
copy_more (suc k) (x ∷ xs) (y ∷ ys) l n = ap (λ (l : List ℕ). x ∷ l) (copy_more k xs ys (omega arith) (omega arith))

pub copy_behind : (from k : ℕ) (xs ys : List ℕ) → k < length xs → from + k < length ys
    → set (with_first from k xs ys) (from + k) (get_or xs k 0) ≡ with_first from (suc k) xs ys
copy_behind zero k xs ys l n =
    let e : 0 + k ≡ k = omega arith in let f : 0 + suc k ≡ suc k = omega arith in rw (e, f) (copy_more k xs ys l (omega arith))
copy_behind (suc from) k xs [] l n = absurd (omega arith)
copy_behind (suc from) k xs (y ∷ ys) l n =
    let e : suc from + k ≡ suc (from + k) = omega arith in
    let f : suc from + suc k ≡ suc (from + suc k) = omega arith in
    rw (e, f) (ap (λ (z : List ℕ). y ∷ z) (copy_behind from k xs ys l (omega arith)))
