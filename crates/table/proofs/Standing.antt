-- How a record is laid out where it is known how many programs stand behind it.
use Prim.Native.Nat.{ℕ, zero, suc, ◌+◌, ◌-◌, ◌≤◌, ◌<◌}
use mathlib.Core.Bool.{false}
use mathlib.Core.Path.{◌≡◌}
use mathlib.Core.List.{List}
use native.Mathlib.Omega.{arith}
use lib.Dec.{eqb}
use Rattle.table.specs.Records.{nodes, size_at, second_child}
use Rattle.table.specs.Good.{is_laid_out}
use Rattle.table.specs.Inside.Weighing.{Row}
use Rattle.table.proofs.Little.{below_or}
use Rattle.table.proofs.Judged.{bad_first, laid_one, bad_second, laid_two}

-- none stands there, one, or two
row_none : (t : List ℕ) (k j : ℕ) → k ≡ 0 → Row t k j → j ≡ nodes t
unfolding Row
row_none t zero j e r = r
row_none t (suc k) j e r = absurd (omega arith)

pub row_some : (t : List ℕ) (k j : ℕ) → 0 < k → Row t k j → (j < nodes t) × Row t (k - 1) (j + size_at t j)
unfolding Row
row_some t zero j l r = absurd (omega arith)
row_some t (suc k) j l r = let e : suc k - 1 ≡ k = omega arith in rw e r

pub row_second : (t : List ℕ) (k i : ℕ) → 2 ≤ k → Row t k (i + 1) → second_child t i < nodes t
row_second t k i l r = (row_some t (k - 1) (second_child t i) (omega arith) (row_some t k (i + 1) (omega arith) r).1).0

module _ (t : List ℕ) (n i count top : ℕ) (same : n ≡ nodes t) (r : Row t top (i + 1)) where
  pub none_behind : (count ≡ 0 → ⊥) → top ≡ 0 → false ≡ is_laid_out (size_at t) n i count
  none_behind c e =
      let end = row_none t top (i + 1) e r in
      bad_first (size_at t) n i count c (omega arith)

  pub one_behind : count ≡ 1 → 0 < top → eqb (size_at t i) (1 + size_at t (i + 1)) ≡ is_laid_out (size_at t) n i count
  one_behind c l = let first = (row_some t top (i + 1) l r).0 in laid_one (size_at t) n i count c (omega arith)

  pub less_than_two : (count ≡ 0 → ⊥) → (count ≡ 1 → ⊥) → top < 2 → false ≡ is_laid_out (size_at t) n i count
  less_than_two c d l =
      below_or
      0
      top
      (λ s.
      let one = row_some t top (i + 1) s r in
      let first = one.0 in
      let end = row_none t (top - 1) (second_child t i) (omega arith) one.1 in
      bad_second (size_at t) n i count c d (omega arith) (omega arith))
      (λ s. none_behind c (omega arith))

  pub two_behind : (count ≡ 0 → ⊥) → (count ≡ 1 → ⊥) → 2 ≤ top
      → eqb (size_at t i) (1 + size_at t (i + 1) + size_at t (second_child t i)) ≡ is_laid_out (size_at t) n i count
  two_behind c d l =
      let first = (row_some t top (i + 1) (omega arith) r).0 in
      let second = row_second t top i l r in
      laid_two (size_at t) n i count c d (omega arith) (omega arith)
