-- The row in which weights wait: what a store changes, and what stays.
use Prim.Native.Nat.{ℕ, zero, suc, ◌+◌, ◌-◌, ◌<◌}
use mathlib.Core.Path.{◌≡◌}
use mathlib.Core.List.{List}
use native.Mathlib.Numerals.{add-one}
use native.Mathlib.Omega.{arith}
use lib.ListN.{length, set}
use lib.Seq.{get_or-set_same, get_or-set_other}
use Rattle.table.specs.Records.{nodes, size_at}
use Rattle.table.specs.declared.weights.Weight.{Weight}
use Rattle.table.specs.Inside.Weighing.{Weighs, no_weight, weight_at, Row, Waiting, tree_at}

-- programs wait as long as their places are left alone
pub waiting_kept : (t : List ℕ) (w w' : List Weight) (k i : ℕ) → ((j : ℕ) → j < k → weight_at w' j ≡ weight_at w j) → Waiting t w k i
    → Waiting t w' k i
unfolding Waiting
waiting_kept t w w' zero i e x = x
waiting_kept t w w' (suc k) i e (l, x, r) =
    (l, rw (e k (omega arith)) x, waiting_kept t w w' k (i + size_at t i) (λ j h. e j (omega arith)) r)

pub waiting_row : (t : List ℕ) (w : List Weight) (k i : ℕ) → Waiting t w k i → Row t k i
unfolding Waiting Row
waiting_row t w zero i x = x
waiting_row t w (suc k) i (l, x, r) = (l, waiting_row t w k (i + size_at t i) r)

-- one more on top
pub waits_more : (t : List ℕ) (w : List Weight) (k i : ℕ) (x : Weight) → k < length w → i < nodes t → Weighs x (tree_at t i)
    → Waiting t w k (i + size_at t i) → Waiting t (set w k x) (k + 1) i
unfolding Waiting
waits_more t w k i x l m y r =
    rw
    (add-one k) (
      m,
      rw (get_or-set_same w k x no_weight l) y,
      waiting_kept t w (set w k x) k (i + size_at t i) (λ j h. get_or-set_other w k j x no_weight (λ e. omega arith)) r,
    )

-- the topmost, if node j is not behind the last
pub record Topmost (t : List ℕ) (w : List Weight) (k j : ℕ) : Type 0 where
  pub some : 0 < k
  pub weighs : Weighs (weight_at w (k - 1)) (tree_at t j)
  pub rest : Waiting t w (k - 1) (j + size_at t j)

pub topmost : (t : List ℕ) (w : List Weight) (k j : ℕ) → j < nodes t → Waiting t w k j → Topmost t w k j
unfolding Waiting
topmost t w zero j l x = absurd (omega arith)
topmost t w (suc k) j l (m, x, r) =
    let e : suc k - 1 ≡ k = omega arith in
    record { some = omega arith; weighs = rw e x; rest = rw e r }
