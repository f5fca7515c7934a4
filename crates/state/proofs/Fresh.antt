-- Nodes with no byte but zeros: when one rests, and that an all-zero subtree does.
use Prim.Native.Nat.{ℕ, ◌+◌, ◌-◌, ◌≤◌, ◌<◌}
use mathlib.Core.Bool.{Bool, true, false, cond, ◌&&◌, ◌||◌, and-true, and-false}
use mathlib.Core.Path.{◌≡◌, refl, ap, sym, ◌∙◌}
use mathlib.Core.List.{List}
use native.Mathlib.Omega.{arith}
use lib.Dec.{eqb}
use borrow.Author.Tests.{eqb-true}
use Rattle.table.specs.Records.{kind_at, size_at}
use Rattle.table.specs.Good.{children}
use Rattle.table.specs.Inside.{Rooted}
use Rattle.table.proofs.Laid.{both}
use Rattle.table.proofs.Subtrees.{body, pair, nested, ends}
use Rattle.state.specs.Resting.{zero_node, first_zero, second_zero, below_zero, repeats, phase_rests, flags_rest, count_rests, rests}
use Rattle.state.specs.Inside.{Judged}
use Rattle.state.proofs.Little.{either_true, cond_same}
use Rattle.state.proofs.Zeros.{zero_owns, zero_all}
use Rattle.state.proofs.Near.{body_below, pair_below}
use Rattle.state.proofs.Firsts.{Hold, hold_join}

-- such a node rests if phase 0 does
pub fresh_rests : (t s : List ℕ) (i : ℕ) → zero_node s i ≡ true → rests t s i ≡ phase_rests t s i (kind_at t i) 0
unfolding rests flags_rest count_rests
fresh_rests t s i z = let (a, b, c) = zero_owns s i z in rw (a, b, c) (simp (cond_same, and-false, and-true))

-- all below being zero as well, it does rest
module _ {t : List ℕ} {n : ℕ} (s : List ℕ) (l : Rooted t n) (i : ℕ) (h : i < n) (z : below_zero t s i ≡ true) where
  first_wanted : children (kind_at t i) ≡ 1 → first_zero t s i ≡ true
  first_wanted e = sym (body_below s (body l i h e)) ∙ z

  parts_wanted : children (kind_at t i) ≡ 2 → (first_zero t s i ≡ true) × (second_zero t s i ≡ true)
  parts_wanted e = both (sym (pair_below s (pair l i h e)) ∙ z)

  -- of a kind with one child, with two
  of_one : (k : ℕ) → children k ≡ 1 → eqb (kind_at t i) k ≡ true → first_zero t s i ≡ true
  of_one k e f = first_wanted (ap children (eqb-true _ _ f) ∙ e)

  of_two : (k : ℕ) → children k ≡ 2 → eqb (kind_at t i) k ≡ true → (first_zero t s i ≡ true) × (second_zero t s i ≡ true)
  of_two k e f = parts_wanted (ap children (eqb-true _ _ f) ∙ e)

  idle_phase : phase_rests t s i (kind_at t i) 0 ≡ true
  unfolding phase_rests children
  idle_phase =
      go (eqb k 3) (eqb k 5 || repeats k) (eqb k 9 || eqb k 14) (eqb k 10)
      (λ e. (of_two 3 refl e).1)
      (λ e. either_true _ _ e (of_one 5 refl) (λ e. either_true _ _ e (of_one 6 refl) (of_one 15 refl)))
      (λ e. either_true _ _ e (of_two 9 refl) (of_two 14 refl))
      (λ e. (of_two 10 refl e).1)
    where
      k : ℕ
      k = kind_at t i

      F : Bool
      F = first_zero t s i

      S : Bool
      S = second_zero t s i

      go : (a b c d : Bool) → (a ≡ true → S ≡ true) → (b ≡ true → F ≡ true) → (c ≡ true → (F ≡ true) × (S ≡ true)) → (d ≡ true → S ≡ true)
          → cond a (S || false) (cond b (F || false) (cond c ((F && S) || false) (cond d (S || false) true))) ≡ true
      go true b c d α β γ δ = rw (α refl)
      go false true c d α β γ δ = rw (β refl)
      go false false true d α β γ δ = rw ((γ refl).0, (γ refl).1)
      go false false false true α β γ δ = rw (δ refl)
      go false false false false α β γ δ = refl

  pub idle_rests : zero_node s i ≡ true → rests t s i ≡ true
  idle_rests e = fresh_rests t s i e ∙ idle_phase

-- every node of an all-zero subtree rests, also if only those from j on are all zero
pub zero_rests : {t : List ℕ} {n : ℕ} (s : List ℕ) → Rooted t n → (i : ℕ) → i < n → (j : ℕ) → i ≤ j
    → Hold (zero_node s) j (i + size_at t i)
    → Hold (rests t s) j (i + size_at t i)
zero_rests {t} s l i h j g z k a b =
    let m = ends l i h in
    let e = nested l i h k (omega arith) b in
    idle_rests s l k (omega arith) (zero_all s (k + 1) (size_at t k - 1) (λ n c d. z n (omega arith) (omega arith))) (z k a b)

module _ {t s : List ℕ} {i near : ℕ} (j : Judged t s i near) (at : ℕ) (a : i ≤ at) (b : at < near) where
  pub at_in : at < size_at t 0
  at_in = omega arith

  -- the nodes up to `at` rest, and so do those of the all-zero subtree there
  pub on_past : (end : ℕ) → end ≡ at + size_at t at → end ≤ near → Hold (rests t s) i at → Hold (rests t s) i end
  on_past end e h r =
      rw e
      (hold_join (rests t s) i at (at + size_at t at) r
      (zero_rests s j.rooted at at_in at (omega arith) (λ k c d. j.nearest.before k (omega arith) (omega arith))))

  pub at_rests : rests t s at ≡ phase_rests t s at (kind_at t at) 0
  at_rests = fresh_rests t s at (j.nearest.before at a b)
