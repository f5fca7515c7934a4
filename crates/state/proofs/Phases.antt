-- The phases at rest of each sort of kinds, how many parts a node of each has, and how often one repeats.
use Prim.Native.Nat.{ℕ, zero, suc, ◌<◌}
use mathlib.Core.Bool.{true, false, ◌&&◌, or-false, and-true, false≢true}
use mathlib.Core.Path.{◌≡◌, refl, sym}
use mathlib.Core.Logic.{◌⊎◌, inl, inr}
use mathlib.Core.List.{List}
use native.Mathlib.Omega.{arith}
use lib.Dec.{eqb, ltb}
use borrow.Author.Tests.{eqb-true, ne_eqb}
use Rattle.table.specs.Records.{argument_at}
use Rattle.table.specs.Good.{children}
use Rattle.state.specs.Resting.{first_zero, second_zero, repeats, most_runs, phase_rests, count_rests}
use Rattle.state.proofs.Little.{either_true, cond_same}

-- a Seq or Until; a When or If
pub two_parts : {k : ℕ} → (k ≡ 3) ⊎ (k ≡ 10) → children k ≡ 2
unfolding children
two_parts (inl e) = rw e
two_parts (inr e) = rw e

pub two_branches : {k : ℕ} → (k ≡ 9) ⊎ (k ≡ 14) → children k ≡ 2
unfolding children
two_branches (inl e) = rw e
two_branches (inr e) = rw e

-- each of the four kinds with a second part or branch
pub second_children : {k : ℕ} → (k ≡ 3) ⊎ ((k ≡ 9) ⊎ ((k ≡ 10) ⊎ (k ≡ 14))) → children k ≡ 2
unfolding children
second_children (inl e) = rw e
second_children (inr (inl e)) = rw e
second_children (inr (inr (inl e))) = rw e
second_children (inr (inr (inr e))) = rw e

-- a kind below 10 that has no part
pub no_parts : (k : ℕ) → k < 10 → (k ≡ 3 → ⊥) → (k ≡ 4 → ⊥) → (k ≡ 5 → ⊥) → (k ≡ 6 → ⊥) → (k ≡ 9 → ⊥) → children k ≡ 0
unfolding children
no_parts zero h a b c d e = refl
no_parts (suc zero) h a b c d e = refl
no_parts (suc (suc zero)) h a b c d e = refl
no_parts (suc (suc (suc zero))) h a b c d e = absurd (a refl)
no_parts (suc (suc (suc (suc zero)))) h a b c d e = absurd (b refl)
no_parts (suc (suc (suc (suc (suc zero))))) h a b c d e = absurd (c refl)
no_parts (suc (suc (suc (suc (suc (suc zero)))))) h a b c d e = absurd (d refl)
no_parts (suc (suc (suc (suc (suc (suc (suc zero))))))) h a b c d e = refl
no_parts (suc (suc (suc (suc (suc (suc (suc (suc zero)))))))) h a b c d e = refl
no_parts (suc (suc (suc (suc (suc (suc (suc (suc (suc zero))))))))) h a b c d e = absurd (e refl)
no_parts (suc (suc (suc (suc (suc (suc (suc (suc (suc (suc k)))))))))) h a b c d e = absurd (omega arith)

module _ (t s : List ℕ) (i : ℕ) where
  -- phase 0
  module _ {k : ℕ} where
    pub parts_fresh : (k ≡ 3) ⊎ (k ≡ 10) → phase_rests t s i k 0 ≡ second_zero t s i
    unfolding phase_rests
    parts_fresh (inl e) = rw (e, or-false)
    parts_fresh (inr e) = rw (e, or-false)

    pub branches_fresh : (k ≡ 9) ⊎ (k ≡ 14) → phase_rests t s i k 0 ≡ (first_zero t s i && second_zero t s i)
    unfolding phase_rests
    branches_fresh (inl e) = rw (e, or-false)
    branches_fresh (inr e) = rw (e, or-false)

    pub body_fresh : (k ≡ 5) ⊎ ((k ≡ 6) ⊎ (k ≡ 15)) → phase_rests t s i k 0 ≡ first_zero t s i
    unfolding phase_rests
    body_fresh (inl e) = rw (e, or-false)
    body_fresh (inr (inl e)) = rw (e, or-false)
    body_fresh (inr (inr e)) = rw (e, or-false)

  -- any other kind
  pub plain_fresh : (k : ℕ) → (k ≡ 3 → ⊥) → (k ≡ 5 → ⊥) → (k ≡ 6 → ⊥) → (k ≡ 9 → ⊥) → (k ≡ 10 → ⊥) → (k ≡ 14 → ⊥) → (k ≡ 15 → ⊥)
      → phase_rests t s i k 0 ≡ true
  unfolding phase_rests
  plain_fresh k a b c d e f g =
      simp (ne_eqb _ _ a, ne_eqb _ _ b, ne_eqb _ _ c, ne_eqb _ _ d, ne_eqb _ _ e, ne_eqb _ _ f, ne_eqb _ _ g)

  -- phase 2
  pub in_second : {k : ℕ} → (k ≡ 3) ⊎ ((k ≡ 9) ⊎ ((k ≡ 10) ⊎ (k ≡ 14))) → phase_rests t s i k 2 ≡ first_zero t s i
  unfolding phase_rests
  in_second (inl e) = rw e
  in_second (inr (inl e)) = rw e
  in_second (inr (inr (inl e))) = rw e
  in_second (inr (inr (inr e))) = rw e

  pub not_in_second : (k : ℕ) → (k ≡ 3 → ⊥) → (k ≡ 9 → ⊥) → (k ≡ 10 → ⊥) → (k ≡ 14 → ⊥) → phase_rests t s i k 2 ≡ false
  unfolding phase_rests
  not_in_second k a b c d =
      simp (ne_eqb _ _ a, ne_eqb _ _ b, ne_eqb _ _ c, ne_eqb _ _ d, cond_same)

  -- phase 1, the count 0
  module _ {k : ℕ} where
    pub branches_begun : (k ≡ 9) ⊎ (k ≡ 14) → (phase_rests t s i k 1 && count_rests t i k 1 0) ≡ second_zero t s i
    unfolding phase_rests count_rests
    branches_begun (inl e) = rw (e, or-false, and-true)
    branches_begun (inr e) = rw (e, or-false, and-true)

  pub repeats_begun : (k : ℕ) → repeats k ≡ true → (phase_rests t s i k 1 && count_rests t i k 1 0) ≡ ltb 0 (most_runs k (argument_at t i))
  unfolding phase_rests count_rests
  repeats_begun k h =
      either_true (eqb k 6) (eqb k 15) h
      (λ e. let f : k ≡ 6 = eqb-true _ _ e in rw f)
      (λ e. let f : k ≡ 15 = eqb-true _ _ e in rw f)

  pub none_begun : (k : ℕ) → repeats k ≡ false → (k ≡ 5 → ⊥) → (k ≡ 9 → ⊥) → (k ≡ 14 → ⊥)
      → (phase_rests t s i k 1 && count_rests t i k 1 0) ≡ false
  unfolding phase_rests
  none_begun k h a d e =
      let b : k ≡ 6 → ⊥ = λ e. false≢true (sym (rw e at h)) in
      let c : k ≡ 15 → ⊥ = λ e. false≢true (sym (rw e at h)) in
      simp (ne_eqb _ _ a, ne_eqb _ _ b, ne_eqb _ _ c, ne_eqb _ _ d, ne_eqb _ _ e, cond_same)

  -- no kind rests in a phase past 3
  pub late_phase : (k ph : ℕ) → 3 < ph → phase_rests t s i k ph ≡ false
  unfolding phase_rests
  late_phase k ph h =
      let a : ph ≡ 0 → ⊥ = λ e. omega arith in
      let b : ph ≡ 1 → ⊥ = λ e. omega arith in
      let c : ph ≡ 2 → ⊥ = λ e. omega arith in
      simp (ne_eqb _ _ a, ne_eqb _ _ b, ne_eqb _ _ c, cond_same)
