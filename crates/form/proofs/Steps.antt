-- Steps of the reading machine at a digit and behind a number.
use Prim.Native.Nat.{ℕ, ◌+◌, ◌*◌, ◌-◌, ◌≤◌, ◌<◌}
use mathlib.Core.Path.{◌≡◌, refl}
use mathlib.Core.List.{◌∷◌}
use native.Mathlib.Omega.{arith}
use borrow.Author.Tests.{le-leb, ne_eqb}
use Rattle.form.specs.Inside.Machine.{End, close, comma, space, end_byte, Number, event, limit, Stack, conf}
use Rattle.form.specs.Inside.Machine.{inner, joint, num, tail, on, step}
use Rattle.form.proofs.Digits.{is_digit}

abbrev pub digit : ℕ → ℕ
digit d = 48 + d

value : (d : ℕ) → (48 + d) - 48 ≡ d
value d = omega arith

pub step_num : (n : Number) (e : End) (σ : Stack) (d : ℕ) → d < 10 → step (num n e ∷ σ) (digit d) ≡ on (tail n d e ∷ σ)
unfolding step
step_num n e σ d h = simp (is_digit d h, value d)

pub step_conf : (e : End) (σ : Stack) (d : ℕ) → d < 10 → step (conf e ∷ σ) (digit d) ≡ on (tail event d e ∷ σ)
unfolding step
step_conf e σ d h = simp (ne_eqb (48 + d) 40 (λ z. omega arith), is_digit d h, value d)

pub step_inner : (σ : Stack) (d : ℕ) → d < 10 → step (inner ∷ σ) (digit d) ≡ on (tail event d space ∷ joint ∷ σ)
unfolding step
step_inner σ d h =
    simp (ne_eqb (48 + d) 110 (λ z. omega arith), ne_eqb (48 + d) 40 (λ z. omega arith), is_digit d h, value d)

-- no digit ends a number
pub no_end : (e : End) (d : ℕ) → digit d ≡ end_byte e → ⊥
no_end close d z = omega arith
no_end comma d z = omega arith
no_end space d z = omega arith

pub step_tail : (n : Number) (v : ℕ) (e : End) (σ : Stack) (d : ℕ) → 1 ≤ v → d < 10 → 10 * v + d ≤ limit n
    → step (tail n v e ∷ σ) (digit d) ≡ on (tail n (10 * v + d) e ∷ σ)
unfolding step
step_tail n v e σ d g h l =
    simp (ne_eqb (48 + d) (end_byte e) (no_end e d), is_digit d h, value d, le-leb 1 v g, le-leb (10 * v + d) (limit n) l)

pub step_end : (n : Number) (v : ℕ) (e : End) (σ : Stack) → step (tail n v e ∷ σ) (end_byte e) ≡ on σ
unfolding step
step_end n v close σ = refl
step_end n v comma σ = refl
step_end n v space σ = refl
