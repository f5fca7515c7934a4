-- The ring of frames: a frame more, a frame fewer.
use Rattle.scanner.specs.declared.levels.Frame.{Frame}
use Rattle.std.specs.Prelude.{None}
use Prim.Native.Nat.{ℕ, zero, suc, ◌+◌, ◌-◌, ◌%◌, ◌<◌, ◌≤◌}
use mathlib.Core.Bool.{Bool, true, false, cond}
use mathlib.Core.Path.{◌≡◌, refl, sym, ◌∙◌, ap, subst}
use mathlib.Core.List.{List, ◌++◌}
use native.Mathlib.Omega.{arith}
use lib.Dec.{ltb}
use lib.ListN.{length, set}
use lib.Seq.{get_or-set_same, get_or-set_other}
use borrow.Author.Tests.{ltb-true, ltb-false}
use Rattle.scanner.specs.declared.levels.Bracket.{Bracket}
use Rattle.form.specs.Inside.Machine.{Stack}
use Rattle.form.specs.Inside.Rows.{code_at, codes, opens, in_name}
use Rattle.form.proofs.NamesRead.{behind_symbol}
use Rattle.scanner.specs.Rules.{held}
use Rattle.scanner.specs.Levels.{around, level_at, rest_of, outer_at, rest_at, Under, top, level}
use Rattle.scanner.specs.Places.{no_frame, frame, Resumes, RingHolds, room_of}

-- two numbers less than a ring apart have different places in it
apart : (a j : ℕ) → a < j → j < a + 4096 → a % 4096 ≡ j % 4096 → ⊥
apart a j g h e = omega arith

-- a frame written further on leaves those that are held
kept_set : (t : List ℕ) (o d l : ℕ) (ring : List Frame) (j : ℕ) (x : Frame) → d ≤ j → j + l < d + 4096 → RingHolds t o d l ring
    → RingHolds t o d l (set ring (j % 4096) x)
kept_set t o d zero ring j x g h k = tt
kept_set t o zero (suc l) ring j x g h k = k
kept_set t o (suc d) (suc l) ring j x g h (a, b, k) =
    let f : d % 4096 ≡ j % 4096 → ⊥ = apart d j (omega arith) (omega arith) in
    let p = get_or-set_other ring (j % 4096) (d % 4096) x no_frame f in (
      ap (λ (r : Frame). r.bracket) p ∙ a,
      subst (λ (r : Frame). Resumes r.rest (rest_at t o)) (sym p) b,
      kept_set t (outer_at t o) d l ring j x (omega arith) (omega arith) k,
    )

kept_fewer : (t : List ℕ) (o d l : ℕ) (ring : List Frame) → RingHolds t o d (suc l) ring → RingHolds t o d l ring
kept_fewer t o d zero ring k = tt
kept_fewer t o zero (suc l) ring k = k
kept_fewer t o (suc d) (suc l) ring (a, b, k) = (a, b, kept_fewer t (outer_at t o) d l ring k)

low_place : (d : ℕ) → d % 4096 < 4096
low_place d = omega arith

-- the frame of the level o, left at place p for a bracket at q
pub kept_push : (t : List ℕ) (o q d l p : ℕ) (ring : List Frame) → length ring ≡ 4096 → l ≤ 4096
    → outer_at t q ≡ o → Resumes p (rest_at t q) → RingHolds t o d l ring
    → RingHolds t q (suc d) (room_of l) (set ring (d % 4096) (frame o p))
kept_push t o q d l p ring g m e f k = go (ltb l 4096) refl
  where
    r : ℕ
    r = d % 4096

    pushed : (n : ℕ) → n < 4096 → RingHolds t o d n ring → RingHolds t q (suc d) (suc n) (set ring r (frame o p))
    pushed n z c =
        let a = get_or-set_same ring r (frame o p) no_frame (rw g (low_place d)) in (
          ap (λ (x : Frame). x.bracket) a ∙ sym e,
          subst (λ (x : Frame). Resumes x.rest (rest_at t q)) (sym a) f,
          subst (λ (x : ℕ). RingHolds t x d n (set ring r (frame o p))) (sym e)
              (kept_set t o d n ring d (frame o p) (omega arith) (omega arith) c),
        )

    full : (n : ℕ) → n ≡ 4096 → RingHolds t o d n ring → RingHolds t q (suc d) n (set ring r (frame o p))
    full n z c =
        let y : n ≡ suc 4095 = z in
        rw y (pushed 4095 (omega arith) (kept_fewer t o d 4095 ring (rw y at c)))

    go : (b : Bool) → ltb l 4096 ≡ b → RingHolds t q (suc d) (cond b (suc l) l) (set ring r (frame o p))
    go true b = pushed l (ltb-true l 4096 b) k
    go false b = let z = ltb-false l 4096 b in let y : l ≡ 4096 = omega arith in full l y k

-- the same rest is the same still to come
pub held_same : (p q : ℕ) → codes p ≡ codes q → 128 ≤ code_at (p - 1) → held p None ≡ held q None
unfolding held in_name
held_same p q e h =
    let o = behind_symbol p h in
    let r : opens (codes q) ≡ false = rw e at o in
    rw (o, r, e)

module _ (t : List ℕ) (o i : ℕ) (e : around t i ≡ around t o) where
  outer_same : outer_at t i ≡ outer_at t o
  unfolding outer_at
  outer_same = ap (λ (r : Bracket). r.at) e

  rest_same : rest_at t i ≡ rest_at t o
  unfolding rest_at
  rest_same = ap (λ (r : Bracket). rest_of (level_at t r.at) r.spaces) e

  pub kept_same : (d l : ℕ) (ring : List Frame) → RingHolds t o d l ring → RingHolds t i d l ring
  kept_same d zero ring k = tt
  kept_same zero (suc l) ring k = k
  kept_same (suc d) (suc l) ring k = rw (outer_same, rest_same) k

-- a place with the same brackets round it has the same to come
pub under_same : (t : List ℕ) (o i : ℕ) (σ : Stack) → around t i ≡ around t o → 0 < o → 0 < i → Under t o σ → Under t i σ
under_same t o i σ e g h top = absurd (omega arith)
under_same t o i σ e g h (level {σ = τ} x u) =
    subst (λ (r : ℕ). Under t i (held r None ++ τ)) (rest_same t o i e)
    (level h (subst (λ (q : ℕ). Under t q τ) (sym (outer_same t o i e)) u))
