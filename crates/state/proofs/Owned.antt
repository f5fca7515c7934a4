-- What a node's own bytes, taken as one number, tell of its rest.
use Prim.Native.Nat.{ℕ, ◌+◌, ◌*◌, ◌<◌}
use mathlib.Core.Bool.{Bool, true, false, cond, ◌&&◌, ◌||◌, and-true, and-false, false≢true}
use mathlib.Core.Path.{◌≡◌, refl, sym, ◌∙◌}
use mathlib.Core.List.{List}
use native.Mathlib.Omega.{arith}
use lib.Dec.{eqb, ltb}
use borrow.Author.Tests.{eqb-true, ltb-true, lt-ltb, ne_eqb}
use Rattle.table.specs.Records.{kind_at, argument_at, second_child}
use Rattle.table.proofs.Laid.{both}
use Rattle.state.specs.StateBytes.{Own, in_phase}
use Rattle.state.specs.Resting.{phase_at, flags_at, count_at, zero_node, below_zero, repeats, most_runs, phase_rests, flags_rest, count_rests, rests}
use Rattle.state.specs.Inside.{Number, one_ended, counted_below}
use Rattle.state.proofs.Little.{either_true, cond_same, same_truth}
use Rattle.state.proofs.Phases.{late_phase}
use Rattle.state.proofs.Zeros.{Owns, own_zero}

abbrev flagged : ℕ → Own
flagged n = record { phase = 0; flags = n; count = 0 }

module _ {s : List ℕ} {i r : ℕ} (n : Number s i r) where
  pub phase_alone : (ph : ℕ) → r ≡ ph * 16777216 → Owns s i (in_phase ph)
  phase_alone ph e = (omega arith, omega arith, omega arith)

  flag_alone : (fl : ℕ) → fl < 256 → r ≡ fl * 65536 → Owns s i (flagged fl)
  flag_alone fl h e = (omega arith, omega arith, omega arith)

  three : eqb (phase_at s i) 3 ≡ true → eqb (flags_at s i) 0 ≡ true → eqb (count_at s i) 0 ≡ true → r ≡ 50331648
  three a b c =
      let p : phase_at s i ≡ 3 = eqb-true _ _ a in
      let f : flags_at s i ≡ 0 = eqb-true _ _ b in
      let k : count_at s i ≡ 0 = eqb-true _ _ c in
      omega arith

  flag_only : (m : ℕ) → eqb (phase_at s i) 0 ≡ true → eqb (flags_at s i) m ≡ true → eqb (count_at s i) 0 ≡ true → r ≡ m * 65536
  flag_only m a b c =
      let p : phase_at s i ≡ 0 = eqb-true _ _ a in
      let f : flags_at s i ≡ m = eqb-true _ _ b in
      let k : count_at s i ≡ 0 = eqb-true _ _ c in
      omega arith

  not_nothing : zero_node s i ≡ false → r ≡ 0 → ⊥
  not_nothing z e = false≢true (sym z ∙ own_zero s i (sym n.is ∙ e))

module _ (t s : List ℕ) (i : ℕ) where
  -- a phase alone
  pub gone_so : Owns s i (in_phase 3) → rests t s i ≡ below_zero t s i
  unfolding rests
  gone_so (a, b, c) = rw (a, b, c)

  pub second_so : Owns s i (in_phase 2) → rests t s i ≡ phase_rests t s i (kind_at t i) 2
  unfolding rests flags_rest count_rests
  second_so (a, b, c) = rw (a, b, c) (simp (cond_same, and-false, and-true))

  pub begun_so : Owns s i (in_phase 1) → rests t s i ≡ (phase_rests t s i (kind_at t i) 1 && count_rests t i (kind_at t i) 1 0)
  unfolding rests flags_rest
  begun_so (a, b, c) = rw (a, b, c) (simp cond_same)

  module _ {r : ℕ} (n : Number s i r) (z : zero_node s i ≡ false) (not-3 : r ≡ 50331648 → ⊥) where
    -- a Par rests with one flag
    par_flags : kind_at t i ≡ 4 → rests t s i ≡ true → one_ended t s i r ≡ true
    unfolding rests phase_rests flags_rest count_rests
    par_flags k h = go (eqb (phase_at s i) 3) refl (rw k at h)
      where
        first : Bool
        first = eqb (phase_at s (i + 1)) 3

        second : Bool
        second = eqb (phase_at s (second_child t i)) 3

        two : r ≡ 131072 → first ≡ true → one_ended t s i r ≡ true
        two e f = rw (e, f)

        eight : r ≡ 524288 → second ≡ true → one_ended t s i r ≡ true
        eight e f = rw (e, f)

        go : (b : Bool)
            → eqb (phase_at s i) 3 ≡ b
            → cond b (eqb (flags_at s i) 0 && (eqb (count_at s i) 0 && below_zero t s i))
            (eqb (phase_at s i) 0
            && ((eqb (flags_at s i) 0 || ((eqb (flags_at s i) 2 && first) || (eqb (flags_at s i) 8 && second))) && eqb (count_at s i) 0))
            ≡ true
            → one_ended t s i r ≡ true
        go true e g =
            let (f, more) = both {a = eqb (flags_at s i) 0} g in
            let (c, w) = both {a = eqb (count_at s i) 0} more in
            absurd (not-3 (three n e f c))
        go false e g =
            let (p, more) = both {a = eqb (phase_at s i) 0} g in
            let (f, c) = both {b = eqb (count_at s i) 0} more in
            let flag : (m : ℕ) → eqb (flags_at s i) m ≡ true → r ≡ m * 65536 = λ m x. flag_only n m p x c in
            either_true (eqb (flags_at s i) 0) ((eqb (flags_at s i) 2 && first) || (eqb (flags_at s i) 8 && second)) f
            (λ x. absurd (not_nothing n z (flag 0 x)))
            (λ f. either_true (eqb (flags_at s i) 2 && first) (eqb (flags_at s i) 8 && second) f
            (λ x. let (x, y) = both {a = eqb (flags_at s i) 2} x in two (flag 2 x) y)
            (λ x. let (x, y) = both {a = eqb (flags_at s i) 8} x in eight (flag 8 x) y))

    flags_par : kind_at t i ≡ 4 → one_ended t s i r ≡ true → rests t s i ≡ true
    unfolding rests phase_rests flags_rest count_rests
    flags_par k h =
        either_true (eqb r 131072 && eqb (phase_at s (i + 1)) 3) (eqb r 524288 && eqb (phase_at s (second_child t i)) 3) h
        (λ e.
        let (x, y) = both {a = eqb r 131072} e in
        let (a, b, c) = flag_alone n 2 (omega arith) (eqb-true _ _ x) in
        rw (k, a, b, c, y))
        (λ e.
        let (x, y) = both {a = eqb r 524288} e in
        let (a, b, c) = flag_alone n 8 (omega arith) (eqb-true _ _ x) in
        rw (k, a, b, c, y))

    pub flag_so : kind_at t i ≡ 4 → rests t s i ≡ one_ended t s i r
    flag_so k = same_truth (rests t s i) (one_ended t s i r) (par_flags k) (flags_par k)

    -- any other kind with more than a phase rests with a count
    module _ {k : ℕ} (kind : kind_at t i ≡ k) (not_par : k ≡ 4 → ⊥) (not-2 : r ≡ 33554432 → ⊥) (not-1 : r ≡ 16777216 → ⊥) where
      abbrev most : ℕ
      most = most_runs k (argument_at t i)

      by_count : rests t s i ≡ true → (repeats k && counted_below r most) ≡ true
      unfolding rests count_rests
      by_count h = go (eqb (phase_at s i) 3) refl (simp (kind, ne_eqb _ _ not_par) at h)
        where
          counting : (b : Bool)
              → (repeats k && eqb (phase_at s i) 1) ≡ b
              → phase_rests t s i k (phase_at s i) ≡ true
              → flags_at s i ≡ 0
              → cond b (ltb (count_at s i) most) (eqb (count_at s i) 0) ≡ true
              → (repeats k && counted_below r most) ≡ true
          counting true e p f c =
              let (x, y) = both {a = repeats k} e in
              let y' : phase_at s i ≡ 1 = eqb-true _ _ y in
              let c' : count_at s i < most = ltb-true _ _ c in
              let above : 16777216 < r = omega (arith, n.is) in
              let below : r < 16777216 + most = omega (arith, n.is) in
              rw (x, lt-ltb _ _ above, lt-ltb _ _ below)
          counting false e p f c =
              let c' : count_at s i ≡ 0 = eqb-true _ _ c in
              let late : 3 < phase_at s i = omega (arith, n.is, not_nothing n z) in
              absurd (false≢true (sym (late_phase t s i k (phase_at s i) late) ∙ p))

          go : (b : Bool)
              → eqb (phase_at s i) 3 ≡ b
              → cond b (eqb (flags_at s i) 0 && (eqb (count_at s i) 0 && below_zero t s i))
              (phase_rests t s i k (phase_at s i)
              && (eqb (flags_at s i) 0 && cond (repeats k && eqb (phase_at s i) 1) (ltb (count_at s i) most) (eqb (count_at s i) 0)))
              ≡ true
              → (repeats k && counted_below r most) ≡ true
          go true e g =
              let (f, more) = both {a = eqb (flags_at s i) 0} g in
              let (c, w) = both {a = eqb (count_at s i) 0} more in
              absurd (not-3 (three n e f c))
          go false e g =
              let (p, more) = both {a = phase_rests t s i k (phase_at s i)} g in
              let (f, c) = both {a = eqb (flags_at s i) 0} more in
              counting (repeats k && eqb (phase_at s i) 1) refl p (eqb-true _ _ f) c

      count_by : most < 65536 → (repeats k && counted_below r most) ≡ true → rests t s i ≡ true
      unfolding rests phase_rests count_rests
      count_by fits h =
          let (x, y) = both {a = repeats k} h in
          let (a, b) = both {a = ltb 16777216 r} y in
          let above : 16777216 < r = ltb-true _ _ a in
          let below : r < 16777216 + most = ltb-true _ _ b in
          let one : phase_at s i ≡ 1 = omega (arith, n.is) in
          let no_flag : flags_at s i ≡ 0 = omega (arith, n.is) in
          let less : count_at s i < most = omega (arith, n.is) in
          let counts : ltb (count_at s i) most ≡ true = lt-ltb _ _ less in
          either_true (eqb k 6) (eqb k 15) x
          (λ e. let f : k ≡ 6 = eqb-true _ _ e in rw (kind, one, no_flag, f) (rw f at counts))
          (λ e. let f : k ≡ 15 = eqb-true _ _ e in rw (kind, one, no_flag, f) (rw f at counts))

      pub count_so : (b : Bool) → b ≡ (repeats k && counted_below r most) → (b ≡ true → most < 65536) → rests t s i ≡ b
      count_so b is fits = same_truth (rests t s i) b (λ h. is ∙ by_count h) (λ e. count_by (fits e) (sym is ∙ e))
