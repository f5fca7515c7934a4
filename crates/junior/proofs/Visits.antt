-- What W bounds. Over any own weights: what one pass of an instant runs weighs at most the program's figure. So a pass runs at most W
-- nodes, and an instant, which has at most G + 2 passes, at most (G + 2) * W.
use Prim.Native.Nat.{ℕ, suc, ◌+◌, ◌*◌, ◌≤◌}
use mathlib.Core.Path.{◌≡◌, refl, ap}
use mathlib.Core.List.{List, [], ◌∷◌}
use native.Mathlib.Omega.{arith}
use native.Mathlib.Nat.{le_trans, mul-le-mul_right, zero-mul, suc-mul}
use lib.ListN.{length}
use Rattle.events.specs.Events.{Events}
use Rattle.junior.specs.Configuration.{Env, handed_in}
use Rattle.junior.specs.Program.{Program, Repeat, Until, Freezable}
use Rattle.junior.specs.Values.{most}
use Rattle.junior.specs.Term.{Term, prog, fresh}
use Rattle.junior.specs.Trace.{Place}
use Rattle.junior.specs.Rules.{Allowed, Result, Rewrites, r1, r1_on, r2, r3, r4, r4_on, r5, r8, r9, r10, r11, r12, r13, r4_loop, r5_loop, r14}
use Rattle.junior.specs.Rules.{r15, r4_repeat, r5_repeat, r16, r17, r17_on, r18, r19, r19_on, r20, r21, r22, r23, r24, r25, r26, r27, r28, r29}
use Rattle.junior.specs.Rules.{r30, r31, r31_on, r32, r33, r34, r35_39, r40, r41, r42, r43, r44, r45, if_true, if_true_on, if_false}
use Rattle.junior.specs.Rules.{if_false_on}
use Rattle.junior.specs.Instant.{Instant, r47, r48, r49}
use Rattle.junior.specs.Figures.{stops, LoopsStop, figure, every, G, W}
use Rattle.junior.specs.AtRest.{AtRest}
use Rattle.junior.specs.Visits.{below, visits, visits_by_pass, EachAtMost, sum}
use Rattle.junior.specs.Inside.{Going, pot}
use Rattle.junior.proofs.Times.{below_most}
use Rattle.junior.proofs.Fresh.{prog_fresh}
use Rattle.junior.proofs.Kept.{prog_again, kept}
use Rattle.junior.proofs.Going.{rest_going}
use Rattle.junior.proofs.Held.{begun, ends_unheld}
use Rattle.junior.proofs.Figures.{due_times, loops_fresh, pot_going, pot_fresh, repeat_fresh, pot_again}
use Rattle.junior.proofs.Instants.{goes_on, within_passes}

module _ (k : Program → ℕ) where
  fresh_within : (p : Program) (n : ℕ) → k (prog (fresh p)) + n ≤ pot k (fresh p) → k p + n ≤ figure k p
  fresh_within p n h = omega (arith, h, pot_fresh k p, ap k (prog_fresh p))

  -- a pass, by what stands in the term
  pub within_pot : {free : Allowed} {P : Place} {t : Term} {E : Env} {r : Result} (d : Rewrites free P t E r)
      → LoopsStop (prog t)
      → visits k d ≤ pot k t
  unfolding below pot prog LoopsStop
  within_pot r1 o = omega arith
  within_pot r1_on o = omega arith
  within_pot r2 o = omega arith
  within_pot r3 o = omega arith
  within_pot (r4 {q = q} d e) o = omega (arith, within_pot d o.0, fresh_within q _ (within_pot e (loops_fresh q o.1)))
  within_pot (r4_on d) o = omega (arith, within_pot d o.1)
  within_pot (r5 d n) o = omega (arith, within_pot d o.0)
  within_pot (r8 d e) o = omega (arith, within_pot d o.0, within_pot e o.1)
  within_pot (r9 f e d) o = omega (arith, within_pot d o.0, within_pot e o.1)
  within_pot (r10 n d) o = omega (arith, within_pot d o.0)
  within_pot (r11 n d) o = omega (arith, within_pot d o.1)
  within_pot (r12 {p = p} d n) o = omega (arith, fresh_within p _ (within_pot d (loops_fresh p o.1)))
  within_pot (r13 {p = p} f d e) o = absurd (begun p d o.0 refl)
  within_pot (r4_loop d e) o = simp (ends_unheld d) (omega (arith, within_pot d o.1, within_pot e o))
  within_pot (r5_loop d n) o = omega (arith, within_pot d o.1)
  within_pot (r14 h) o = omega arith
  within_pot (r15 {n = n} {k = j} {p = p} h d) o =
      omega (
        arith,
        within_pot d (loops_fresh p o),
        ap (λ x. k (Repeat n x)) (prog_fresh p),
        repeat_fresh k n j _ p (due_times (most n) j (stops p) (stops p) (below_most _ n h)),
      )
  within_pot (r4_repeat {n = n} {k = j} {t = t} d e) o =
      simp (ends_unheld d)
      (omega (
        arith,
        within_pot d o,
        within_pot e (rw (prog_again n j (prog t)) o),
        ap k (prog_again n j (prog t)),
        pot_again k n j (prog t),
      ))
  within_pot (r5_repeat d n) o = omega (arith, within_pot d o)
  within_pot r16 o = omega arith
  within_pot (r17 {p = p} s h d) o = omega (arith, fresh_within p _ (within_pot d (loops_fresh p o.0)))
  within_pot (r17_on d) o = omega (arith, within_pot d o.0)
  within_pot (r18 s h) o = omega arith
  within_pot (r19 {q = q} s h d) o = omega (arith, fresh_within q _ (within_pot d (loops_fresh q o.1)))
  within_pot (r19_on d) o = omega (arith, within_pot d o.1)
  within_pot (r20 s h) o = omega arith
  within_pot (r21 s) o = omega arith
  within_pot (r22 s h) o = omega arith
  within_pot (r23 s h) o = omega arith
  within_pot (r24 s) o = omega arith
  within_pot (r25 s) o = omega arith
  within_pot (r26 s d) o = omega (arith, within_pot d o)
  within_pot (r27 s) o = omega arith
  within_pot (r28 s) o = omega arith
  within_pot (r29 d n) o = omega (arith, within_pot d o.0)
  within_pot (r30 {c = c} {q = q} d e) o =
      omega (arith, within_pot d o.0, within_pot e (rw (kept d) o.0, o.1), ap (λ x. k (Until c x q)) (kept d))
  within_pot (r31 {q = q} s h d) o = omega (arith, fresh_within q _ (within_pot d (loops_fresh q o.1)))
  within_pot (r31_on d) o = omega (arith, within_pot d o.1)
  within_pot (r32 s h) o = omega arith
  within_pot (r33 s) o = omega arith
  within_pot (r34 s) o = omega arith
  within_pot (r35_39 d) o = omega (arith, within_pot d o)
  within_pot (r40 d n) o = omega (arith, within_pot d o)
  within_pot (r41 {s = s} d e) o =
      omega (arith, within_pot d o, within_pot e (rw (kept d) o), ap (λ x. k (Freezable s x)) (kept d))
  within_pot (r42 s h) o = omega arith
  within_pot (r43 s h) o = omega arith
  within_pot (r44 s) o = omega arith
  within_pot (r45 s) o = omega arith
  within_pot (if_true {p = p} h d) o = omega (arith, fresh_within p _ (within_pot d (loops_fresh p o.0)))
  within_pot (if_true_on d) o = omega (arith, within_pot d o.0)
  within_pot (if_false {q = q} h d) o = omega (arith, fresh_within q _ (within_pot d (loops_fresh q o.1)))
  within_pot (if_false_on d) o = omega (arith, within_pot d o.1)

  -- so, in the middle of an instant, at most the figure
  pub pass_within_figure : {free : Allowed} {P : Place} {t : Term} {E : Env} {r : Result} (d : Rewrites free P t E r)
      → LoopsStop (prog t)
      → Going E.now t
      → visits k d ≤ figure k (prog t)
  pass_within_figure {t = t} {E = E} d o g = le_trans (within_pot d o) (pot_going k E.now t g)

  each_going : {free : Allowed} {t : Term} {E : Env} {n : ℕ} {r : Result} (i : Instant free t E n r)
      → LoopsStop (prog t)
      → Going E.now t
      → EachAtMost (figure k (prog t)) (visits_by_pass k i)
  unfolding visits_by_pass EachAtMost
  each_going (r47 d h) o g = (pass_within_figure d o g, tt)
  each_going (r48 d h m i) o g =
      (pass_within_figure d o g, rw (kept d) at (each_going i (rw (kept d) o) (goes_on d g h)))
  each_going (r49 d h m i) o g =
      (pass_within_figure d o g, rw (kept d) at (each_going i (rw (kept d) o) (goes_on d g h)))

  -- and so does every pass of an instant that began at rest
  pub each_within_figure : {free : Allowed} {t : Term} {E : Env} {n : ℕ} {r : Result} (i : Instant free t E n r)
      → LoopsStop (prog t)
      → AtRest t
      → EachAtMost (figure k (prog t)) (visits_by_pass k i)
  each_within_figure {t = t} {E = E} i o a = each_going i o (rest_going E.now t a)

  pub one_count_a_pass : {free : Allowed} {t : Term} {E : Env} {n : ℕ} {r : Result} (i : Instant free t E n r)
      → length (visits_by_pass k i) ≡ n
  unfolding visits_by_pass
  one_count_a_pass (r47 d h) = refl
  one_count_a_pass (r48 d h m i) = ap suc (one_count_a_pass i)
  one_count_a_pass (r49 d h m i) = ap suc (one_count_a_pass i)

sum_within : (w : ℕ) (l : List ℕ) → EachAtMost w l → sum l ≤ length l * w
unfolding EachAtMost sum
sum_within w [] h = omega (arith, zero-mul w)
sum_within w (n ∷ l) h = omega (arith, h.0, sum_within w l h.1, suc-mul (length l) w)

-- at most W nodes in a pass, and (G + 2) * W in an instant
pub at_most-W : {free : Allowed} {t : Term} {E : Env} {n : ℕ} {r : Result} (i : Instant free t E n r)
    → LoopsStop (prog t)
    → AtRest t
    → EachAtMost (W (prog t)) (visits_by_pass every i)
at_most-W i o a = each_within_figure every i o a

pub at_most_in_all : {free : Allowed} {t : Term} {X : Events} {n : ℕ} {r : Result} (i : Instant free t (handed_in X) n r)
    → LoopsStop (prog t)
    → AtRest t
    → sum (visits_by_pass every i) ≤ (G (prog t) + 2) * W (prog t)
at_most_in_all {t = t} i o a =
    le_trans (rw (one_count_a_pass every i) at (sum_within (W (prog t)) _ (at_most-W i o a)))
    (mul-le-mul_right (W (prog t)) (within_passes i o a))
