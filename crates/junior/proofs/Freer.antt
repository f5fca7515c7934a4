-- What runs by some rules runs, with the same values, by others that allow rule 9 where it is used: the kernel's order of branches is one of the
-- choices. Rule 13 need not be allowed, since where the Loops' bodies stop it is never used.
use Prim.Native.Nat.{ℕ}
use mathlib.Core.Path.{◌≡◌, refl, ap, sym, ◌∙◌}
use Rattle.junior.specs.Configuration.{Env}
use Rattle.junior.specs.Values.{nonzero, runs_of}
use Rattle.junior.specs.Term.{Term, prog}
use Rattle.junior.specs.Trace.{Place}
use Rattle.junior.specs.Rules.{Allowed, Result, Rewrites, r1, r1_on, r2, r3, r4, r4_on, r5, r8, r9, r10, r11, r12, r13, r4_loop, r5_loop, r14}
use Rattle.junior.specs.Rules.{r15, r4_repeat, r5_repeat, r16, r17, r17_on, r18, r19, r19_on, r20, r21, r22, r23, r24, r25, r26, r27, r28, r29}
use Rattle.junior.specs.Rules.{r30, r31, r31_on, r32, r33, r34, r35_39, r40, r41, r42, r43, r44, r45, if_true, if_true_on, if_false}
use Rattle.junior.specs.Rules.{if_false_on}
use Rattle.junior.specs.Instant.{Instant, r47, r48, r49}
use Rattle.junior.specs.Figures.{LoopsStop}
use Rattle.junior.proofs.Kept.{prog_again, kept}
use Rattle.junior.proofs.Held.{begun}
use Rattle.junior.proofs.Figures.{loops_fresh}

module _ {free more : Allowed} (nine : free.rule_9 → more.rule_9) (same : free.value ≡ more.value) where
  pub freer : {P : Place} {t : Term} {E : Env} {r : Result}
      → Rewrites free P t E r
      → LoopsStop (prog t)
      → Rewrites more P t E r
  unfolding prog LoopsStop
  freer r1 o = r1
  freer r1_on o = r1_on
  freer r2 o = r2
  freer r3 o = r3
  freer (r4 {q = q} d e) o = r4 (freer d o.0) (freer e (loops_fresh q o.1))
  freer (r4_on d) o = r4_on (freer d o.1)
  freer (r5 d h) o = r5 (freer d o.0) h
  freer (r8 d e) o = r8 (freer d o.0) (freer e o.1)
  freer (r9 f e d) o = r9 (nine f) (freer e o.1) (freer d o.0)
  freer (r10 h d) o = r10 h (freer d o.0)
  freer (r11 h d) o = r11 h (freer d o.1)
  freer (r12 {p = p} d h) o = r12 (freer d (loops_fresh p o.1)) h
  freer (r13 {p = p} f d e) o = absurd (begun p d o.0 refl)
  freer (r4_loop d e) o = r4_loop (freer d o.1) (freer e o)
  freer (r5_loop d h) o = r5_loop (freer d o.1) h
  freer (r14 {n = n} h) o = r14 (ap (λ w. runs_of w n) (sym same) ∙ h)
  freer (r15 {n = n} {p = p} h d) o = r15 (ap (λ w. runs_of w n) (sym same) ∙ h) (freer d (loops_fresh p o))
  freer (r4_repeat {n = n} {k = k} {t = t} d e) o =
      r4_repeat (freer d o) (freer e (rw (prog_again n k (prog t)) o))
  freer (r5_repeat d h) o = r5_repeat (freer d o) h
  freer r16 o = r16
  freer (r17 {p = p} s h d) o = r17 s h (freer d (loops_fresh p o.0))
  freer (r17_on d) o = r17_on (freer d o.0)
  freer (r18 s h) o = r18 s h
  freer (r19 {q = q} s h d) o = r19 s h (freer d (loops_fresh q o.1))
  freer (r19_on d) o = r19_on (freer d o.1)
  freer (r20 s h) o = r20 s h
  freer (r21 s) o = r21 s
  freer (r22 s h) o = r22 s h
  freer (r23 s h) o = r23 s h
  freer (r24 s) o = r24 s
  freer (r25 s) o = r25 s
  freer (r26 s d) o = r26 s (freer d o)
  freer (r27 s) o = r27 s
  freer (r28 s) o = r28 s
  freer (r29 d h) o = r29 (freer d o.0) h
  freer (r30 d e) o = r30 (freer d o.0) (freer e (rw (kept d) o))
  freer (r31 {q = q} s h d) o = r31 s h (freer d (loops_fresh q o.1))
  freer (r31_on d) o = r31_on (freer d o.1)
  freer (r32 s h) o = r32 s h
  freer (r33 s) o = r33 s
  freer (r34 s) o = r34 s
  freer (r35_39 d) o = r35_39 (freer d o)
  freer (r40 d h) o = r40 (freer d o) h
  freer (r41 d e) o = r41 (freer d o) (freer e (rw (kept d) o))
  freer (r42 s h) o = r42 s h
  freer (r43 s h) o = r43 s h
  freer (r44 s) o = r44 s
  freer (r45 s) o = r45 s
  freer (if_true {v = v} {p = p} h d) o = if_true (ap (λ w. nonzero (w v)) (sym same) ∙ h) (freer d (loops_fresh p o.0))
  freer (if_true_on d) o = if_true_on (freer d o.0)
  freer (if_false {v = v} {q = q} h d) o = if_false (ap (λ w. nonzero (w v)) (sym same) ∙ h) (freer d (loops_fresh q o.1))
  freer (if_false_on d) o = if_false_on (freer d o.1)

  pub freer_instant : {t : Term} {E : Env} {n : ℕ} {r : Result} → Instant free t E n r → LoopsStop (prog t) → Instant more t E n r
  freer_instant (r47 d h) o = r47 (freer d o) h
  freer_instant (r48 d h m i) o = r48 (freer d o) h m (freer_instant i (rw (kept d) o))
  freer_instant (r49 d h m i) o = r49 (freer d o) h m (freer_instant i (rw (kept d) o))
