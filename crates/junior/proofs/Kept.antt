-- A pass changes a term's state and never its program.
use mathlib.Core.Path.{◌≡◌, refl, ap, ap₂, ◌∙◌}
use Rattle.junior.specs.declared.Flag.{Flag}
use Rattle.junior.specs.declared.Flag.TheVariants.{SUSP, STOP, TERM}
use Prim.Native.Nat.{ℕ, zero, suc}
use Rattle.junior.specs.Configuration.{Env}
use Rattle.junior.specs.Program.{Program, Seq, Par, Loop, Repeat, When, Until, Control, Local, Freezable, If}
use Rattle.junior.specs.Values.{Times}
use Rattle.junior.specs.Term.{Term, prog, leave}
use Rattle.junior.specs.Trace.{Place}
use Rattle.junior.specs.Rules.{Allowed, Result, again, Rewrites, r1, r1_on, r2, r3, r4, r4_on, r5, r8, r9, r10, r11, r12, r13, r4_loop, r5_loop}
use Rattle.junior.specs.Rules.{r14, r15, r4_repeat, r5_repeat, r16, r17, r17_on, r18, r19, r19_on, r20, r21, r22, r23, r24, r25, r26, r27, r28}
use Rattle.junior.specs.Rules.{r29, r30, r31, r31_on, r32, r33, r34, r35_39, r40, r41, r42, r43, r44, r45, if_true, if_true_on, if_false}
use Rattle.junior.specs.Rules.{if_false_on}
use Rattle.junior.proofs.Fresh.{prog_fresh}

pub prog_leave : (α : Flag) (t : Term) → prog (leave α t) ≡ prog t
unfolding prog leave
prog_leave SUSP t = refl
prog_leave STOP t = refl
prog_leave TERM t = refl

pub prog_again : (n : Times) (k : ℕ) (p : Program) → prog (again n k p) ≡ Repeat n p
unfolding prog
prog_again n zero p = refl
prog_again n (suc k) p = ap (Repeat n) (prog_fresh p)

pub kept : {free : Allowed} {P : Place} {t : Term} {E : Env} {r : Result} → Rewrites free P t E r → prog r.to ≡ prog t
unfolding prog
kept r1 = refl
kept r1_on = refl
kept r2 = refl
kept r3 = refl
kept (r4 {q = q} d e) = simp (prog_leave, kept e, prog_fresh)
kept (r4_on {p = p} d) = simp prog_leave (ap (Seq p) (kept d))
kept (r5 {q = q} d h) = simp prog_leave (ap (λ x. Seq x q) (kept d))
kept (r8 d e) = simp prog_leave (ap₂ Par (kept d) (kept e))
kept (r9 f e d) = simp prog_leave (ap₂ Par (kept d) (kept e))
kept (r10 {u = u} h d) = simp prog_leave (ap (λ x. Par x (prog u)) (kept d))
kept (r11 {t = t} h d) = simp prog_leave (ap (Par (prog t)) (kept d))
kept (r12 {p = p} d h) = simp prog_leave (ap Loop (kept d ∙ prog_fresh p))
kept (r13 f d e) = kept e
kept (r4_loop d e) = kept e
kept (r5_loop d h) = simp prog_leave (ap Loop (kept d))
kept (r14 h) = refl
kept (r15 {n = n} {p = p} h d) = kept d ∙ ap (Repeat n) (prog_fresh p)
kept (r4_repeat {n = n} {k = k} {t = t} d e) = kept e ∙ prog_again n k (prog t)
kept (r5_repeat {n = n} d h) = simp prog_leave (ap (Repeat n) (kept d))
kept r16 = refl
kept (r17 {c = c} {p = p} {q = q} s h d) = simp prog_leave (ap (λ x. When c x q) (kept d ∙ prog_fresh p))
kept (r17_on {c = c} {q = q} d) = simp prog_leave (ap (λ x. When c x q) (kept d))
kept (r18 {c = c} {p = p} {q = q} s h) = ap (λ x. When c x q) (prog_fresh p)
kept (r19 {c = c} {p = p} {q = q} s h d) = simp prog_leave (ap (When c p) (kept d ∙ prog_fresh q))
kept (r19_on {c = c} {p = p} d) = simp prog_leave (ap (When c p) (kept d))
kept (r20 {c = c} {p = p} {q = q} s h) = ap (When c p) (prog_fresh q)
kept (r21 s) = refl
kept (r22 s h) = refl
kept (r23 s h) = refl
kept (r24 s) = refl
kept (r25 s) = refl
kept (r26 {s = s} h d) = simp prog_leave (ap (Control s) (kept d))
kept (r27 s) = refl
kept (r28 s) = refl
kept (r29 {c = c} {q = q} d h) = simp prog_leave (ap (λ x. Until c x q) (kept d))
kept (r30 {c = c} {q = q} d e) = kept e ∙ ap (λ x. Until c x q) (kept d)
kept (r31 {c = c} {t = t} {q = q} s h d) = simp prog_leave (ap (Until c (prog t)) (kept d ∙ prog_fresh q))
kept (r31_on {c = c} {p = p} d) = simp prog_leave (ap (Until c p) (kept d))
kept (r32 {c = c} {t = t} {q = q} s h) = ap (Until c (prog t)) (prog_fresh q)
kept (r33 s) = refl
kept (r34 s) = refl
kept (r35_39 {s = s} d) = simp prog_leave (ap (Local s) (kept d))
kept (r40 {s = s} d h) = simp prog_leave (ap (Freezable s) (kept d))
kept (r41 {s = s} d e) = kept e ∙ ap (Freezable s) (kept d)
kept (r42 s h) = refl
kept (r43 s h) = refl
kept (r44 s) = refl
kept (r45 s) = refl
kept (if_true {v = v} {p = p} {q = q} h d) = simp prog_leave (ap (λ x. If v x q) (kept d ∙ prog_fresh p))
kept (if_true_on {v = v} {q = q} d) = simp prog_leave (ap (λ x. If v x q) (kept d))
kept (if_false {v = v} {p = p} {q = q} h d) = simp prog_leave (ap (If v p) (kept d ∙ prog_fresh q))
kept (if_false_on {v = v} {p = p} d) = simp prog_leave (ap (If v p) (kept d))
