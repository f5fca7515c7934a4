-- A rewriting has one result, an instant one outcome.
use Prim.Native.Nat.{ℕ, suc}
use mathlib.Core.Bool.{true, false}
use mathlib.Core.Path.{◌≡◌, refl, ap, ap₂, sym, ◌∙◌, subst⁻¹}
use mathlib.Core.List.{[], ◌∷◌, ◌++◌}
use native.Mathlib.Omega.{arith}
use Rattle.junior.specs.Configuration.{Event, Env, declared_end, unmoved}
use Rattle.junior.specs.Values.{Values}
use Rattle.junior.specs.Term.{Term, prog, seq0, seq2, loop1, repeat1, when1, when2, until0, until*, until2, control, freezable0, freezable*}
use Rattle.junior.specs.Term.{if1, if2, fresh}
use Rattle.junior.specs.Trace.{Place, decided}
use Rattle.junior.specs.Rules.{left_first, Result, under, after, joined, left_scope, Rewrites, r1, r1_on, r2, r3, r4, r4_on, r5, r8, r9, r10, r11}
use Rattle.junior.specs.Rules.{r12, r13, r4_loop, r5_loop, r14, r15, r4_repeat, r5_repeat, r16, r17, r17_on, r18, r19, r19_on, r20, r21, r22}
use Rattle.junior.specs.Rules.{r23, r24, r25, r26, r27, r28, r29, r30, r31, r31_on, r32, r33, r34, r35_39, r40, r41, r42, r43, r44, r45}
use Rattle.junior.specs.Rules.{if_true, if_true_on, if_false, if_false_on}
use Rattle.junior.specs.Instant.{Instant, r47, r48, r49}

same_flag : {r s : Result} → r ≡ s → r.flag ≡ s.flag
same_flag x = ap (λ r. r.flag) x

-- what runs in the environment that s left runs in the one that r left, r being s
from : {value : Values} {P : Place} {t : Term} {r s u : Result} → r ≡ s → Rewrites (left_first value) P t s.env u
    → Rewrites (left_first value) P t r.env u
from {value} {P} {t} {u = u} x d = subst⁻¹ (λ r. Rewrites (left_first value) P t r.env u) x d

-- by one rule twice, the answers are one as the parts' are; by two rules, a flag or a test would have to be two
pub one_result : {value : Values} {P : Place} {t : Term} {E : Env} {r s : Result}
    → Rewrites (left_first value) P t E r
    → Rewrites (left_first value) P t E s
    → r ≡ s
one_result r1 r1 = refl
one_result r1_on r1_on = refl
one_result r2 r2 = refl
one_result r3 r3 = refl
one_result (r4 {t = t} d e) (r4 d' e') =
    let x = one_result d d' in
    ap₂ (λ r s. after r.acts (under (seq2 (prog t)) s)) x (one_result e (from x e'))
one_result (r4 d e) (r5 d' h) = absurd (h (sym (same_flag (one_result d d'))))
one_result (r4_on {p = p} d) (r4_on d') = ap (under (seq2 p)) (one_result d d')
one_result (r5 d h) (r4 d' e) = absurd (h (same_flag (one_result d d')))
one_result (r5 {q = q} d h) (r5 d' h') = ap (under (λ t. seq0 t q)) (one_result d d')
one_result (r8 d e) (r8 d' e') =
    let x = one_result d d' in
    let y = one_result e (from x e') in
    ap₂ (λ r s. joined r.flag s.flag r.to s.to s.env (r.acts ++ s.acts)) x y
one_result (r8 d e) (r9 x _ _) = elim x [ ]
one_result (r8 d e) (r10 h d') = absurd (h refl)
one_result (r8 d e) (r11 h d') = absurd (h refl)
one_result (r9 x _ _) _ = elim x [ ]
one_result (r10 h d) (r8 d' e) = absurd (h refl)
one_result (r10 h d) (r9 x _ _) = elim x [ ]
one_result (r10 {β = β} {u = u} h d) (r10 h' d') =
    ap (λ r. joined r.flag β r.to u r.env r.acts) (one_result d d')
one_result (r10 h d) (r11 h' d') = absurd (h refl)
one_result (r11 h d) (r8 d' e) = absurd (h refl)
one_result (r11 h d) (r9 x _ _) = elim x [ ]
one_result (r11 h d) (r10 h' d') = absurd (h refl)
one_result (r11 {α = α} {t = t} h d) (r11 h' d') =
    ap (λ r. joined α r.flag t r.to r.env r.acts) (one_result d d')
one_result (r12 d h) (r12 d' h') = ap (under loop1) (one_result d d')
one_result (r12 d h) (r13 f d' e) = absurd (h (same_flag (one_result d d')))
one_result (r13 f d e) (r12 d' h) = absurd (h (sym (same_flag (one_result d d'))))
one_result (r13 f d e) (r13 f' d' e') =
    let x = one_result d d' in
    ap₂ (λ r. after r.acts) x (one_result e (from x e'))
one_result (r4_loop d e) (r4_loop d' e') =
    let x = one_result d d' in
    ap₂ (λ r. after r.acts) x (one_result e (from x e'))
one_result (r4_loop d e) (r5_loop d' h) = absurd (h (sym (same_flag (one_result d d'))))
one_result (r5_loop d h) (r4_loop d' e) = absurd (h (same_flag (one_result d d')))
one_result (r5_loop d h) (r5_loop d' h') = ap (under loop1) (one_result d d')
one_result (r14 h) (r14 h') = refl
one_result (r14 h) (r15 h' d') = absurd (omega (arith, sym h ∙ h'))
one_result (r15 h d) (r14 h') = absurd (omega (arith, sym h ∙ h'))
one_result {value = value} (r15 {P = P} {E = E} {n = n} {k = k} {p = p} h d) (r15 {k = k'} {r = s} h' d') =
    let same : k ≡ k' = omega (arith, sym h ∙ h') in
    one_result d (subst⁻¹ (λ k. Rewrites (left_first value) P (repeat1 n k (fresh p)) E s) same d')
one_result (r4_repeat d e) (r4_repeat d' e') =
    let x = one_result d d' in
    ap₂ (λ r. after r.acts) x (one_result e (from x e'))
one_result (r4_repeat d e) (r5_repeat d' h) = absurd (h (sym (same_flag (one_result d d'))))
one_result (r5_repeat d h) (r4_repeat d' e) = absurd (h (same_flag (one_result d d')))
one_result (r5_repeat {n = n} {k = k} d h) (r5_repeat d' h') = ap (under (repeat1 n k)) (one_result d d')
one_result r16 r16 = refl
one_result (r17 {P = P} {E = E} {c = c} {q = q} s h d) (r17 s' h' d') =
    ap (λ r. after (decided P c true E ∷ []) (under (λ t. when1 c t q) r)) (one_result d d')
one_result (r17 s h d) (r18 s' h') = cc
one_result (r17 s h d) (r19 s' h' d') = cc
one_result (r17 s h d) (r20 s' h') = cc
one_result (r17 s h d) (r21 s') = cc
one_result (r17_on {c = c} {q = q} d) (r17_on d') = ap (under (λ t. when1 c t q)) (one_result d d')
one_result (r18 s h) (r17 s' h' d') = cc
one_result (r18 s h) (r18 s' h') = refl
one_result (r18 s h) (r19 s' h' d') = cc
one_result (r18 s h) (r20 s' h') = cc
one_result (r18 s h) (r21 s') = cc
one_result (r19 s h d) (r17 s' h' d') = cc
one_result (r19 s h d) (r18 s' h') = cc
one_result (r19 {P = P} {E = E} {c = c} {p = p} s h d) (r19 s' h' d') =
    ap (λ r. after (decided P c false E ∷ []) (under (when2 c p) r)) (one_result d d')
one_result (r19 s h d) (r20 s' h') = cc
one_result (r19 s h d) (r21 s') = cc
one_result (r19_on {c = c} {p = p} d) (r19_on d') = ap (under (when2 c p)) (one_result d d')
one_result (r20 s h) (r17 s' h' d') = cc
one_result (r20 s h) (r18 s' h') = cc
one_result (r20 s h) (r19 s' h' d') = cc
one_result (r20 s h) (r20 s' h') = refl
one_result (r20 s h) (r21 s') = cc
one_result (r21 s) (r17 s' h' d') = cc
one_result (r21 s) (r18 s' h') = cc
one_result (r21 s) (r19 s' h' d') = cc
one_result (r21 s) (r20 s' h') = cc
one_result (r21 s) (r21 s') = refl
one_result (r22 s h) (r22 s' h') = refl
one_result (r22 s h) (r23 s' h') = cc
one_result (r22 s h) (r24 s') = cc
one_result (r22 s h) (r25 s') = cc
one_result (r23 s h) (r22 s' h') = cc
one_result (r23 s h) (r23 s' h') = refl
one_result (r23 s h) (r24 s') = cc
one_result (r23 s h) (r25 s') = cc
one_result (r24 s) (r22 s' h') = cc
one_result (r24 s) (r23 s' h') = cc
one_result (r24 s) (r24 s') = refl
one_result (r24 s) (r25 s') = cc
one_result (r25 s) (r22 s' h') = cc
one_result (r25 s) (r23 s' h') = cc
one_result (r25 s) (r24 s') = cc
one_result (r25 s) (r25 s') = refl
one_result (r26 {P = P} {E = E} {s = s} h d) (r26 h' d') =
    ap (λ r. after (decided P (Event s) true E ∷ []) (under (control s) r)) (one_result d d')
one_result (r26 h d) (r27 h') = cc
one_result (r26 h d) (r28 h') = cc
one_result (r27 h) (r26 h' d') = cc
one_result (r27 h) (r27 h') = refl
one_result (r27 h) (r28 h') = cc
one_result (r28 h) (r26 h' d') = cc
one_result (r28 h) (r27 h') = cc
one_result (r28 h) (r28 h') = refl
one_result (r29 {c = c} {q = q} d h) (r29 d' h') = ap (under (λ t. until0 c t q)) (one_result d d')
one_result (r29 d h) (r30 d' e) = absurd (h (same_flag (one_result d d')))
one_result (r30 d e) (r29 d' h) = absurd (h (sym (same_flag (one_result d d'))))
one_result {value = value} (r30 {P = P} {c = c} {q = q} d e) (r30 {E' = F} {r = s} d' e') =
    let x = one_result d d' in
    let y = one_result e (from x (subst⁻¹ (λ t. Rewrites (left_first value) P (until* c t q) F s) (ap (λ r. r.to) x) e')) in
    ap₂ (λ r. after r.acts) x y
one_result (r31 {P = P} {E = E} {c = c} {t = t} s h d) (r31 s' h' d') =
    ap (λ r. after (decided P c true E ∷ []) (under (until2 c (prog t)) r)) (one_result d d')
one_result (r31 s h d) (r32 s' h') = cc
one_result (r31 s h d) (r33 s') = cc
one_result (r31 s h d) (r34 s') = cc
one_result (r31_on {c = c} {p = p} d) (r31_on d') = ap (under (until2 c p)) (one_result d d')
one_result (r32 s h) (r31 s' h' d') = cc
one_result (r32 s h) (r32 s' h') = refl
one_result (r32 s h) (r33 s') = cc
one_result (r32 s h) (r34 s') = cc
one_result (r33 s) (r31 s' h' d') = cc
one_result (r33 s) (r32 s' h') = cc
one_result (r33 s) (r33 s') = refl
one_result (r33 s) (r34 s') = cc
one_result (r34 s) (r31 s' h' d') = cc
one_result (r34 s) (r32 s' h') = cc
one_result (r34 s) (r33 s') = cc
one_result (r34 s) (r34 s') = refl
one_result (r35_39 {P = P} {E = E} {b = b} {s = s} d) (r35_39 d') = ap (left_scope P b s E) (one_result d d')
one_result (r40 {s = s} d h) (r40 d' h') = ap (under (freezable0 s)) (one_result d d')
one_result (r40 d h) (r41 d' e) = absurd (h (same_flag (one_result d d')))
one_result (r41 d e) (r40 d' h) = absurd (h (sym (same_flag (one_result d d'))))
one_result {value = value} (r41 {P = P} {s = s} d e) (r41 {E' = F} {r = r} d' e') =
    let x = one_result d d' in
    let y = one_result e (from x (subst⁻¹ (λ t. Rewrites (left_first value) P (freezable* s t) F r) (ap (λ r. r.to) x) e')) in
    ap₂ (λ r. after r.acts) x y
one_result (r42 s h) (r42 s' h') = refl
one_result (r42 s h) (r43 s' h') = cc
one_result (r42 s h) (r44 s') = cc
one_result (r42 s h) (r45 s') = cc
one_result (r43 s h) (r42 s' h') = cc
one_result (r43 s h) (r43 s' h') = refl
one_result (r43 s h) (r44 s') = cc
one_result (r43 s h) (r45 s') = cc
one_result (r44 s) (r42 s' h') = cc
one_result (r44 s) (r43 s' h') = cc
one_result (r44 s) (r44 s') = refl
one_result (r44 s) (r45 s') = cc
one_result (r45 s) (r42 s' h') = cc
one_result (r45 s) (r43 s' h') = cc
one_result (r45 s) (r44 s') = cc
one_result (r45 s) (r45 s') = refl
one_result (if_true {v = v} {q = q} h d) (if_true h' d') = ap (under (λ t. if1 v t q)) (one_result d d')
one_result (if_true h d) (if_false h' d') = cc
one_result (if_true_on {v = v} {q = q} d) (if_true_on d') = ap (under (λ t. if1 v t q)) (one_result d d')
one_result (if_false h d) (if_true h' d') = cc
one_result (if_false {v = v} {p = p} h d) (if_false h' d') = ap (under (if2 v p)) (one_result d d')
one_result (if_false_on {v = v} {p = p} d) (if_false_on d') = ap (under (if2 v p)) (one_result d d')

pub one_outcome : {value : Values} {t : Term} {E : Env} {m n : ℕ} {r s : Result}
    → Instant (left_first value) t E m r
    → Instant (left_first value) t E n s
    → (m ≡ n) × (r ≡ s)
one_outcome (r47 d h) (r47 d' h') = (refl, one_result d d')
one_outcome (r47 d h) (r48 d' f m i) = absurd (h (same_flag (one_result d d') ∙ f))
one_outcome (r47 d h) (r49 d' f m i) = absurd (h (same_flag (one_result d d') ∙ f))
one_outcome (r48 d f m i) (r47 d' h) = absurd (h (sym (same_flag (one_result d d')) ∙ f))
one_outcome {value = value} (r48 d f m i) (r48 {n = n} {s = s} d' f' m' i') =
    let x = one_result d d' in
    let o = one_outcome i (subst⁻¹ (λ r. Instant (left_first value) r.to (declared_end r.env) n s) x i') in
    (ap suc o.0, ap₂ (λ r. after r.acts) x o.1)
one_outcome (r48 d f m i) (r49 d' f' m' i') = let x = one_result d d' in (cc, cc)
one_outcome (r49 d f m i) (r47 d' h) = absurd (h (sym (same_flag (one_result d d')) ∙ f))
one_outcome (r49 d f m i) (r48 d' f' m' i') = let x = one_result d d' in (cc, cc)
one_outcome {value = value} (r49 d f m i) (r49 {n = n} {s = s} d' f' m' i') =
    let x = one_result d d' in
    let o = one_outcome i (subst⁻¹ (λ r. Instant (left_first value) r.to (unmoved r.env) n s) x i') in
    (ap suc o.0, ap₂ (λ r. after r.acts) x o.1)
