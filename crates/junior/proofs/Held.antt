-- What stops can't end in its instant: so a Loop's body that stops never answers TERM in the pass that begins it.
use mathlib.Core.Bool.{Bool, true, false, ◌&&◌, ◌||◌, and-eq-true_iff, false≢true, or-true}
use mathlib.Core.Path.{◌≡◌, refl, ap, sym, ◌∙◌, subst}
use mathlib.Core.Logic.{◌≢◌}
use mathlib.Core.List.{List}
use Prim.Native.Nat.{ℕ, zero, suc}
use lib.Dec.{leb}
use Rattle.junior.specs.declared.Flag.{Flag}
use Rattle.junior.specs.declared.Flag.TheVariants.{SUSP, STOP, TERM}
use Rattle.junior.specs.Flags.{γ, δ₁, δ₂}
use Rattle.junior.specs.Configuration.{Env, early_true}
use Rattle.junior.specs.Program.{Program}
use Rattle.junior.specs.Values.{Times, surely}
use Rattle.junior.specs.Term.{Term, repeat1, prog, fresh, leave}
use Rattle.junior.specs.Trace.{Place, Act}
use Rattle.junior.specs.Rules.{Allowed, Result, answers, again, Rewrites, r1, r1_on, r2, r3, r4, r4_on, r5, r8, r9, r10, r11, r12, r13, r4_loop}
use Rattle.junior.specs.Rules.{r5_loop, r14, r15, r4_repeat, r5_repeat, r16, r17, r17_on, r18, r19, r19_on, r20, r21, r22, r23, r24, r25, r26}
use Rattle.junior.specs.Rules.{r27, r28, r29, r30, r31, r31_on, r32, r33, r34, r35_39, r40, r41, r42, r43, r44, r45, if_true, if_true_on}
use Rattle.junior.specs.Rules.{if_false, if_false_on}
use Rattle.junior.specs.Instant.{Instant, r47, r48, r49}
use Rattle.junior.specs.Figures.{only_if, stops}
use Rattle.junior.specs.Inside.{live, held}
use Rattle.junior.proofs.Times.{unsure}
use Rattle.junior.proofs.Fresh.{held_fresh}
use Rattle.junior.proofs.Kept.{kept}
use Rattle.junior.proofs.Verdicts.{sat_early, unsat_early}

-- an either-or, part by part
pub either : (a b : Bool) {c d : Bool}
    → (a ≡ true → c ≡ true)
    → (b ≡ true → d ≡ true)
    → (a || b) ≡ true
    → (c || d) ≡ true
either true b {c} {d} f g h = ap (λ x. x || d) (f refl)
either false b {c} {d} f g h = ap (λ x. c || x) (g h) ∙ or-true c

-- the second, where the first isn't so
or_else : (a b : Bool) → (a ≡ true → false ≡ true) → (a || b) ≡ true → b ≡ true
or_else true b f h = absurd (false≢true (f refl))
or_else false b f h = h

-- what is needed only if possible, where it is possible
pub needed : {a b : Bool} → a ≡ true → only_if a b ≡ true → b ≡ true
needed e h = rw e at h

-- how `live` goes with the shapes of the rules' answers
live_leave : (α : Flag) (t : Term) → live α (held (leave α t)) ≡ live α (held t)
unfolding leave
live_leave SUSP t = refl
live_leave STOP t = refl
live_leave TERM t = refl

live_joined : (α β : Flag) (x y : Bool) → live (γ α β) (live (δ₁ α β) x || live (δ₂ α β) y) ≡ (live α x || live β y)
live_joined SUSP SUSP x y = refl
live_joined SUSP STOP x y = refl
live_joined SUSP TERM x y = refl
live_joined STOP SUSP x y = refl
live_joined STOP STOP x y = refl
live_joined STOP TERM x y = refl
live_joined TERM SUSP x y = refl
live_joined TERM STOP x y = refl
live_joined TERM TERM x y = refl

live_on : (α : Flag) → α ≢ TERM → live α true ≡ true
live_on SUSP n = refl
live_on STOP n = refl
live_on TERM n = absurd (n refl)

live_or : (α : Flag) (x y b : Bool)
    → α ≢ TERM
    → (x ≡ true → live α y ≡ true)
    → (x || b) ≡ true
    → live α (y || b) ≡ true
live_or SUSP x y b n f h = either x b f (λ x. x) h
live_or STOP x y b n f h = refl
live_or TERM x y b n f h = absurd (n refl)

live_and : (α : Flag) (x y b : Bool) → (x ≡ true → live α y ≡ true) → (x && b) ≡ true → live α (y && b) ≡ true
live_and SUSP x y b f h = let k = (and-eq-true_iff x b).0 h in (and-eq-true_iff y b).1 (f k.0, k.1)
live_and STOP x y b f h = refl
live_and TERM x y b f h = f ((and-eq-true_iff x b).0 h).0

held_repeat : (n : Times) (k : ℕ) (p : Program) → stops p ≡ true → held (repeat1 n k (fresh p)) ≡ true
unfolding held
held_repeat n k p h = simp (held_fresh p, h)

held_again : (n : Times) (k : ℕ) (p : Program) → (leb 1 k && stops p) ≡ true → held (again n k p) ≡ true
unfolding held
held_again n zero p h = h
held_again n (suc k) p h = held_repeat n k p ((and-eq-true_iff (leb 1 (suc k)) (stops p)).0 h).1

pub stays_held : {free : Allowed} {P : Place} {t : Term} {E : Env} {r : Result}
    → Rewrites free P t E r
    → held t ≡ true
    → live r.flag (held r.to) ≡ true
unfolding held
stays_held r1 h = h
stays_held r1_on h = h
stays_held r2 h = refl
stays_held r3 h = h
stays_held (r4 {t = t} {q = q} d e) h =
    simp live_leave (stays_held e (held_fresh q ∙ or_else (held t) (stops q) (λ x. stays_held d x) h))
stays_held (r4_on d) h = simp live_leave (stays_held d h)
stays_held (r5 {t = t} {q = q} {r = r} d n) h =
    simp live_leave (live_or r.flag (held t) (held r.to) (stops q) n (λ x. stays_held d x) h)
stays_held (r8 {t = t} {u = u} d e) h =
    simp (live_leave, live_joined) (either (held t) (held u) (λ x. stays_held d x) (λ x. stays_held e x) h)
stays_held (r9 {t = t} {u = u} f e d) h =
    simp (live_leave, live_joined) (either (held t) (held u) (λ x. stays_held d x) (λ x. stays_held e x) h)
stays_held (r10 {β = β} {t = t} {u = u} n d) h =
    simp (live_leave, live_joined) (either (held t) (live β (held u)) (λ x. stays_held d x) (λ x. x) h)
stays_held (r11 {α = α} {t = t} {u = u} n d) h =
    simp (live_leave, live_joined) (either (live α (held t)) (held u) (λ x. x) (λ x. stays_held d x) h)
stays_held (r12 {r = r} d n) h = simp live_leave (live_on r.flag n)
stays_held (r13 f d e) h = stays_held e refl
stays_held (r4_loop d e) h = stays_held e refl
stays_held (r5_loop {r = r} d n) h = simp live_leave (live_on r.flag n)
stays_held (r14 {n = n} {p = p} e) h = sym (unsure _ n e) ∙ ((and-eq-true_iff (surely n) (stops p)).0 h).0
stays_held (r15 {n = n} {k = k} {p = p} e d) h = stays_held d (held_repeat n k p ((and-eq-true_iff (surely n) (stops p)).0 h).1)
stays_held (r4_repeat {n = n} {k = k} {t = t} d e) h =
    stays_held e (held_again n k (prog t) (or_else (held t) (leb 1 k && stops (prog t)) (λ x. stays_held d x) h))
stays_held (r5_repeat {k = k} {t = t} {r = r} d n) h =
    simp (live_leave, kept d) (live_or r.flag (held t) (held r.to) (leb 1 k && stops (prog t)) n (λ x. stays_held d x) h)
stays_held r16 h = h
stays_held (r17 {E = E} {c = c} {p = p} s o d) h =
    simp live_leave (stays_held d (held_fresh p ∙ needed (sat_early c E o s) ((and-eq-true_iff (only_if (early_true c) (stops p)) _).0 h).0))
stays_held (r17_on d) h = simp live_leave (stays_held d h)
stays_held (r18 s o) h = refl
stays_held (r19 {E = E} {c = c} {p = p} {q = q} s o d) h =
    simp live_leave (stays_held d (held_fresh q ∙ needed (unsat_early c E o s) ((and-eq-true_iff (only_if (early_true c) (stops p)) _).0 h).1))
stays_held (r19_on d) h = simp live_leave (stays_held d h)
stays_held (r20 s o) h = refl
stays_held (r21 s) h = h
stays_held (r22 {E = E} {c = c} s o) h = rw (sat_early c E o s) at h
stays_held (r23 s o) h = refl
stays_held (r24 s) h = refl
stays_held (r25 s) h = h
stays_held (r26 s d) h = simp live_leave (stays_held d h)
stays_held (r27 s) h = refl
stays_held (r28 s) h = h
stays_held (r29 {c = c} {t = t} {q = q} {r = r} d n) h =
    simp live_leave (live_and r.flag (held t) (held r.to) (only_if (early_true c) (stops q)) (λ x. stays_held d x) h)
stays_held (r30 {c = c} {t = t} {q = q} d e) h = stays_held e ((and-eq-true_iff (held t) (only_if (early_true c) (stops q))).0 h).1
stays_held (r31 {E = E} {c = c} {q = q} s o d) h = simp live_leave (stays_held d (held_fresh q ∙ needed (sat_early c E o s) h))
stays_held (r31_on d) h = simp live_leave (stays_held d h)
stays_held (r32 s o) h = refl
stays_held (r33 s) h = refl
stays_held (r34 s) h = h
stays_held (r35_39 d) h = simp live_leave (stays_held d h)
stays_held (r40 d n) h = absurd (false≢true h)
stays_held (r41 d e) h = absurd (false≢true h)
stays_held (r42 s o) h = h
stays_held (r43 s o) h = refl
stays_held (r44 s) h = refl
stays_held (r45 s) h = h
stays_held (if_true {p = p} {q = q} e d) h = simp live_leave (stays_held d (held_fresh p ∙ ((and-eq-true_iff (stops p) (stops q)).0 h).0))
stays_held (if_true_on d) h = simp live_leave (stays_held d h)
stays_held (if_false {p = p} {q = q} e d) h = simp live_leave (stays_held d (held_fresh q ∙ ((and-eq-true_iff (stops p) (stops q)).0 h).1))
stays_held (if_false_on d) h = simp live_leave (stays_held d h)

-- so what is held doesn't end, in a pass or in the instant; a fresh program that stops doesn't
pub unended : {free : Allowed} {P : Place} {t : Term} {E : Env} {r : Result}
    → Rewrites free P t E r
    → held t ≡ true
    → r.flag ≢ TERM
unended {r = r} d h e = false≢true (ap (λ (α : Flag). live α (held r.to)) (sym e) ∙ stays_held d h)

pub outlasts : {free : Allowed} {t : Term} {E : Env} {n : ℕ} {r : Result}
    → Instant free t E n r
    → held t ≡ true
    → r.flag ≢ TERM
outlasts (r47 d n) h = unended d h
outlasts (r48 {r = r} d e m i) h = outlasts i (subst (λ (α : Flag). live α (held r.to) ≡ true) e (stays_held d h))
outlasts (r49 {r = r} d e m i) h = outlasts i (subst (λ (α : Flag). live α (held r.to) ≡ true) e (stays_held d h))

pub begun : {free : Allowed} {P : Place} (p : Program) {E : Env} {r : Result}
    → Rewrites free P (fresh p) E r
    → stops p ≡ true
    → r.flag ≢ TERM
begun p d h = unended d (held_fresh p ∙ h)

pub stops_right : {free : Allowed} (p : Program) {E : Env} {n : ℕ} {r : Result}
    → Instant free (fresh p) E n r
    → stops p ≡ true
    → r.flag ≢ TERM
stops_right p i h = outlasts i (held_fresh p ∙ h)

-- what ends was not held
pub ends_unheld : {free : Allowed} {P : Place} {t t' : Term} {E E' : Env} {l : List Act}
    → Rewrites free P t E (answers TERM t' E' l)
    → held t ≡ false
ends_unheld {t = t} d = go (held t) (λ x. stays_held d x)
  where
    go : (b : Bool) → (b ≡ true → false ≡ true) → b ≡ false
    go true f = absurd (false≢true (f refl))
    go false f = refl
