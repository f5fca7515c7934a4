-- What holds of a state in the middle of an instant; a pass that answers SUSP keeps it, any other leaves a state at rest.
use Prim.Native.Nat.{ℕ, zero, suc, ◌<◌}
use mathlib.Core.Bool.{Bool, true, false, cond, false≢true}
use mathlib.Core.Path.{◌≡◌, refl, sym, subst, ◌∙◌}
use mathlib.Core.Logic.{◌≢◌}
use native.Mathlib.Omega.{arith}
use lib.Dec.{eqb}
use borrow.Author.Tests.{eqb-true}
use Rattle.events.specs.Events.{Events, put}
use Rattle.junior.specs.declared.Flag.{Flag}
use Rattle.junior.specs.declared.Flag.TheVariants.{SUSP, STOP, TERM}
use Rattle.junior.specs.Flags.{γ, δ₁, δ₂}
use Rattle.junior.specs.Configuration.{Env}
use Rattle.junior.specs.Program.{Program, Nothing, Atom, Repeat, Generate, Await, Freezable}
use Rattle.junior.specs.Values.{Times, most}
use Rattle.junior.specs.Term.{Term, done, nothing, stop, atom, generate, await, seq0, seq2, par, loop0, loop1, repeat0, repeat1, when0, when1}
use Rattle.junior.specs.Term.{when2, until0, until*, until2, control, local, freezable0, freezable*, if0, if1, if2, prog, fresh, leave}
use Rattle.junior.specs.Trace.{Place}
use Rattle.junior.specs.Rules.{Allowed, Result, again, sign, Rewrites, r1, r1_on, r2, r3, r4, r4_on, r5, r8, r9, r10, r11, r12, r13, r4_loop}
use Rattle.junior.specs.Rules.{r5_loop, r14, r15, r4_repeat, r5_repeat, r16, r17, r17_on, r18, r19, r19_on, r20, r21, r22, r23, r24, r25, r26}
use Rattle.junior.specs.Rules.{r27, r28, r29, r30, r31, r31_on, r32, r33, r34, r35_39, r40, r41, r42, r43, r44, r45, if_true, if_true_on}
use Rattle.junior.specs.Rules.{if_false, if_false_on}
use Rattle.junior.specs.Instant.{Instant, r47, r48, r49}
use Rattle.junior.specs.Course.{◌⊆◌}
use Rattle.junior.specs.AtRest.{AtRest, Waiting, Over}
use Rattle.junior.specs.Inside.{Suspended, RemainsIf, Remains, Controlled, Going}
use Rattle.junior.proofs.Fresh.{fresh_at_rest}
use Rattle.junior.proofs.Kept.{kept}
use Rattle.junior.proofs.Verdicts.{present, absent}
use Rattle.junior.proofs.Grows.{grows}
use Rattle.junior.proofs.Times.{below_most}

par_going : (X : Events) (α β : Flag) (t u : Term) → Waiting α β → Over α t → Over β u → Going X t → Going X u
    → Suspended α β × Remains α X t × Remains β X u
par_going X SUSP SUSP t u w v v' g g' = (tt, g, g')
par_going X SUSP STOP t u w v v' g g' = absurd w
par_going X SUSP TERM t u w v v' g g' = (tt, g, v')
par_going X STOP β t u w v v' g g' = absurd w
par_going X TERM SUSP t u w v v' g g' = (tt, v, g')
par_going X TERM STOP t u w v v' g g' = absurd w
par_going X TERM TERM t u w v v' g g' = absurd w

control_going : {G : Type 0} (b : Bool) (t : Term) → G → AtRest t → Controlled b G t
control_going true t g a = g
control_going false t g a = a

pub rest_going : (X : Events) (t : Term) → AtRest t → Going X t
unfolding AtRest Going
rest_going X (done p) a = tt
rest_going X nothing a = tt
rest_going X stop a = tt
rest_going X (atom n) a = tt
rest_going X (generate s) a = tt
rest_going X (await c) a = tt
rest_going X (seq0 t q) a = rest_going X t a
rest_going X (seq2 p t) a = rest_going X t a
rest_going X (par α β t u) a =
    par_going X α β t u a.0 a.1 a.2 (rest_going X t a.3) (rest_going X u a.4)
rest_going X (loop0 p) a = tt
rest_going X (loop1 t) a = rest_going X t a
rest_going X (repeat0 n p) a = tt
rest_going X (repeat1 n k t) a = (a.0, rest_going X t a.1)
rest_going X (when0 c p q) a = tt
rest_going X (when1 c t q) a = rest_going X t a
rest_going X (when2 c p t) a = rest_going X t a
rest_going X (until0 c t q) a = rest_going X t a
rest_going X (until* c t q) a = absurd a
rest_going X (until2 c p t) a = rest_going X t a
rest_going X (control s t) a = control_going (X s) t (rest_going X t a) a
rest_going X (local b s t) a = rest_going (put s b X) t a.1
rest_going X (freezable0 s t) a = rest_going X t a
rest_going X (freezable* s t) a = absurd a
rest_going X (if0 v p q) a = tt
rest_going X (if1 v t q) a = rest_going X t a
rest_going X (if2 v p t) a = rest_going X t a

pub fresh_going : (X : Events) (p : Program) → Going X (fresh p)
fresh_going X p = rest_going X (fresh p) (fresh_at_rest p)

-- what stands with some events present stands with more
pub put_grows : {X Y : Events} (s : ℕ) (b : Bool) → X ⊆ Y → put s b X ⊆ put s b Y
unfolding put
put_grows {X} {Y} s b h e = go (eqb e s)
  where
    go : (k : Bool) → cond k b (X e) ≡ true → cond k b (Y e) ≡ true
    go true p = p
    go false p = h e p

stands_map : {G H : Type 0} (α : Flag) (t : Term) → (G → H) → RemainsIf α G t → RemainsIf α H t
stands_map SUSP t f g = f g
stands_map STOP t f g = g
stands_map TERM t f g = g

controlled_more : {X Y : Events} (s : ℕ) (t : Term) → X ⊆ Y → (Going X t → Going Y t)
    → Controlled (X s) (Going X t) t → Controlled (Y s) (Going Y t) t
controlled_more {X} {Y} s t h f = go (X s) (Y s) (h s)
  where
    go : (x y : Bool) → (x ≡ true → y ≡ true) → Controlled x (Going X t) t → Controlled y (Going Y t) t
    go true true i g = f g
    go true false i g = absurd (false≢true (i refl))
    go false true i a = rest_going Y t a
    go false false i a = a

pub going_more : {X Y : Events} (t : Term) → X ⊆ Y → Going X t → Going Y t
unfolding Going
going_more (done p) h g = tt
going_more nothing h g = tt
going_more stop h g = tt
going_more (atom n) h g = tt
going_more (generate s) h g = tt
going_more (await c) h g = tt
going_more (seq0 t q) h g = going_more t h g
going_more (seq2 p t) h g = going_more t h g
going_more (par α β t u) h g = (g.0, stands_map α t (going_more t h) g.1, stands_map β u (going_more u h) g.2)
going_more (loop0 p) h g = tt
going_more (loop1 t) h g = going_more t h g
going_more (repeat0 n p) h g = tt
going_more (repeat1 n k t) h g = (g.0, going_more t h g.1)
going_more (when0 c p q) h g = tt
going_more (when1 c t q) h g = going_more t h g
going_more (when2 c p t) h g = going_more t h g
going_more (until0 c t q) h g = going_more t h g
going_more (until* c t q) h g = g
going_more (until2 c p t) h g = going_more t h g
going_more (control s t) h g = controlled_more s t h (going_more t h) g
going_more {X = X} {Y = Y} (local b s t) h g = going_more {X = put s b X} {Y = put s b Y} t (put_grows s b h) g
going_more (freezable0 s t) h g = going_more t h g
going_more (freezable* s t) h g = g
going_more (if0 v p q) h g = tt
going_more (if1 v t q) h g = going_more t h g
going_more (if2 v p t) h g = going_more t h g

pub stand_more : {X Y : Events} (α : Flag) (t : Term) → X ⊆ Y → Remains α X t → Remains α Y t
stand_more α t h = stands_map α t (going_more t h)

-- the node u around a part that answered r
under_stands : (r : Result) (u : Term) → (Going r.env.now r.to → Going r.env.now u)
    → (AtRest r.to → AtRest u)
    → Remains r.flag r.env.now r.to
    → Remains r.flag r.env.now (leave r.flag u)
unfolding leave
under_stands r u f a = go r.flag
  where
    go : (α : Flag) → Remains α r.env.now r.to → Remains α r.env.now (leave α u)
    go SUSP g = f g
    go STOP g = a g
    go TERM g = (prog u, refl)

pub over_rest : (t : Term) → Over TERM t → AtRest t
unfolding AtRest
over_rest t h = subst AtRest (sym h.1) tt

joined_stands : (α β : Flag) (X : Events) (t u : Term) → Remains α X t → Remains β X u
    → Remains (γ α β) X (leave (γ α β) (par (δ₁ α β) (δ₂ α β) t u))
unfolding leave Going AtRest
joined_stands SUSP SUSP X t u g h = (tt, g, h)
joined_stands SUSP STOP X t u g h = (tt, g, h)
joined_stands SUSP TERM X t u g h = (tt, g, h)
joined_stands STOP SUSP X t u g h = (tt, g, h)
joined_stands STOP STOP X t u g h = (tt, tt, tt, g, h)
joined_stands STOP TERM X t u g h = (tt, tt, h, g, over_rest u h)
joined_stands TERM SUSP X t u g h = (tt, g, h)
joined_stands TERM STOP X t u g h = (tt, g, tt, over_rest t g, h)
joined_stands TERM TERM X t u g h = (prog (par TERM TERM t u), refl)

-- a Local's sign covers what its body found present
pub signed : (X : Events) (s : ℕ) (b x : Bool) → X ⊆ put s (sign b SUSP (X s)) (put s x X)
unfolding put
signed X s b x e = go (eqb e s) refl
  where
    found : (b : Bool) → X s ≡ true → sign b SUSP (X s) ≡ true
    found true h = refl
    found false h = h

    go : (k : Bool) → eqb e s ≡ k → X e ≡ true → cond k (sign b SUSP (X s)) (cond k x (X e)) ≡ true
    go true p h = found b (subst (λ (n : ℕ). X n ≡ true) (eqb-true e s p) h)
    go false p h = h

scope_stands : (α : Flag) (X : Events) (s : ℕ) (b x : Bool) (t : Term) → Remains α X t
    → Remains α (put s x X) (leave α (local (sign b α (X s)) s t))
unfolding leave Going AtRest
scope_stands SUSP X s b x t h = going_more t (signed X s b x) h
scope_stands STOP X s b x t h = (refl, h)
scope_stands TERM X s b x t h = (prog (local false s t), refl)

pub again_going : (X : Events) (n : Times) (k : ℕ) (p : Program) → k < most n → Going X (again n k p)
unfolding Going
again_going X n zero p h = tt
again_going X n (suc k) p h = (omega arith, fresh_going X p)

pub stands : {free : Allowed} {P : Place} {t : Term} {E : Env} {r : Result} → Rewrites free P t E r → Going E.now t
    → Remains r.flag r.env.now r.to
unfolding Going AtRest
stands r1 g = (Nothing, refl)
stands (r1_on {p = p}) g = (p, refl)
stands r2 g = tt
stands (r3 {a = a}) g = (Atom a, refl)
stands (r4 {q = q} {r = r} d e) g = under_stands r _ (λ x. x) (λ x. x) (stands e (fresh_going _ q))
stands (r4_on {r = r} d) g = under_stands r _ (λ x. x) (λ x. x) (stands d g)
stands (r5 {r = r} d h) g = under_stands r _ (λ x. x) (λ x. x) (stands d g)
stands (r8 {u = u} {r = r} {s = s} d e) g =
    let h = stand_more r.flag r.to (grows e) (stands d g.1) in
    joined_stands r.flag s.flag s.env.now r.to s.to h (stands e (going_more u (grows d) g.2))
stands (r9 {t = t} {r = r} {s = s} f e d) g =
    let h = stand_more s.flag s.to (grows d) (stands e g.2) in
    joined_stands r.flag s.flag r.env.now r.to s.to (stands d (going_more t (grows e) g.1)) h
stands (r10 {β = β} {u = u} {r = r} h d) g =
    joined_stands r.flag β r.env.now r.to u (stands d g.1) (stand_more β u (grows d) g.2)
stands (r11 {α = α} {t = t} {r = r} h d) g =
    joined_stands α r.flag r.env.now t r.to (stand_more α t (grows d) g.1) (stands d g.2)
stands (r12 {p = p} {r = r} d h) g = under_stands r _ (λ x. x) (λ x. x) (stands d (fresh_going _ p))
stands (r13 f d e) g = stands e tt
stands (r4_loop d e) g = stands e tt
stands (r5_loop {r = r} d h) g = under_stands r _ (λ x. x) (λ x. x) (stands d g)
stands (r14 {n = n} {p = p} h) g = (Repeat n p, refl)
stands (r15 {n = n} {p = p} h d) g = stands d (below_most _ n h, fresh_going _ p)
stands (r4_repeat {n = n} {k = k} {t = t} d e) g = stands e (again_going _ n k (prog t) g.0)
stands (r5_repeat {r = r} d h) g = under_stands r _ (λ x. (g.0, x)) (λ x. (g.0, x)) (stands d g.1)
stands (r16 {s = s}) g = (Generate s, refl)
stands (r17 {p = p} {r = r} s h d) g = under_stands r _ (λ x. x) (λ x. x) (stands d (fresh_going _ p))
stands (r17_on {r = r} d) g = under_stands r _ (λ x. x) (λ x. x) (stands d g)
stands (r18 {p = p} s h) g = fresh_at_rest p
stands (r19 {q = q} {r = r} s h d) g = under_stands r _ (λ x. x) (λ x. x) (stands d (fresh_going _ q))
stands (r19_on {r = r} d) g = under_stands r _ (λ x. x) (λ x. x) (stands d g)
stands (r20 {q = q} s h) g = fresh_at_rest q
stands (r21 s) g = tt
stands (r22 {c = c} s h) g = (Await c, refl)
stands (r23 s h) g = tt
stands (r24 s) g = tt
stands (r25 s) g = tt
stands (r26 {E = E} {s = s} {t = t} {r = r} h d) g =
    let on : E.now s ≡ true = present s E h in
    let f = subst (λ b. Controlled b (Going r.env.now r.to) r.to) (sym (grows d s on)) in
    under_stands r _ f (λ x. x) (stands d (subst (λ b. Controlled b (Going E.now t) t) on g))
stands (r27 {E = E} {s = s} {t = t} h) g =
    subst (λ b. Controlled b (Going E.now t) t) (absent s E h) g
stands (r28 h) g = g
stands (r29 {r = r} d h) g = under_stands r _ (λ x. x) (λ x. x) (stands d g)
stands (r30 d e) g = stands e (stands d g)
stands (r31 {q = q} {r = r} s h d) g = under_stands r _ (λ x. x) (λ x. x) (stands d (fresh_going _ q))
stands (r31_on {r = r} d) g = under_stands r _ (λ x. x) (λ x. x) (stands d g)
stands (r32 {q = q} s h) g = fresh_at_rest q
stands (r33 s) g = g
stands (r34 s) g = g
stands (r35_39 {E = E} {b = b} {s = s} {r = r} d) g =
    scope_stands r.flag r.env.now s b (E.now s) r.to (stands d g)
stands (r40 {r = r} d h) g = under_stands r _ (λ x. x) (λ x. x) (stands d g)
stands (r41 d e) g = stands e (stands d g)
stands (r42 {s = s} {t = t} v h) g = (Freezable s (prog t), refl)
stands (r43 v h) g = tt
stands (r44 v) g = g
stands (r45 v) g = g
stands (if_true {p = p} {r = r} h d) g = under_stands r _ (λ x. x) (λ x. x) (stands d (fresh_going _ p))
stands (if_true_on {r = r} d) g = under_stands r _ (λ x. x) (λ x. x) (stands d g)
stands (if_false {q = q} {r = r} h d) g = under_stands r _ (λ x. x) (λ x. x) (stands d (fresh_going _ q))
stands (if_false_on {r = r} d) g = under_stands r _ (λ x. x) (λ x. x) (stands d g)

-- a pass that doesn't answer SUSP leaves its state at rest
pub stopped_rest : (α : Flag) (X : Events) (t : Term) → α ≢ SUSP → Remains α X t → AtRest t
stopped_rest SUSP X t h g = absurd (h refl)
stopped_rest STOP X t h g = g
stopped_rest TERM X t h g = over_rest t g

pub going_rest : {free : Allowed} {t : Term} {E : Env} {n : ℕ} {r : Result} → Instant free t E n r → Going E.now t
    → AtRest r.to
going_rest (r47 {r = r} d h) g = stopped_rest r.flag r.env.now r.to h (stands d g)
going_rest (r48 {r = r} d h m i) g = going_rest i (subst (λ α. Remains α r.env.now r.to) h (stands d g))
going_rest (r49 {r = r} d h m i) g = going_rest i (subst (λ α. Remains α r.env.now r.to) h (stands d g))

pub leaves_rest : {free : Allowed} {t : Term} {E : Env} {n : ℕ} {r : Result} → Instant free t E n r → AtRest t
    → AtRest r.to
leaves_rest {t = t} {E = E} i a = going_rest i (rest_going E.now t a)

pub program_kept : {free : Allowed} {t : Term} {E : Env} {n : ℕ} {r : Result} → Instant free t E n r
    → prog r.to ≡ prog t
program_kept (r47 d h) = kept d
program_kept (r48 d h m i) = program_kept i ∙ kept d
program_kept (r49 d h m i) = program_kept i ∙ kept d
