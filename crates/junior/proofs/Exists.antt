-- Of a program whose loops' bodies stop, every state in the middle of an instant has a pass, whatever the environment.
-- The proof goes down the term and the programs in it and needs no bound on steps: it is also an evaluator.
use Prim.Native.Nat.{ℕ, zero, suc}
use mathlib.Core.Bool.{Bool, true, false}
use mathlib.Core.Path.{◌≡◌, refl, sym, subst}
use mathlib.Core.Logic.{◌≢◌}
use mathlib.Core.List.{List}
use Rattle.junior.specs.declared.Flag.{Flag}
use Rattle.junior.specs.declared.Flag.TheVariants.{SUSP, STOP, TERM}
use Rattle.junior.specs.declared.Verdict.{Verdict}
use Rattle.junior.specs.declared.Verdict.TheVariants.{Sat, Unsat, Unknown}
use Rattle.junior.specs.Configuration.{Config, Event, Env, with_event, eval, test}
use Rattle.junior.specs.Program.{Program, Nothing, Stop, Atom, Seq, Par, Loop, Repeat, Generate, Await, When, Until, Control, Local, Freezable}
use Rattle.junior.specs.Program.{If}
use Rattle.junior.specs.Values.{Times, nonzero, runs_of}
use Rattle.junior.specs.Term.{Term, done, nothing, stop, atom, generate, await, seq0, seq2, par, loop0, loop1, repeat0, repeat1, when0, when1}
use Rattle.junior.specs.Term.{when2, until0, until*, until2, control, local, freezable0, freezable*, if0, if1, if2, prog, fresh}
use Rattle.junior.specs.Trace.{Place, first, second, inside, Act}
use Rattle.junior.specs.Rules.{Allowed, Result, answers, again, Rewrites, r1, r1_on, r2, r3, r4, r4_on, r5, r8, r10, r11, r12, r4_loop, r5_loop}
use Rattle.junior.specs.Rules.{r14, r15, r4_repeat, r5_repeat, r16, r17, r17_on, r18, r19, r19_on, r20, r21, r22, r23, r24, r25, r26, r27, r28}
use Rattle.junior.specs.Rules.{r29, r30, r31, r31_on, r32, r33, r34, r35_39, r40, r41, r42, r43, r44, r45, if_true, if_true_on, if_false}
use Rattle.junior.specs.Rules.{if_false_on}
use Rattle.junior.specs.Figures.{stops, LoopsStop}
use Rattle.junior.specs.Inside.{Going, Controlled}
use Rattle.junior.proofs.Little.{STOP≢SUSP, TERM≢SUSP, TERM≢STOP}
use Rattle.junior.proofs.Fresh.{prog_fresh}
use Rattle.junior.proofs.Grows.{grows}
use Rattle.junior.proofs.Verdicts.{lasts, as_it_is}
use Rattle.junior.proofs.Going.{going_more}
use Rattle.junior.proofs.Held.{begun}

module _ (free : Allowed) where
  -- a pass of t in E, and one of a program that is begun
  abbrev pub Pass : Place → Term → Env → Type 0
  Pass P t E = (r : Result) × Rewrites free P t E r

  abbrev pub Begins : Program → Type 0
  Begins p = (P : Place) (E : Env) → Pass P (fresh p) E

  -- what comes of a pass goes by whether it answers with the flag β
  unfoldable pub goes_by : {P : Place} {t : Term} {E : Env} {A : Type 0} (α β : Flag) (t' : Term) (E' : Env) (l : List Act)
      → Rewrites free P t E (answers α t' E' l)
      → (α ≢ β → A)
      → (Rewrites free P t E (answers β t' E' l) → A)
      → A
  goes_by SUSP SUSP t' E' l d f g = g d
  goes_by SUSP STOP t' E' l d f g = f (λ e. STOP≢SUSP (sym e))
  goes_by SUSP TERM t' E' l d f g = f (λ e. TERM≢SUSP (sym e))
  goes_by STOP SUSP t' E' l d f g = f STOP≢SUSP
  goes_by STOP STOP t' E' l d f g = g d
  goes_by STOP TERM t' E' l d f g = f (λ e. TERM≢STOP (sym e))
  goes_by TERM SUSP t' E' l d f g = f TERM≢SUSP
  goes_by TERM STOP t' E' l d f g = f TERM≢STOP
  goes_by TERM TERM t' E' l d f g = g d

  -- each form, from passes of its parts
  unfoldable pub seq0_runs : (t : Term) (q : Program) (P : Place) (E : Env) → Pass (first P) t E → Begins q → Pass P (seq0 t q) E
  seq0_runs t q P E (r, d) b =
      goes_by r.flag TERM r.to r.env r.acts d
      (λ n. (_, r5 d n))
      (λ d. let (s, e) = b (second P (prog t)) r.env in (_, r4 d e))

  unfoldable pub loop0_runs : (p : Program) (P : Place) (E : Env) → stops p ≡ true → Begins p → Pass P (loop0 p) E
  loop0_runs p P E h b = let (r, d) = b (first P) E in (_, r12 d (begun p d h))

  unfoldable pub loop1_runs : (t : Term) (P : Place) (E : Env)
      → Pass (first P) t E
      → ((F : Env) → Pass P (loop0 (prog t)) F)
      → Pass P (loop1 t) E
  loop1_runs t P E (r, d) b =
      goes_by r.flag TERM r.to r.env r.acts d
      (λ n. (_, r5_loop d n))
      (λ d. let (s, e) = b r.env in (_, r4_loop d e))

  unfoldable pub repeat1_runs : (n : Times) (k : ℕ) (p : Program) (t : Term) (P : Place) (E : Env)
      → prog t ≡ p
      → Pass (first P) t E
      → ((F : Env) → Pass P (again n k p) F)
      → Pass P (repeat1 n k t) E
  repeat1_runs n k p t P E h (r, d) b =
      goes_by r.flag TERM r.to r.env r.acts d
      (λ x. (_, r5_repeat d x))
      (λ d. let (s, e) = b r.env in (_, r4_repeat {r = s} d (rw h e)))

  unfoldable pub again_runs : (n : Times) (k : ℕ) (p : Program) (P : Place) (E : Env) → Begins p → Pass P (again n k p) E
  again_runs n zero p P E b = (_, r1_on)
  again_runs n (suc k) p P E b =
      repeat1_runs n k p (fresh p) P E (prog_fresh p) (b (first P) E) (λ F. again_runs n k p P F b)

  unfoldable pub repeat0_runs : (n : Times) (p : Program) (P : Place) (E : Env) → Begins p → Pass P (repeat0 n p) E
  repeat0_runs n p P E b = go (runs_of free.value n) refl
    where
      go : (k : ℕ) → runs_of free.value n ≡ k → Pass P (repeat0 n p) E
      go zero e = (_, r14 e)
      go (suc k) e = let (r, d) = again_runs n (suc k) p P E b in (r, r15 e d)

  unfoldable pub await_runs : (c : Config) (P : Place) (E : Env) → Pass P (await c) E
  await_runs c P E = go (test c E) refl E.eoi refl
    where
      go : (v : Verdict) → test c E ≡ v → (e : Bool) → E.eoi ≡ e → Pass P (await c) E
      go Sat v false e = (_, r22 v e)
      go Sat v true e = (_, r23 v e)
      go Unsat v b e = (_, r24 v)
      go Unknown v b e = (_, r25 v)

  unfoldable pub when0_runs : (c : Config) (p q : Program) (P : Place) (E : Env) → Begins p → Begins q → Pass P (when0 c p q) E
  when0_runs c p q P E f g = go (test c E) refl E.eoi refl
    where
      go : (v : Verdict) → test c E ≡ v → (e : Bool) → E.eoi ≡ e → Pass P (when0 c p q) E
      go Sat v false e = let (r, d) = f (first P) E in (_, r17 v e d)
      go Sat v true e = (_, r18 v e)
      go Unsat v false e = let (r, d) = g (second P p) E in (_, r19 v e d)
      go Unsat v true e = (_, r20 v e)
      go Unknown v b e = (_, r21 v)

  unfoldable pub until*_runs : (c : Config) (t : Term) (q : Program) (P : Place) (E : Env) → Begins q → Pass P (until* c t q) E
  until*_runs c t q P E b = go (test c E) refl E.eoi refl
    where
      go : (v : Verdict) → test c E ≡ v → (e : Bool) → E.eoi ≡ e → Pass P (until* c t q) E
      go Sat v false e = let (r, d) = b (second P (prog t)) E in (_, r31 v e d)
      go Sat v true e = (_, r32 v e)
      go Unsat v x e = (_, r33 v)
      go Unknown v x e = (_, r34 v)

  unfoldable pub until0_runs : (c : Config) (t : Term) (q : Program) (P : Place) (E : Env)
      → Pass (first P) t E
      → Begins q
      → Pass P (until0 c t q) E
  until0_runs c t q P E (r, d) b =
      goes_by r.flag STOP r.to r.env r.acts d
      (λ n. (_, r29 d n))
      (λ d. let (s, e) = until*_runs c r.to q P r.env b in (_, r30 d e))

  unfoldable pub control_runs : (s : ℕ) (t : Term) (P : Place) (E : Env)
      → (E.now s ≡ true → Pass (first P) t E)
      → Pass P (control s t) E
  unfolding eval
  control_runs s t P E b = go (test (Event s) E) refl
    where
      go : (v : Verdict) → test (Event s) E ≡ v → Pass P (control s t) E
      go Sat v = let (r, d) = b (lasts (Event s) E E.now {b = true} v (as_it_is E)) in (_, r26 v d)
      go Unsat v = (_, r27 v)
      go Unknown v = (_, r28 v)

  unfoldable pub freezable*_runs : (s : ℕ) (t : Term) (P : Place) (E : Env) → Pass P (freezable* s t) E
  freezable*_runs s t P E = go (test (Event s) E) refl E.eoi refl
    where
      go : (v : Verdict) → test (Event s) E ≡ v → (e : Bool) → E.eoi ≡ e → Pass P (freezable* s t) E
      go Sat v false e = (_, r42 v e)
      go Sat v true e = (_, r43 v e)
      go Unsat v x e = (_, r44 v)
      go Unknown v x e = (_, r45 v)

  unfoldable pub freezable0_runs : (s : ℕ) (t : Term) (P : Place) (E : Env) → Pass (first P) t E → Pass P (freezable0 s t) E
  freezable0_runs s t P E (r, d) =
      goes_by r.flag STOP r.to r.env r.acts d
      (λ n. (_, r40 d n))
      (λ d. let (u, e) = freezable*_runs s r.to P r.env in (_, r41 d e))

  unfoldable pub if0_runs : (v : ℕ) (p q : Program) (P : Place) (E : Env) → Begins p → Begins q → Pass P (if0 v p q) E
  if0_runs v p q P E f g = go (nonzero (free.value v)) refl
    where
      go : (b : Bool) → nonzero (free.value v) ≡ b → Pass P (if0 v p q) E
      go true e = let (r, d) = f (first P) E in (_, if_true e d)
      go false e = let (r, d) = g (second P p) E in (_, if_false e d)

  -- a program that is begun
  unfoldable pub begins : (p : Program) → LoopsStop p → Begins p
  unfolding fresh LoopsStop
  begins Nothing o P E = (_, r1)
  begins Stop o P E = (_, r2)
  begins (Atom a) o P E = (_, r3)
  begins (Seq p q) o P E = seq0_runs (fresh p) q P E (begins p o.0 (first P) E) (begins q o.1)
  begins (Par p q) o P E =
      let (r, d) = begins p o.0 (first P) E in
      let (s, e) = begins q o.1 (second P (prog (fresh p))) r.env in
      (_, r8 d e)
  begins (Loop p) o P E = loop0_runs p P E o.0 (begins p o.1)
  begins (Repeat n p) o P E = repeat0_runs n p P E (begins p o)
  begins (Generate s) o P E = (_, r16)
  begins (Await c) o P E = await_runs c P E
  begins (When c p q) o P E = when0_runs c p q P E (begins p o.0) (begins q o.1)
  begins (Until c p q) o P E = until0_runs c (fresh p) q P E (begins p o.0 (first P) E) (begins q o.1)
  begins (Control s p) o P E = control_runs s (fresh p) P E (λ v. begins p o (first P) E)
  begins (Local s p) o P E = let (r, d) = begins p o (inside s P) (with_event s false E) in (_, r35_39 d)
  begins (Freezable s p) o P E = freezable0_runs s (fresh p) P E (begins p o (first P) E)
  begins (If v p q) o P E = if0_runs v p q P E (begins p o.0) (begins q o.1)

  -- a state in the middle of an instant
  unfoldable pub pass_exists : (t : Term) → LoopsStop (prog t) → (P : Place) (E : Env) → Going E.now t → Pass P t E
  unfolding prog LoopsStop Going
  pass_exists (done p) o P E g = (_, r1_on)
  pass_exists nothing o P E g = (_, r1)
  pass_exists stop o P E g = (_, r2)
  pass_exists (atom a) o P E g = (_, r3)
  pass_exists (generate s) o P E g = (_, r16)
  pass_exists (await c) o P E g = await_runs c P E
  pass_exists (seq0 t q) o P E g = seq0_runs t q P E (pass_exists t o.0 (first P) E g) (begins q o.1)
  pass_exists (seq2 p t) o P E g = let (r, d) = pass_exists t o.1 (second P p) E g in (_, r4_on d)
  pass_exists (par SUSP SUSP t u) o P E g =
      let (r, d) = pass_exists t o.0 (first P) E g.1 in
      let (s, e) = pass_exists u o.1 (second P (prog t)) r.env (going_more u (grows d) g.2) in
      (_, r8 d e)
  pass_exists (par SUSP STOP t u) o P E g = let (r, d) = pass_exists t o.0 (first P) E g.1 in (_, r10 STOP≢SUSP d)
  pass_exists (par SUSP TERM t u) o P E g = let (r, d) = pass_exists t o.0 (first P) E g.1 in (_, r10 TERM≢SUSP d)
  pass_exists (par STOP SUSP t u) o P E g = let (r, d) = pass_exists u o.1 (second P (prog t)) E g.2 in (_, r11 STOP≢SUSP d)
  pass_exists (par STOP STOP t u) o P E g = absurd g.0
  pass_exists (par STOP TERM t u) o P E g = absurd g.0
  pass_exists (par TERM SUSP t u) o P E g = let (r, d) = pass_exists u o.1 (second P (prog t)) E g.2 in (_, r11 TERM≢SUSP d)
  pass_exists (par TERM STOP t u) o P E g = absurd g.0
  pass_exists (par TERM TERM t u) o P E g = absurd g.0
  pass_exists (loop0 p) o P E g = loop0_runs p P E o.0 (begins p o.1)
  pass_exists (loop1 t) o P E g =
      loop1_runs t P E (pass_exists t o.1 (first P) E g) (λ F. loop0_runs (prog t) P F o.0 (begins (prog t) o.1))
  pass_exists (repeat0 n p) o P E g = repeat0_runs n p P E (begins p o)
  pass_exists (repeat1 n k t) o P E g =
      repeat1_runs n k (prog t) t P E refl (pass_exists t o (first P) E g.1) (λ F. again_runs n k (prog t) P F (begins (prog t) o))
  pass_exists (when0 c p q) o P E g = when0_runs c p q P E (begins p o.0) (begins q o.1)
  pass_exists (when1 c t q) o P E g = let (r, d) = pass_exists t o.0 (first P) E g in (_, r17_on d)
  pass_exists (when2 c p t) o P E g = let (r, d) = pass_exists t o.1 (second P p) E g in (_, r19_on d)
  pass_exists (until0 c t q) o P E g = until0_runs c t q P E (pass_exists t o.0 (first P) E g) (begins q o.1)
  pass_exists (until* c t q) o P E g = until*_runs c t q P E (begins q o.1)
  pass_exists (until2 c p t) o P E g = let (r, d) = pass_exists t o.1 (second P p) E g in (_, r31_on d)
  pass_exists (control s t) o P E g =
      control_runs s t P E (λ h. pass_exists t o (first P) E (subst (λ b. Controlled b (Going E.now t) t) h g))
  pass_exists (local b s t) o P E g = let (r, d) = pass_exists t o (inside s P) (with_event s b E) g in (_, r35_39 d)
  pass_exists (freezable0 s t) o P E g = freezable0_runs s t P E (pass_exists t o (first P) E g)
  pass_exists (freezable* s t) o P E g = freezable*_runs s t P E
  pass_exists (if0 v p q) o P E g = if0_runs v p q P E (begins p o.0) (begins q o.1)
  pass_exists (if1 v t q) o P E g = let (r, d) = pass_exists t o.0 (first P) E g in (_, if_true_on d)
  pass_exists (if2 v p t) o P E g = let (r, d) = pass_exists t o.1 (second P p) E g in (_, if_false_on d)
