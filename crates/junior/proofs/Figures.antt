-- The law of figures, over any own weights k: what the acts of an instant weigh is at most the program's figure.
-- So an instant does at most G generations and at most A atoms.
use Prim.Native.Nat.{ℕ, zero, suc, ◌+◌, ◌*◌, ◌≤◌, ◌<◌}
use mathlib.Core.Bool.{Bool, true, false, false≢true}
use mathlib.Core.Path.{◌≡◌, refl, ◌∙◌, subst}
use mathlib.Core.List.{List, [], ◌∷◌, ◌++◌}
use native.Mathlib.Omega.{arith}
use native.Mathlib.Nat.{le_trans, mul-le-mul_right, zero-mul}
use lib.ListN.{length, length-append}
use Rattle.events.specs.Events.{Events, none, put}
use Rattle.junior.specs.declared.Flag.{Flag}
use Rattle.junior.specs.declared.Flag.TheVariants.{SUSP, STOP, TERM}
use Rattle.junior.specs.Flags.{γ, δ₁, δ₂}
use Rattle.junior.specs.Configuration.{Env}
use Rattle.junior.specs.Program.{Program, kind, Nothing, Stop, Atom, Seq, Par, Loop, Repeat, Generate, Await, When, Until, Control, Local}
use Rattle.junior.specs.Program.{Freezable, If}
use Rattle.junior.specs.Values.{Times, most}
use Rattle.junior.specs.Term.{Term, done, nothing, stop, atom, generate, await, seq0, seq2, par, loop0, loop1, repeat0, repeat1, when0, when1}
use Rattle.junior.specs.Term.{when2, until0, until*, until2, control, local, freezable0, freezable*, if0, if1, if2, prog, fresh, leave}
use Rattle.junior.specs.Trace.{Place, Act, did_atom, did_generate, did_park, decided, waits, scope_answered, collect, atom_of, event_of, atoms}
use Rattle.junior.specs.Trace.{generations}
use Rattle.junior.specs.Rules.{Allowed, Result, again, Rewrites, r1, r1_on, r2, r3, r4, r4_on, r5, r8, r9, r10, r11, r12, r13, r4_loop, r5_loop}
use Rattle.junior.specs.Rules.{r14, r15, r4_repeat, r5_repeat, r16, r17, r17_on, r18, r19, r19_on, r20, r21, r22, r23, r24, r25, r26, r27, r28}
use Rattle.junior.specs.Rules.{r29, r30, r31, r31_on, r32, r33, r34, r35_39, r40, r41, r42, r43, r44, r45, if_true, if_true_on, if_false}
use Rattle.junior.specs.Rules.{if_false_on}
use Rattle.junior.specs.Instant.{Instant, r47, r48, r49}
use Rattle.junior.specs.Figures.{stops, LoopsStop, times, figure, per, G, A}
use Rattle.junior.specs.AtRest.{AtRest}
use Rattle.junior.specs.Inside.{RemainsIf, Controlled, Going, live, held, rest, due, pot}
use Rattle.junior.proofs.Times.{below_most}
use Rattle.junior.proofs.Fresh.{prog_fresh, held_fresh}
use Rattle.junior.proofs.Kept.{prog_again, kept}
use Rattle.junior.proofs.Going.{rest_going, fresh_going}
use Rattle.junior.proofs.Held.{stays_held, begun, ends_unheld}

-- how `rest` goes with the shapes of the rules' answers
rest_within : (α : Flag) (w x c y : ℕ) → rest α x + c ≤ y → rest α (w + x) + c ≤ w + y
rest_within SUSP w x c y h = omega arith
rest_within STOP w x c y h = omega arith
rest_within TERM w x c y h = omega arith

rest_beside : (α : Flag) (x c y z z' : ℕ) → rest α x + c ≤ y → rest α z ≤ z' → rest α (x + z) + c ≤ y + z'
rest_beside SUSP x c y z z' h k = omega arith
rest_beside STOP x c y z z' h k = omega arith
rest_beside TERM x c y z z' h k = omega arith

rest_le : (α : Flag) (x : ℕ) → rest α x ≤ x
rest_le SUSP x = omega arith
rest_le STOP x = omega arith
rest_le TERM x = omega arith

rest_joined : (α β : Flag) (x y : ℕ) → rest (γ α β) (rest (δ₁ α β) x + rest (δ₂ α β) y) ≤ rest α x + rest β y
rest_joined SUSP SUSP x y = omega arith
rest_joined SUSP STOP x y = omega arith
rest_joined SUSP TERM x y = omega arith
rest_joined STOP SUSP x y = omega arith
rest_joined STOP STOP x y = omega arith
rest_joined STOP TERM x y = omega arith
rest_joined TERM SUSP x y = omega arith
rest_joined TERM STOP x y = omega arith
rest_joined TERM TERM x y = omega arith

-- one run more
one_more : (m n x f : ℕ) → m < n → x ≤ f → x + m * f ≤ n * f
one_more m n x f h k = let a : suc m * f ≤ n * f = mul-le-mul_right f h in omega arith

pub due_times : (n j : ℕ) (h b : Bool) → j < n → due j h b < times n b
due_times n j true true k = omega arith
due_times n j true false k = omega arith
due_times n j false true k = omega arith
due_times n j false false k = omega arith

due_again : (j : ℕ) (b : Bool) → due j b b < due (suc j) false b
due_again j true = omega arith
due_again j false = omega arith

due_kept : (α : Flag) (j : ℕ) (h h' b : Bool) (f : ℕ)
    → (h ≡ true → live α h' ≡ true)
    → rest α (due j h' b * f) ≤ due j h b * f
due_kept SUSP j h true b f e = omega (arith, zero-mul f)
due_kept SUSP j true false b f e = absurd (false≢true (e refl))
due_kept SUSP j false false b f e = omega arith
due_kept STOP j h h' b f e = omega arith
due_kept TERM j h h' b f e = omega arith

-- a branch in the middle of an instant, and the body of a Control
rest_stands : {going : Type 0} (α : Flag) (t : Term) (x f : ℕ) → (going → x ≤ f) → RemainsIf α going t → rest α x ≤ f
rest_stands SUSP t x f h g = h g
rest_stands STOP t x f h g = omega arith
rest_stands TERM t x f h g = omega arith

uncontrolled : (X : Events) (b : Bool) (t : Term) → Controlled b (Going X t) t → Going X t
uncontrolled X true t g = g
uncontrolled X false t a = rest_going X t a

pub loops_fresh : (p : Program) → LoopsStop p → LoopsStop (prog (fresh p))
loops_fresh p o = rw (prog_fresh p) o

module _ (k : Program → ℕ) where
  -- what an act weighs, and what acts do together
  abbrev pub weight : Act → ℕ
  weight (did_atom a) = k (Atom a)
  weight (did_generate s) = k (Generate s)
  weight (did_park x) = k (Freezable x.event (prog x.state))
  weight (decided P c b E) = 0
  weight (waits P c E) = 0
  weight (scope_answered n α b) = 0

  unfoldable pub cost : List Act → ℕ
  cost [] = 0
  cost (x ∷ l) = weight x + cost l

  pub cost-++ : (l m : List Act) → cost (l ++ m) ≡ cost l + cost m
  unfolding cost
  cost-++ [] m = omega arith
  cost-++ (x ∷ l) m = omega (arith, cost-++ l m)

  -- the weights count what f collects
  counted : (f : Act → List ℕ) → ((x : Act) → weight x ≡ length (f x)) → (l : List Act) → cost l ≡ length (collect f l)
  unfolding cost collect
  counted f h [] = refl
  counted f h (x ∷ l) = omega (arith, h x, counted f h l, length-append (f x) (collect f l))

  own_least : (p : Program) → k p ≤ figure k p
  unfolding figure
  own_least Nothing = omega arith
  own_least Stop = omega arith
  own_least (Atom a) = omega arith
  own_least (Seq p q) = omega arith
  own_least (Par p q) = omega arith
  own_least (Loop p) = omega arith
  own_least (Repeat n p) = omega arith
  own_least (Generate s) = omega arith
  own_least (Await c) = omega arith
  own_least (When c p q) = omega arith
  own_least (Until c p q) = omega arith
  own_least (Control s p) = omega arith
  own_least (Local s p) = omega arith
  own_least (Freezable s p) = omega arith
  own_least (If v p q) = omega arith

  pub pot_going : (X : Events) (t : Term) → Going X t → pot k t ≤ figure k (prog t)
  unfolding pot figure prog Going
  pot_going X (done p) g = own_least p
  pot_going X nothing g = omega arith
  pot_going X stop g = omega arith
  pot_going X (atom x) g = omega arith
  pot_going X (generate s) g = omega arith
  pot_going X (await c) g = omega arith
  pot_going X (seq0 t q) g = omega (arith, pot_going X t g)
  pot_going X (seq2 p t) g = omega (arith, pot_going X t g)
  pot_going X (par α β t u) g =
      omega (arith, rest_stands α t _ _ (pot_going X t) g.1, rest_stands β u _ _ (pot_going X u) g.2)
  pot_going X (loop0 p) g = omega arith
  pot_going X (loop1 t) g =
      let m = one_more (due 1 (held t) true) 2 _ _ (due_times 2 1 (held t) true (omega arith)) (pot_going X t g) in omega arith
  pot_going X (repeat0 n p) g = omega arith
  pot_going X (repeat1 n j t) g =
      let b = stops (prog t) in
      let m = one_more (due j (held t) b) (times (most n) b) _ _ (due_times (most n) j (held t) b g.0) (pot_going X t g.1) in
      omega arith
  pot_going X (when0 c p q) g = omega arith
  pot_going X (when1 c t q) g = omega (arith, pot_going X t g)
  pot_going X (when2 c p t) g = omega (arith, pot_going X t g)
  pot_going X (until0 c t q) g = omega (arith, pot_going X t g)
  pot_going X (until* c t q) g = omega arith
  pot_going X (until2 c p t) g = omega (arith, pot_going X t g)
  pot_going X (control s t) g = omega (arith, pot_going X t (uncontrolled X (X s) t g))
  pot_going X (local b s t) g = omega (arith, pot_going (put s b X) t g)
  pot_going X (freezable0 s t) g = omega (arith, pot_going X t g)
  pot_going X (freezable* s t) g = omega arith
  pot_going X (if0 v p q) g = omega arith
  pot_going X (if1 v t q) g = omega (arith, pot_going X t g)
  pot_going X (if2 v p t) g = omega (arith, pot_going X t g)

  pub pot_at_rest : (t : Term) → AtRest t → pot k t ≤ figure k (prog t)
  pot_at_rest t a = pot_going none t (rest_going none t a)

  pub pot_fresh : (p : Program) → pot k (fresh p) ≤ figure k p
  pot_fresh p = rw (prog_fresh p) at (pot_going none (fresh p) (fresh_going none p))

  rest_leave : (α : Flag) (t : Term) → rest α (pot k (leave α t)) ≡ rest α (pot k t)
  unfolding leave
  rest_leave SUSP t = refl
  rest_leave STOP t = refl
  rest_leave TERM t = refl

  pub repeat_fresh : (n : Times) (j m : ℕ) (p : Program) → due j (stops p) (stops p) < m
      → pot k (repeat1 n j (fresh p)) ≤ k (Repeat n p) + m * figure k p
  unfolding pot
  repeat_fresh n j m p h = simp (prog_fresh p, held_fresh p) (let a = one_more _ m _ _ h (pot_fresh p) in omega arith)

  pub pot_again : (n : Times) (j : ℕ) (p : Program) → pot k (again n j p) ≤ k (Repeat n p) + due j false (stops p) * figure k p
  unfolding pot
  pot_again n zero p = omega arith
  pot_again n (suc j) p = repeat_fresh n j _ p (due_again j (stops p))

  -- what is left and what was spent is at most what there was
  pub spends : {free : Allowed} {P : Place} {t : Term} {E : Env} {r : Result}
      → Rewrites free P t E r
      → LoopsStop (prog t)
      → rest r.flag (pot k r.to) + cost r.acts ≤ pot k t
  unfolding pot cost prog LoopsStop
  spends r1 o = omega arith
  spends r1_on o = omega arith
  spends r2 o = omega arith
  spends r3 o = omega arith
  spends (r4 {t = t} {q = q} {r = r} d e) o =
      simp (rest_leave, cost-++, kept e, prog_fresh)
      (let a = rest_within r.flag (k (Seq (prog t) q)) _ _ _ (spends e (loops_fresh q o.1)) in
      omega (arith, spends d o.0, pot_fresh q))
  spends (r4_on {r = r} d) o = simp (rest_leave, kept d) (rest_within r.flag _ _ _ _ (spends d o.1))
  spends (r5 {q = q} {r = r} d n) o =
      simp (rest_leave, kept d)
      (rest_within r.flag _ _ _ _ (rest_beside r.flag _ _ _ _ _ (spends d o.0) (rest_le r.flag (figure k q))))
  spends (r8 {r = r} {s = s} d e) o =
      simp (rest_leave, cost-++, kept d, kept e)
      (rest_within (γ r.flag s.flag) _ _ _ _
      (omega (arith, rest_joined r.flag s.flag (pot k r.to) (pot k s.to), spends d o.0, spends e o.1)))
  spends (r9 {r = r} {s = s} f e d) o =
      simp (rest_leave, cost-++, kept d, kept e)
      (rest_within (γ r.flag s.flag) _ _ _ _
      (omega (arith, rest_joined r.flag s.flag (pot k r.to) (pot k s.to), spends d o.0, spends e o.1)))
  spends (r10 {β = β} {u = u} {r = r} n d) o =
      simp (rest_leave, kept d)
      (rest_within (γ r.flag β) _ _ _ _ (omega (arith, rest_joined r.flag β (pot k r.to) (pot k u), spends d o.0)))
  spends (r11 {α = α} {t = t} {r = r} n d) o =
      simp (rest_leave, kept d)
      (rest_within (γ α r.flag) _ _ _ _ (omega (arith, rest_joined α r.flag (pot k t) (pot k r.to), spends d o.1)))
  spends (r12 {p = p} {r = r} d n) o =
      simp (rest_leave, kept d, prog_fresh)
      (rest_within r.flag _ _ _ _
      (let h = due_kept r.flag 1 true (held r.to) true (figure k p) (λ x. stays_held d (held_fresh p ∙ o.0)) in
      let a = rest_beside r.flag _ _ _ _ _ (spends d (loops_fresh p o.1)) h in
      omega (arith, zero-mul (figure k p), pot_fresh p)))
  spends (r13 {p = p} f d e) o = absurd (begun p d o.0 refl)
  spends (r4_loop d e) o = simp (cost-++, ends_unheld d) (omega (arith, spends d o.1, spends e o))
  spends (r5_loop {t = t} {r = r} d n) o =
      simp (rest_leave, kept d)
      (rest_within r.flag _ _ _ _
      (rest_beside r.flag _ _ _ _ _ (spends d o.1)
      (due_kept r.flag 1 (held t) (held r.to) true (figure k (prog t)) (λ x. stays_held d x))))
  spends (r14 h) o = omega arith
  spends (r15 {n = n} {k = j} {p = p} h d) o =
      le_trans (spends d (loops_fresh p o)) (repeat_fresh n j _ p (due_times (most n) j (stops p) (stops p) (below_most _ n h)))
  spends (r4_repeat {n = n} {k = j} {t = t} d e) o =
      simp (cost-++, ends_unheld d)
      (omega (arith, spends d o, spends e (rw (prog_again n j (prog t)) o), pot_again n j (prog t)))
  spends (r5_repeat {k = j} {t = t} {r = r} d n) o =
      simp (rest_leave, kept d)
      (rest_within r.flag _ _ _ _
      (rest_beside r.flag _ _ _ _ _ (spends d o)
      (due_kept r.flag j (held t) (held r.to) (stops (prog t)) (figure k (prog t)) (λ x. stays_held d x))))
  spends r16 o = omega arith
  spends (r17 {p = p} {r = r} s h d) o =
      simp (rest_leave, kept d, prog_fresh)
      (rest_within r.flag _ _ _ _ (omega (arith, spends d (loops_fresh p o.0), pot_fresh p)))
  spends (r17_on {r = r} d) o = simp (rest_leave, kept d) (rest_within r.flag _ _ _ _ (spends d o.0))
  spends (r18 s h) o = omega arith
  spends (r19 {q = q} {r = r} s h d) o =
      simp (rest_leave, kept d, prog_fresh)
      (rest_within r.flag _ _ _ _ (omega (arith, spends d (loops_fresh q o.1), pot_fresh q)))
  spends (r19_on {r = r} d) o = simp (rest_leave, kept d) (rest_within r.flag _ _ _ _ (spends d o.1))
  spends (r20 s h) o = omega arith
  spends (r21 s) o = omega arith
  spends (r22 s h) o = omega arith
  spends (r23 s h) o = omega arith
  spends (r24 s) o = omega arith
  spends (r25 s) o = omega arith
  spends (r26 {r = r} s d) o = simp (rest_leave, kept d) (rest_within r.flag _ _ _ _ (omega (arith, spends d o)))
  spends (r27 s) o = omega arith
  spends (r28 s) o = omega arith
  spends (r29 {q = q} {r = r} d n) o =
      simp (rest_leave, kept d)
      (rest_within r.flag _ _ _ _ (rest_beside r.flag _ _ _ _ _ (spends d o.0) (rest_le r.flag (figure k q))))
  spends (r30 d e) o =
      simp cost-++
      (let a = rw (kept d) at (spends e (rw (kept d) o.0, o.1)) in omega (arith, spends d o.0))
  spends (r31 {q = q} {r = r} s h d) o =
      simp (rest_leave, kept d, prog_fresh)
      (rest_within r.flag _ _ _ _ (omega (arith, spends d (loops_fresh q o.1), pot_fresh q)))
  spends (r31_on {r = r} d) o = simp (rest_leave, kept d) (rest_within r.flag _ _ _ _ (spends d o.1))
  spends (r32 s h) o = omega arith
  spends (r33 s) o = omega arith
  spends (r34 s) o = omega arith
  spends (r35_39 {r = r} d) o = simp (rest_leave, cost-++, kept d) (rest_within r.flag _ _ _ _ (omega (arith, spends d o)))
  spends (r40 {r = r} d n) o = simp (rest_leave, kept d) (rest_within r.flag _ _ _ _ (spends d o))
  spends (r41 d e) o = simp cost-++ (let a = rw (kept d) at (spends e (rw (kept d) o)) in omega (arith, spends d o))
  spends (r42 s h) o = omega arith
  spends (r43 s h) o = omega arith
  spends (r44 s) o = omega arith
  spends (r45 s) o = omega arith
  spends (if_true {p = p} {r = r} h d) o =
      simp (rest_leave, kept d, prog_fresh)
      (rest_within r.flag _ _ _ _ (omega (arith, spends d (loops_fresh p o.0), pot_fresh p)))
  spends (if_true_on {r = r} d) o = simp (rest_leave, kept d) (rest_within r.flag _ _ _ _ (spends d o.0))
  spends (if_false {q = q} {r = r} h d) o =
      simp (rest_leave, kept d, prog_fresh)
      (rest_within r.flag _ _ _ _ (omega (arith, spends d (loops_fresh q o.1), pot_fresh q)))
  spends (if_false_on {r = r} d) o = simp (rest_leave, kept d) (rest_within r.flag _ _ _ _ (spends d o.1))

  -- the same of a pass that suspends
  pub suspends : {free : Allowed} {P : Place} {t : Term} {E : Env} {r : Result}
      → Rewrites free P t E r
      → LoopsStop (prog t)
      → r.flag ≡ SUSP
      → pot k r.to + cost r.acts ≤ pot k t
  suspends {t = t} {r = r} d o e =
      subst (λ (α : Flag). rest α (pot k r.to) + cost r.acts ≤ pot k t) e (spends d o)

  -- the acts of an instant weigh at most what there was when it began
  pub instant_spends : {free : Allowed} {t : Term} {E : Env} {n : ℕ} {r : Result}
      → Instant free t E n r
      → LoopsStop (prog t)
      → cost r.acts ≤ pot k t
  instant_spends (r47 d n) o = omega (arith, spends d o)
  instant_spends (r48 d e m i) o = simp cost-++ (omega (arith, suspends d o e, instant_spends i (rw (kept d) o)))
  instant_spends (r49 d e m i) o = simp cost-++ (omega (arith, suspends d o e, instant_spends i (rw (kept d) o)))

  -- so from a state at rest they weigh at most the figure
  pub within_figure : {free : Allowed} {t : Term} {E : Env} {n : ℕ} {r : Result}
      → Instant free t E n r
      → LoopsStop (prog t)
      → AtRest t
      → cost r.acts ≤ figure k (prog t)
  within_figure {t = t} i o a = le_trans (instant_spends i o) (pot_at_rest t a)

count_events : (x : Act) → weight (per 7) x ≡ length (event_of x)
unfolding kind
count_events (did_atom a) = refl
count_events (did_generate s) = refl
count_events (did_park x) = refl
count_events (decided P c b E) = refl
count_events (waits P c E) = refl
count_events (scope_answered n α b) = refl

count_atoms : (x : Act) → weight (per 2) x ≡ length (atom_of x)
unfolding kind
count_atoms (did_atom a) = refl
count_atoms (did_generate s) = refl
count_atoms (did_park x) = refl
count_atoms (decided P c b E) = refl
count_atoms (waits P c E) = refl
count_atoms (scope_answered n α b) = refl

pub cost-G : (l : List Act) → cost (per 7) l ≡ length (generations l)
cost-G l = counted (per 7) event_of count_events l

pub cost-A : (l : List Act) → cost (per 2) l ≡ length (atoms l)
cost-A l = counted (per 2) atom_of count_atoms l

pub at_most-G : {free : Allowed} {t : Term} {E : Env} {n : ℕ} {r : Result}
    → Instant free t E n r
    → LoopsStop (prog t)
    → AtRest t
    → length (generations r.acts) ≤ G (prog t)
at_most-G {r = r} i o a = rw (← cost-G r.acts) (within_figure (per 7) i o a)

pub at_most-A : {free : Allowed} {t : Term} {E : Env} {n : ℕ} {r : Result}
    → Instant free t E n r
    → LoopsStop (prog t)
    → AtRest t
    → length (atoms r.acts) ≤ A (prog t)
at_most-A {r = r} i o a = rw (← cost-A r.acts) (within_figure (per 2) i o a)
