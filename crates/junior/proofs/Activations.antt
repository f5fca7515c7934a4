-- In an instant a body that suspends is run again, and one that stops isn't before an Until or a Freezable around it leaves its body.
-- Shown from the instant's end to its beginning: k are the acts still to come.
use Prim.Native.Nat.{ℕ, suc, ◌+◌, ◌≤◌, ◌<◌}
use mathlib.Core.Bool.{Bool, true, false, false≢true}
use mathlib.Core.Path.{◌≡◌, refl, sym, ap, subst⁻¹, ◌∙◌}
use mathlib.Core.Logic.{◌≢◌, inl, inr}
use mathlib.Core.List.{List, [], ◌∷◌, ◌++◌, append_assoc, append-nil}
use native.Mathlib.Omega.{arith}
use Rattle.events.specs.Events.{Events, put, none}
use Rattle.junior.specs.declared.Flag.{Flag}
use Rattle.junior.specs.declared.Flag.TheVariants.{SUSP, STOP, TERM}
use Rattle.junior.specs.Flags.{γ, δ₁, δ₂}
use Rattle.junior.specs.Configuration.{Event, Env, handed_in, test, fixed, eval, unknown}
use Rattle.junior.specs.Program.{Program, Nothing, Stop, Repeat, Until, Local, Freezable, size}
use Rattle.junior.specs.Values.{zeros, exactly}
use Rattle.junior.specs.Term.{Term, done, nothing, stop, atom, generate, await, seq0, seq2, par, loop0, loop1, repeat0, repeat1, when0, when1}
use Rattle.junior.specs.Term.{when2, until0, until*, until2, control, local, freezable0, freezable*, if0, if1, if2, prog, fresh, leave}
use Rattle.junior.specs.Trace.{Place, Act, did_atom, did_generate, did_park, decided, waits, scope_answered}
use Rattle.junior.specs.Rules.{Allowed, left_first, Result, sign, Rewrites, r1, r1_on, r2, r3, r4, r4_on, r5, r8, r9, r10, r11, r12, r13}
use Rattle.junior.specs.Rules.{r4_loop, r5_loop, r14, r15, r4_repeat, r5_repeat, r16, r17, r17_on, r18, r19, r19_on, r20, r21, r22, r23, r24}
use Rattle.junior.specs.Rules.{r25, r26, r27, r28, r29, r30, r31, r31_on, r32, r33, r34, r35_39, r40, r41, r42, r43, r44, r45, if_true}
use Rattle.junior.specs.Rules.{if_true_on, if_false, if_false_on}
use Rattle.junior.specs.Instant.{Instant, r47, r48, r49}
use Rattle.junior.specs.Course.{◌⊆◌}
use Rattle.junior.specs.Activations.{PreemptionAround, Answers, Silent, Next, Activations}
use Rattle.junior.proofs.Little.{TERM≢SUSP}
use Rattle.junior.proofs.Fresh.{prog_fresh}
use Rattle.junior.proofs.Kept.{prog_again, kept}
use Rattle.junior.proofs.Verdicts.{lasts, as_it_is, present}
use Rattle.junior.proofs.Grows.{grows}
use Rattle.junior.proofs.Going.{put_grows, signed}
use Rattle.junior.proofs.Scopes.{Inside, Between, between}

answers_after : (l k : List Act) (n : ℕ) → Answers n k → Answers n (l ++ k)
unfolding Answers
answers_after [] k n a = a
answers_after (did_atom m ∷ l) k n a = answers_after l k n a
answers_after (did_generate s ∷ l) k n a = answers_after l k n a
answers_after (did_park x ∷ l) k n a = answers_after l k n a
answers_after (decided P c b E ∷ l) k n a = answers_after l k n a
answers_after (waits P c E ∷ l) k n a = answers_after l k n a
answers_after (scope_answered m α b ∷ l) k n a = inr (answers_after l k n a)

-- an event that isn't known yet isn't present
not_yet : (s : ℕ) (E : Env) → unknown (Event s) E → E.now s ≡ true → ⊥
unfolding test fixed eval
not_yet s E v h = let z : ◌≡◌ {A = ℕ} 0 1 = cc in omega arith

-- a part that answered with a flag goes on, has stopped, or has ended
abbrev After : Flag → Type 0 → Type 0 → Type 0
After SUSP going stopped = going
After STOP going stopped = stopped
After TERM going stopped = Unit {0}

module _ (around : ℕ → ℕ → Type 0) where
  -- what Locals at the nodes from i up to j answer doesn't break the silence of others
  silent_apart : {i j : ℕ} {l : List Act} → Between i j l → (n : ℕ) (k : List Act) → (i ≤ n → n < j → ⊥)
      → Silent around n k
      → Silent around n (l ++ k)
  unfolding Silent Inside
  silent_apart {i} {j} {l} b n k o h = go l b.inside
    where
      go : (l : List Act) → Inside i j l → Silent around n (l ++ k)
      go [] b = h
      go (did_atom a ∷ l) b = go l b
      go (did_generate s ∷ l) b = go l b
      go (did_park x ∷ l) b = go l b
      go (decided P c x E ∷ l) b = inr (go l b)
      go (waits P c E ∷ l) b = go l b
      go (scope_answered m α x ∷ l) b = ((λ e. o (omega arith) (omega arith)), go l b.1)

  -- no Local at the nodes from i up to j answers in k
  abbrev Hushed : ℕ → ℕ → List Act → Type 0
  Hushed i j k = (n : ℕ) → i ≤ n → n < j → Silent around n k

  -- of the state of node i, with the events X present: each Local that runs answers in k, none that stopped does. A Control whose event
  -- isn't present hasn't run its body in this instant.
  unfoldable Owes : Term → ℕ → Events → List Act → Type 0
  Owes (done p) i X k = Unit {0}
  Owes nothing i X k = Unit {0}
  Owes stop i X k = Unit {0}
  Owes (atom a) i X k = Unit {0}
  Owes (generate s) i X k = Unit {0}
  Owes (await c) i X k = Unit {0}
  Owes (seq0 t q) i X k = Owes t (suc i) X k
  Owes (seq2 p t) i X k = Owes t (suc i + size p) X k
  Owes (par α β t u) i X k =
      After α (Owes t (suc i) X k) (Hushed (suc i) (suc i + size (prog t)) k)
      × After β (Owes u (suc i + size (prog t)) X k) (Hushed (suc i + size (prog t)) (suc i + size (prog t) + size (prog u)) k)
  Owes (loop0 p) i X k = Unit {0}
  Owes (loop1 t) i X k = Owes t (suc i) X k
  Owes (repeat0 n p) i X k = Unit {0}
  Owes (repeat1 n m t) i X k = Owes t (suc i) X k
  Owes (when0 c p q) i X k = Unit {0}
  Owes (when1 c t q) i X k = Owes t (suc i) X k
  Owes (when2 c p t) i X k = Owes t (suc i + size p) X k
  Owes (until0 c t q) i X k = Owes t (suc i) X k
  Owes (until* c t q) i X k = Hushed (suc i) (suc i + size (prog t)) k
  Owes (until2 c p t) i X k = Owes t (suc i + size p) X k
  Owes (control s t) i X k = X s ≡ true → Owes t (suc i) X k
  Owes (local b s t) i X k = Answers i k × Owes t (suc i) (put s b X) k
  Owes (freezable0 s t) i X k = Owes t (suc i) X k
  Owes (freezable* s t) i X k = Hushed (suc i) (suc i + size (prog t)) k
  Owes (if0 v p q) i X k = Unit {0}
  Owes (if1 v t q) i X k = Owes t (suc i) X k
  Owes (if2 v p t) i X k = Owes t (suc i + size p) X k

  abbrev Left : Flag → Term → ℕ → Events → List Act → Type 0
  Left α t i X k = After α (Owes t i X k) (Hushed i (i + size (prog t)) k)

  after_map : {A A' B B' : Type 0} (α : Flag) → (A → A') → (B → B') → After α A B → After α A' B'
  after_map SUSP f g x = f x
  after_map STOP f g x = g x
  after_map TERM f g x = tt

  -- the acts l of Locals apart from node i's, before those of k
  record Apart (l : List Act) (i j : ℕ) : Type 0 where
    pub silent : (n : ℕ) (k : List Act) → i ≤ n → n < j → Silent around n k → Silent around n (l ++ k)

  apart : {i j i' j' : ℕ} {l : List Act} → Between i' j' l → ((n : ℕ) → i ≤ n → n < j → i' ≤ n → n < j' → ⊥) → Apart l i j
  apart b h = record { silent = λ n k lo hi. silent_apart b n k (h n lo hi) }

  narrow : {l : List Act} {i i' j j' : ℕ} → (i ≤ i') × (j' ≤ j) → Apart l i j → Apart l i' j'
  narrow h a = record { silent = λ n k lo hi. a.silent n k (omega arith) (omega arith) }

  hushed : {l : List Act} {i i' j j' : ℕ} (k : List Act) → (i ≤ i') × (j' ≤ j) → Apart l i j → Hushed i' j' k → Hushed i' j' (l ++ k)
  hushed k h a o n lo hi = a.silent n k (omega arith) (omega arith) (o n lo hi)

  -- with fewer events and more acts before
  earlier : {l : List Act} {X Y : Events} (k : List Act) (t : Term) (i : ℕ) → Apart l i (i + size (prog t)) → X ⊆ Y
      → Owes t i Y k
      → Owes t i X (l ++ k)
  unfolding Owes size prog
  earlier k (done p) i a h o = tt
  earlier k nothing i a h o = tt
  earlier k stop i a h o = tt
  earlier k (atom n) i a h o = tt
  earlier k (generate s) i a h o = tt
  earlier k (await c) i a h o = tt
  earlier k (seq0 t q) i a h o = earlier k t _ (narrow (omega arith) a) h o
  earlier k (seq2 p t) i a h o = earlier k t _ (narrow (omega arith) a) h o
  earlier k (par α β t u) i a h o = (
    after_map α (earlier k t _ (narrow (omega arith) a) h) (hushed k (omega arith) a) o.0,
    after_map β (earlier k u _ (narrow (omega arith) a) h) (hushed k (omega arith) a) o.1,
  )
  earlier k (loop0 p) i a h o = tt
  earlier k (loop1 t) i a h o = earlier k t _ (narrow (omega arith) a) h o
  earlier k (repeat0 n p) i a h o = tt
  earlier k (repeat1 n m t) i a h o = earlier k t _ (narrow (omega arith) a) h o
  earlier k (when0 c p q) i a h o = tt
  earlier k (when1 c t q) i a h o = earlier k t _ (narrow (omega arith) a) h o
  earlier k (when2 c p t) i a h o = earlier k t _ (narrow (omega arith) a) h o
  earlier k (until0 c t q) i a h o = earlier k t _ (narrow (omega arith) a) h o
  earlier k (until* c t q) i a h o = hushed k (omega arith) a o
  earlier k (until2 c p t) i a h o = earlier k t _ (narrow (omega arith) a) h o
  earlier k (control s t) i a h o = λ x. earlier k t _ (narrow (omega arith) a) h (o (h s x))
  earlier {l = l} {X = X} {Y = Y} k (local b s t) i a h o =
      (answers_after l k i o.0, earlier {X = put s b X} {Y = put s b Y} k t _ (narrow (omega arith) a) (put_grows s b h) o.1)
  earlier k (freezable0 s t) i a h o = earlier k t _ (narrow (omega arith) a) h o
  earlier k (freezable* s t) i a h o = hushed k (omega arith) a o
  earlier k (if0 v p q) i a h o = tt
  earlier k (if1 v t q) i a h o = earlier k t _ (narrow (omega arith) a) h o
  earlier k (if2 v p t) i a h o = earlier k t _ (narrow (omega arith) a) h o

  left_earlier : {l : List Act} {X Y : Events} (k : List Act) (α : Flag) (t : Term) (i : ℕ) → Apart l i (i + size (prog t)) → X ⊆ Y
      → Left α t i Y k
      → Left α t i X (l ++ k)
  left_earlier k α t i a h = after_map α (earlier k t i a h) (hushed k (omega arith) a)

  -- a part of the node u
  part : (r : Result) (u : Term) (i j : ℕ) (k : List Act)
      → (Owes u i r.env.now k → Owes r.to j r.env.now k)
      → (i ≤ j) × (j + size (prog r.to) ≤ i + size (prog u))
      → Left r.flag (leave r.flag u) i r.env.now k
      → Left r.flag r.to j r.env.now k
  unfolding leave
  part r u i j k f h = go r.flag
    where
      go : (α : Flag) → Left α (leave α u) i r.env.now k → Left α r.to j r.env.now k
      go SUSP o = f o
      go STOP o = λ n lo hi. o n (omega arith) (omega arith)
      go TERM o = tt

  branches : (α β : Flag) (X : Events) (t u : Term) (i : ℕ) (k : List Act)
      → Left (γ α β) (leave (γ α β) (par (δ₁ α β) (δ₂ α β) t u)) i X k
      → Left α t (suc i) X k × Left β u (suc i + size (prog t)) X k
  unfolding leave Owes size prog
  branches SUSP SUSP X t u i k o = o
  branches SUSP STOP X t u i k o = o
  branches SUSP TERM X t u i k o = o
  branches STOP SUSP X t u i k o = o
  branches STOP STOP X t u i k o = (λ n lo hi. o n (omega arith) (omega arith), λ n lo hi. o n (omega arith) (omega arith))
  branches STOP TERM X t u i k o = (λ n lo hi. o n (omega arith) (omega arith), tt)
  branches TERM SUSP X t u i k o = o
  branches TERM STOP X t u i k o = (tt, λ n lo hi. o n (omega arith) (omega arith))
  branches TERM TERM X t u i k o = (tt, tt)

  -- a Local whose body answered, with k behind that
  scope : (α : Flag) (X : Events) (b x y : Bool) (s : ℕ) (t : Term) (i : ℕ) (k : List Act)
      → Left α (leave α (local (sign b α (X s)) s t)) i (put s x X) k
      → Next around α i k × Left α t (suc i) X (scope_answered i α y ∷ k)
  unfolding leave Owes Silent Inside size prog
  scope SUSP X b x y s t i k o =
      let own : Between i (suc i) (scope_answered i SUSP y ∷ []) = record { inside = ((omega arith, omega arith), tt) } in
      (o.0, earlier k t (suc i) (apart own (omega arith)) (signed X s b x) o.1)
  scope STOP X b x y s t i k o =
      (o i (omega arith) (omega arith), λ n lo hi. ((λ e. omega arith), o n (omega arith) (omega arith)))
  scope TERM X b x y s t i k o = (tt, tt)

  -- the Untils and Freezables of p, whose node is i, are around what stands in their bodies
  record Known (p : Program) (i : ℕ) : Type 0 where
    pub known : (m n : ℕ) → PreemptionAround p i m n → around m n

  known_in : {p q : Program} {i j : ℕ} → Known p i → ((m n : ℕ) → PreemptionAround q j m n → PreemptionAround p i m n) → Known q j
  known_in c f = record { known = λ m n x. c.known m n (f m n x) }

  known_fresh : (p : Program) {i : ℕ} → Known p i → Known (prog (fresh p)) i
  known_fresh p c = rw (prog_fresh p) c

  -- a pass with k behind it
  pass : {free : Allowed} {P : Place} {t : Term} {E : Env} {r : Result} (k : List Act) → Rewrites free P t E r
      → Known (prog t) P.node
      → Activations around k
      → Left r.flag r.to P.node r.env.now k
      → Activations around (r.acts ++ k) × Owes t P.node E.now (r.acts ++ k)
  unfolding Activations Owes Silent Answers Inside PreemptionAround size prog eval
  pass k r1 c a h = (a, tt)
  pass k r1_on c a h = (a, tt)
  pass k r2 c a h = (a, tt)
  pass k r3 c a h = (a, tt)
  pass k (r4 {q = q} {l = l} {r = r} d e) c a h =
      let b = pass k e (known_fresh q (known_in c (λ m n x. inr x))) a (part r _ _ _ k (λ o. o) (omega arith) h) in
      rw (append_assoc l r.acts k) (pass (r.acts ++ k) d (known_in c (λ m n x. inl x)) b.0 tt)
  pass k (r4_on {r = r} d) c a h = pass k d (known_in c (λ m n x. inr x)) a (part r _ _ _ k (λ o. o) (omega arith) h)
  pass k (r5 {r = r} d n) c a h = pass k d (known_in c (λ m n x. inl x)) a (part r _ _ _ k (λ o. o) (omega arith) h)
  pass k (r8 {P = P} {u = u} {r = r} {s = s} d e) c a h =
      let (o, v) = branches r.flag s.flag s.env.now r.to s.to P.node k h in
      let b = pass k e (known_in c (λ m n x. inr x)) a (rw (kept d) at v) in
      let o' = left_earlier k r.flag r.to _ (apart (between e) (omega (arith, ap size (kept d)))) (grows e) o in
      let y = pass (s.acts ++ k) d (known_in c (λ m n x. inl x)) b.0 o' in
      let w = earlier (s.acts ++ k) u _ (apart (between d) (omega arith)) (grows d) b.1 in
      rw (append_assoc r.acts s.acts k) (y.0, (y.1, w))
  pass k (r9 {P = P} {t = t} {r = r} {s = s} f e d) c a h =
      let (o, v) = branches r.flag s.flag r.env.now r.to s.to P.node k h in
      let b = pass k d (known_in c (λ m n x. inl x)) a o in
      let v' = left_earlier k s.flag s.to _ (apart (between d) (omega arith)) (grows d) (rw (kept d) at v) in
      let y = pass (r.acts ++ k) e (known_in c (λ m n x. inr x)) b.0 v' in
      let w = earlier (r.acts ++ k) t _ (apart (between e) (omega arith)) (grows e) b.1 in
      rw (append_assoc s.acts r.acts k) (y.0, (w, y.1))
  pass k (r10 {P = P} {β = β} {u = u} {r = r} n d) c a h =
      let (o, v) = branches r.flag β r.env.now r.to u P.node k h in
      let y = pass k d (known_in c (λ m n x. inl x)) a o in
      let w = left_earlier k β u _ (apart (between d) (omega arith)) (grows d) (rw (kept d) at v) in
      (y.0, (y.1, w))
  pass k (r11 {P = P} {α = α} {t = t} {r = r} n d) c a h =
      let (o, v) = branches α r.flag r.env.now t r.to P.node k h in
      let y = pass k d (known_in c (λ m n x. inr x)) a v in
      (y.0, (left_earlier k α t _ (apart (between d) (omega arith)) (grows d) o, y.1))
  pass k (r12 {p = p} {r = r} d n) c a h =
      ((pass k d (known_fresh p (known_in c (λ m n x. x))) a (part r _ _ _ k (λ o. o) (omega arith) h)).0, tt)
  pass k (r13 {p = p} {l = l} {r = r} f d e) c a h =
      let b = pass k e c a h in
      rw (append_assoc l r.acts k) ((pass (r.acts ++ k) d (known_fresh p (known_in c (λ m n x. x))) b.0 tt).0, tt)
  pass k (r4_loop {l = l} {r = r} d e) c a h =
      let b = pass k e c a h in
      rw (append_assoc l r.acts k) (pass (r.acts ++ k) d (known_in c (λ m n x. x)) b.0 tt)
  pass k (r5_loop {r = r} d n) c a h = pass k d (known_in c (λ m n x. x)) a (part r _ _ _ k (λ o. o) (omega arith) h)
  pass k (r14 e) c a h = (a, tt)
  pass k (r15 {p = p} e d) c a h = ((pass k d (rw (prog_fresh p) c) a h).0, tt)
  pass k (r4_repeat {n = n} {k = m} {t = t} {l = l} {r = r} d e) c a h =
      let b = pass k e (rw (prog_again n m (prog t)) c) a h in
      rw (append_assoc l r.acts k) (pass (r.acts ++ k) d (known_in c (λ m n x. x)) b.0 tt)
  pass k (r5_repeat {r = r} d n) c a h = pass k d (known_in c (λ m n x. x)) a (part r _ _ _ k (λ o. o) (omega arith) h)
  pass k r16 c a h = (a, tt)
  pass k (r17 {p = p} {r = r} v n d) c a h =
      ((pass k d (known_fresh p (known_in c (λ m n x. inl x))) a (part r _ _ _ k (λ o. o) (omega arith) h)).0, tt)
  pass k (r17_on {r = r} d) c a h = pass k d (known_in c (λ m n x. inl x)) a (part r _ _ _ k (λ o. o) (omega arith) h)
  pass k (r18 v n) c a h = (a, tt)
  pass k (r19 {q = q} {r = r} v n d) c a h =
      ((pass k d (known_fresh q (known_in c (λ m n x. inr x))) a (part r _ _ _ k (λ o. o) (omega arith) h)).0, tt)
  pass k (r19_on {r = r} d) c a h = pass k d (known_in c (λ m n x. inr x)) a (part r _ _ _ k (λ o. o) (omega arith) h)
  pass k (r20 v n) c a h = (a, tt)
  pass k (r21 v) c a h = (a, tt)
  pass k (r22 v n) c a h = (a, tt)
  pass k (r23 v n) c a h = (a, tt)
  pass k (r24 v) c a h = (a, tt)
  pass k (r25 v) c a h = (a, tt)
  pass k (r26 {P = P} {E = E} {s = s} {t = t} {r = r} v d) c a h =
      let f = part r _ _ _ k (λ o. o (grows d s (present s E v))) (omega arith) h in
      let y = pass k d (known_in c (λ m n x. x)) a f in
      let test : Between 0 0 (decided P (Event s) true E ∷ []) = record { inside = tt } in
      (y.0, λ x. earlier (r.acts ++ k) t _ (apart test (omega arith)) (λ n e. e) y.1)
  pass k (r27 {E = E} {s = s} v) c a h =
      (a, λ x. absurd (false≢true (sym (lasts (Event s) E E.now v (as_it_is E)) ∙ x)))
  pass k (r28 {E = E} {s = s} v) c a h = (a, λ x. absurd (not_yet s E v x))
  pass k (r29 {r = r} d n) c a h =
      pass k d (known_in c (λ m n x. inr (inl x))) a (part r _ _ _ k (λ o. o) (omega arith) h)
  pass k (r30 {l = l} {r = r} d e) c a h =
      let b = pass k e (rw (kept d) c) a h in
      rw (append_assoc l r.acts k) (pass (r.acts ++ k) d (known_in c (λ m n x. inr (inl x))) b.0 b.1)
  pass k (r31 {P = P} {q = q} {r = r} v n d) c a h =
      let b = pass k d (known_fresh q (known_in c (λ m n x. inr (inr x)))) a (part r _ _ _ k (λ o. o) (omega arith) h) in
      (b.0, λ n lo hi. inl (refl, c.known P.node n (inl (refl, omega arith, hi))))
  pass k (r31_on {r = r} d) c a h =
      pass k d (known_in c (λ m n x. inr (inr x))) a (part r _ _ _ k (λ o. o) (omega arith) h)
  pass k (r32 {P = P} v n) c a h = (a, λ n lo hi. inl (refl, c.known P.node n (inl (refl, omega arith, hi))))
  pass k (r33 v) c a h = (a, λ n lo hi. inr (h n (omega arith) (omega arith)))
  pass k (r34 v) c a h = (a, h)
  pass k (r35_39 {P = P} {E = E} {b = b} {s = s} {r = r} d) c a h =
      let m : List Act = scope_answered P.node r.flag (r.env.now s) ∷ [] in
      let (x, o) = scope r.flag r.env.now b (E.now s) (r.env.now s) s r.to P.node k h in
      let y = pass (m ++ k) d (known_in c (λ m n x. x)) (x, a) o in
      rw (append_assoc r.acts m k) (y.0, (answers_after r.acts (m ++ k) P.node (inl refl), y.1))
  pass k (r40 {r = r} d n) c a h = pass k d (known_in c (λ m n x. inr x)) a (part r _ _ _ k (λ o. o) (omega arith) h)
  pass k (r41 {l = l} {r = r} d e) c a h =
      let b = pass k e (rw (kept d) c) a h in
      rw (append_assoc l r.acts k) (pass (r.acts ++ k) d (known_in c (λ m n x. inr x)) b.0 b.1)
  pass k (r42 {P = P} v n) c a h = (a, λ n lo hi. inl (refl, c.known P.node n (inl (refl, omega arith, hi))))
  pass k (r43 {P = P} v n) c a h = (a, λ n lo hi. inl (refl, c.known P.node n (inl (refl, omega arith, hi))))
  pass k (r44 v) c a h = (a, λ n lo hi. inr (h n (omega arith) (omega arith)))
  pass k (r45 v) c a h = (a, h)
  pass k (if_true {p = p} {r = r} e d) c a h =
      ((pass k d (known_fresh p (known_in c (λ m n x. inl x))) a (part r _ _ _ k (λ o. o) (omega arith) h)).0, tt)
  pass k (if_true_on {r = r} d) c a h = pass k d (known_in c (λ m n x. inl x)) a (part r _ _ _ k (λ o. o) (omega arith) h)
  pass k (if_false {q = q} {r = r} e d) c a h =
      ((pass k d (known_fresh q (known_in c (λ m n x. inr x))) a (part r _ _ _ k (λ o. o) (omega arith) h)).0, tt)
  pass k (if_false_on {r = r} d) c a h = pass k d (known_in c (λ m n x. inr x)) a (part r _ _ _ k (λ o. o) (omega arith) h)

  instant : {free : Allowed} {t : Term} {E : Env} {n : ℕ} {r : Result} → Instant free t E n r → Known (prog t) 0
      → Activations around r.acts × Owes t 0 E.now r.acts
  unfolding Activations Silent
  instant (r47 {r = r} d h) c =
      rw (append-nil r.acts) at (pass [] d c tt (ended r.flag h))
    where
      ended : (α : Flag) → α ≢ SUSP → Left α r.to 0 r.env.now []
      ended SUSP h = absurd (h refl)
      ended STOP h = λ n lo hi. tt
      ended TERM h = tt
  instant (r48 {r = r} {s = s} d h m i) c =
      let (a, o) = instant i (rw (kept d) c) in
      pass s.acts d c a (subst⁻¹ (λ α. Left α r.to 0 r.env.now s.acts) h o)
  instant (r49 {r = r} {s = s} d h m i) c =
      let (a, o) = instant i (rw (kept d) c) in
      pass s.acts d c a (subst⁻¹ (λ α. Left α r.to 0 r.env.now s.acts) h o)

pub activations : {free : Allowed} {t : Term} {E : Env} {n : ℕ} {r : Result} → Instant free t E n r
    → Activations (PreemptionAround (prog t) 0) r.acts
activations {t = t} i = (instant (PreemptionAround (prog t) 0) i (record { known = λ m n x. x })).0

-- An Until around it does make a difference: with event 0 handed in, Repeat(2, Until(0, Local(1, Stop), Nothing)) runs the Local's body
-- twice in one instant, and both times it stops.
pub stops_twice : (r : Result) × (l : List Act)
    × Instant (left_first zeros) (fresh (Repeat (exactly 2) (Until (Event 0) (Local 1 Stop) Nothing))) (handed_in (put 0 true none)) 1 r
    × (r.acts ≡ scope_answered 2 STOP false ∷ l)
    × Answers 2 l
unfolding fresh put test fixed eval leave prog Answers
stops_twice = (
  _,
  _,
  r47 (r15 refl (r4_repeat (r30 (r35_39 r2) (r31 refl refl r1)) (r4_repeat (r30 (r35_39 r2) (r31 refl refl r1)) r1_on))) TERM≢SUSP,
  refl,
  inl refl,
)

-- And so does a Freezable: Repeat(2, Freezable(0, Local(1, Stop))) parks it twice.
pub parks_twice : (r : Result) × (l : List Act)
    × Instant (left_first zeros) (fresh (Repeat (exactly 2) (Freezable 0 (Local 1 Stop)))) (handed_in (put 0 true none)) 1 r
    × (r.acts ≡ scope_answered 2 STOP false ∷ l)
    × Answers 2 l
unfolding fresh put test fixed eval leave prog Answers
parks_twice = (
  _,
  _,
  r47 (r15 refl (r4_repeat (r41 (r35_39 r2) (r42 refl refl)) (r4_repeat (r41 (r35_39 r2) (r42 refl refl)) r1_on))) TERM≢SUSP,
  refl,
  inl refl,
)
