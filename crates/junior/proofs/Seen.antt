-- An event that is present outside a Local of its name is present for every test there, from then on: had the event that an instant names
-- been handed in, each test outside the Locals of its name would have found it.
use Prim.Native.Nat.{ℕ}
use mathlib.Core.Bool.{Bool, true, false, cond}
use mathlib.Core.Path.{◌≡◌}
use mathlib.Core.List.{List, [], ◌∷◌, ◌++◌}
use mathlib.Core.Option.{none, some}
use native.Mathlib.Omega.{arith}
use lib.Dec.{eqb}
use Rattle.events.specs.Events.{Events, put}
use Rattle.junior.specs.Configuration.{Env}
use Rattle.junior.specs.Term.{Term}
use Rattle.junior.specs.Trace.{Place, inside, Act, did_atom, did_generate, did_park, decided, waits, scope_answered}
use Rattle.junior.specs.Rules.{Allowed, Result, Rewrites, r1, r1_on, r2, r3, r4, r4_on, r5, r8, r9, r10, r11, r12, r13, r4_loop, r5_loop, r14}
use Rattle.junior.specs.Rules.{r15, r4_repeat, r5_repeat, r16, r17, r17_on, r18, r19, r19_on, r20, r21, r22, r23, r24, r25, r26, r27, r28, r29}
use Rattle.junior.specs.Rules.{r30, r31, r31_on, r32, r33, r34, r35_39, r40, r41, r42, r43, r44, r45, if_true, if_true_on, if_false}
use Rattle.junior.specs.Rules.{if_false_on}
use Rattle.junior.specs.Instant.{Instant, r47, r48, r49}
use Rattle.junior.proofs.Grows.{grows}

-- e is present at P, unless a Local around P names it
abbrev pub SeenAt : ℕ → Place → Events → Type 0
SeenAt e P X = P.scope e ≡ none → X e ≡ true

-- e was present for every test in these acts, unless a Local around the test names it
unfoldable pub Seen : ℕ → List Act → Type 0
Seen e [] = Unit {0}
Seen e (did_atom a ∷ l) = Seen e l
Seen e (did_generate s ∷ l) = Seen e l
Seen e (did_park x ∷ l) = Seen e l
Seen e (decided P c b E ∷ l) = SeenAt e P E.now × Seen e l
Seen e (waits P c E ∷ l) = SeenAt e P E.now × Seen e l
Seen e (scope_answered n α b ∷ l) = Seen e l

seen-++ : (e : ℕ) (l k : List Act) → Seen e l → Seen e k → Seen e (l ++ k)
unfolding Seen
seen-++ e [] k a b = b
seen-++ e (did_atom n ∷ l) k a b = seen-++ e l k a b
seen-++ e (did_generate s ∷ l) k a b = seen-++ e l k a b
seen-++ e (did_park x ∷ l) k a b = seen-++ e l k a b
seen-++ e (decided P c x E ∷ l) k a b = (a.0, seen-++ e l k a.1 b)
seen-++ e (waits P c E ∷ l) k a b = (a.0, seen-++ e l k a.1 b)
seen-++ e (scope_answered n α x ∷ l) k a b = seen-++ e l k a b

-- in the body of a Local
inside_seen : (e s : ℕ) (b : Bool) (P : Place) (X : Events) → SeenAt e P X → SeenAt e (inside s P) (put s b X)
unfolding put
inside_seen e s b P X h = go (eqb e s)
  where
    go : (q : Bool) → cond q (some P.node) (P.scope e) ≡ none → cond q b (X e) ≡ true
    go true k = let z : ◌≡◌ {A = ℕ} 0 1 = cc in absurd (omega arith)
    go false k = h k

module _ (e : ℕ) where
  pub seen : {free : Allowed} {P : Place} {t : Term} {E : Env} {r : Result} → Rewrites free P t E r → SeenAt e P E.now
      → Seen e r.acts
  unfolding Seen
  seen r1 h = tt
  seen r1_on h = tt
  seen r2 h = tt
  seen r3 h = tt
  seen (r4 {l = l} {r = r} d d') h = seen-++ e l r.acts (seen d h) (seen d' (λ o. grows d e (h o)))
  seen (r4_on d) h = seen d h
  seen (r5 d n) h = seen d h
  seen (r8 {r = r} {s = s} d d') h = seen-++ e r.acts s.acts (seen d h) (seen d' (λ o. grows d e (h o)))
  seen (r9 {r = r} {s = s} f d' d) h = seen-++ e s.acts r.acts (seen d' h) (seen d (λ o. grows d' e (h o)))
  seen (r10 n d) h = seen d h
  seen (r11 n d) h = seen d h
  seen (r12 d n) h = seen d h
  seen (r13 {l = l} {r = r} f d d') h = seen-++ e l r.acts (seen d h) (seen d' (λ o. grows d e (h o)))
  seen (r4_loop {l = l} {r = r} d d') h = seen-++ e l r.acts (seen d h) (seen d' (λ o. grows d e (h o)))
  seen (r5_loop d n) h = seen d h
  seen (r14 n) h = tt
  seen (r15 n d) h = seen d h
  seen (r4_repeat {l = l} {r = r} d d') h = seen-++ e l r.acts (seen d h) (seen d' (λ o. grows d e (h o)))
  seen (r5_repeat d n) h = seen d h
  seen r16 h = tt
  seen (r17 v n d) h = (h, seen d h)
  seen (r17_on d) h = seen d h
  seen (r18 v n) h = (h, tt)
  seen (r19 v n d) h = (h, seen d h)
  seen (r19_on d) h = seen d h
  seen (r20 v n) h = (h, tt)
  seen (r21 v) h = (h, tt)
  seen (r22 v n) h = (h, tt)
  seen (r23 v n) h = (h, tt)
  seen (r24 v) h = (h, tt)
  seen (r25 v) h = (h, tt)
  seen (r26 v d) h = (h, seen d h)
  seen (r27 v) h = (h, tt)
  seen (r28 v) h = (h, tt)
  seen (r29 d n) h = seen d h
  seen (r30 {l = l} {r = r} d d') h = seen-++ e l r.acts (seen d h) (seen d' (λ o. grows d e (h o)))
  seen (r31 v n d) h = (h, seen d h)
  seen (r31_on d) h = seen d h
  seen (r32 v n) h = (h, tt)
  seen (r33 v) h = (h, tt)
  seen (r34 v) h = (h, tt)
  seen (r35_39 {P = P} {E = E} {b = b} {s = s} {r = r} d) h = seen-++ e r.acts _ (seen d (inside_seen e s b P E.now h)) tt
  seen (r40 d n) h = seen d h
  seen (r41 {l = l} {r = r} d d') h = seen-++ e l r.acts (seen d h) (seen d' (λ o. grows d e (h o)))
  seen (r42 v n) h = (h, tt)
  seen (r43 v n) h = (h, tt)
  seen (r44 v) h = (h, tt)
  seen (r45 v) h = (h, tt)
  seen (if_true n d) h = seen d h
  seen (if_true_on d) h = seen d h
  seen (if_false n d) h = seen d h
  seen (if_false_on d) h = seen d h

  pub handed_in_seen : {free : Allowed} {t : Term} {E : Env} {n : ℕ} {r : Result} → Instant free t E n r → E.now e ≡ true → Seen e r.acts
  handed_in_seen (r47 d n) h = seen d (λ o. h)
  handed_in_seen (r48 {r = r} {s = s} d f m i) h = seen-++ e r.acts s.acts (seen d (λ o. h)) (handed_in_seen i (grows d e h))
  handed_in_seen (r49 {r = r} {s = s} d f m i) h = seen-++ e r.acts s.acts (seen d (λ o. h)) (handed_in_seen i (grows d e h))
