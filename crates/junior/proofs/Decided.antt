-- Every test decided in an instant has the value that the finished events give it, a local event's being its own scope's.
-- Shown from the instant's end to its beginning: k are the acts still to come, which say how each open Local ends.
use Prim.Native.Nat.{ℕ, suc}
use mathlib.Core.Bool.{true, false, false≢true}
use mathlib.Core.Path.{◌≡◌, refl, sym, ap, subst, ◌∙◌}
use mathlib.Core.List.{List, [], ◌∷◌, ◌++◌, append_assoc, append-nil}
use native.Mathlib.Omega.{arith}
use Rattle.events.specs.Events.{Events}
use Rattle.junior.specs.Configuration.{Event, Env}
use Rattle.junior.specs.Program.{size}
use Rattle.junior.specs.Term.{Term, prog, leave}
use Rattle.junior.specs.Trace.{Place, root, Act, scope_answered, generations}
use Rattle.junior.specs.Rules.{Allowed, Result, Rewrites, r1, r1_on, r2, r3, r4, r4_on, r5, r8, r9, r10, r11, r12, r13, r4_loop, r5_loop, r14}
use Rattle.junior.specs.Rules.{r15, r4_repeat, r5_repeat, r16, r17, r17_on, r18, r19, r19_on, r20, r21, r22, r23, r24, r25, r26, r27, r28, r29}
use Rattle.junior.specs.Rules.{r30, r31, r31_on, r32, r33, r34, r35_39, r40, r41, r42, r43, r44, r45, if_true, if_true_on, if_false}
use Rattle.junior.specs.Rules.{if_false_on}
use Rattle.junior.specs.Instant.{Instant, r47, r48, r49}
use Rattle.junior.specs.Course.{IdleOnceEnded}
use Rattle.junior.specs.AtRest.{AtRest}
use Rattle.junior.specs.Decided.{last_answers, finished, DecidedRight}
use Rattle.junior.specs.Inside.{Going, Remains, Controlled}
use Rattle.junior.proofs.Little.{put_at}
use Rattle.junior.proofs.Times.{below_most}
use Rattle.junior.proofs.Kept.{kept}
use Rattle.junior.proofs.Verdicts.{present}
use Rattle.junior.proofs.Grows.{grows, end_kept, unchanged}
use Rattle.junior.proofs.End.{ended, idle_once_ended}
use Rattle.junior.proofs.Going.{stands, rest_going, fresh_going, going_more, again_going}
use Rattle.junior.proofs.Going.{over_rest, stand_more, stopped_rest}
use Rattle.junior.proofs.Scopes.{between, elsewhere, Open, rest_open, open_apart, part_open, branches_open, body_open}
use Rattle.junior.proofs.Ahead.{Around, around_root, further, around_body, Ahead, told, back, earlier}
use Rattle.junior.proofs.Ahead.{ahead_inside}

module _ (F : Events) where
  -- the tests in k are right, and the state t of node i is open by k's statuses
  abbrev Holds : List Act → Term → ℕ → Type 0
  Holds k t i = DecidedRight F k × Open t i (last_answers k)

  part : (r : Result) (u : Term) (i j : ℕ) (k : List Act) → Remains r.flag r.env.now r.to
      → (Open u i (last_answers k) → Open r.to j (last_answers k))
      → Holds k (leave r.flag u) i
      → Holds k r.to j
  part r u i j k g f h = (h.0, part_open r u i j (last_answers k) g f h.1)

  -- a pass with k behind it
  pass_right : {free : Allowed} {P : Place} {t : Term} {E : Env} {r : Result} (k : List Act) → Rewrites free P t E r
      → Around P
      → Going E.now t
      → Ahead r.env (finished F (last_answers k) P)
      → Holds k r.to P.node
      → Holds (r.acts ++ k) t P.node
  unfolding Going DecidedRight last_answers Open
  pass_right k r1 c g a h = (h.0, tt)
  pass_right k r1_on c g a h = (h.0, tt)
  pass_right k r2 c g a h = (h.0, tt)
  pass_right k r3 c g a h = (h.0, tt)
  pass_right k (r4 {t' = t'} {q = q} {l = l} {r = r} d e) c g a h =
      let f = fresh_going _ q in
      let b = pass_right k e (further (omega arith) c) f a (part r _ _ _ k (stands e f) (λ o. o) h) in
      let o = rest_open t' _ _ (over_rest t' (stands d g)) in
      rw (append_assoc l r.acts k)
      (pass_right (r.acts ++ k) d (further (omega arith) c) g (earlier F k e (further (omega arith) c) a) (b.0, o))
  pass_right k (r4_on {r = r} d) c g a h =
      pass_right k d (further (omega arith) c) g a (part r _ _ _ k (stands d g) (λ o. o) h)
  pass_right k (r5 {r = r} d n) c g a h =
      pass_right k d (further (omega arith) c) g a (part r _ _ _ k (stands d g) (λ o. o) h)
  pass_right k (r8 {P = P} {u = u} {r = r} {s = s} d e) c g a h =
      let x = stand_more r.flag r.to (grows e) (stands d g.1) in
      let g' = going_more u (grows d) g.2 in
      let (o, v) = branches_open r.flag s.flag s.env.now r.to s.to P.node _ x (stands e g') h.1 in
      let b = pass_right k e (further (omega arith) c) g' a (h.0, rw (kept d) at v) in
      let o' = open_apart r.to (suc P.node) k (between e) (omega (arith, ap size (kept d))) o in
      let a' = earlier F k e (further (omega arith) c) a in
      let y = pass_right (s.acts ++ k) d (further (omega arith) c) g.1 a' (b.0, o') in
      let w = open_apart u _ (s.acts ++ k) (between d) (omega arith) b.1 in
      rw (append_assoc r.acts s.acts k) (y.0, (y.1, w))
  pass_right k (r9 {P = P} {t = t} {r = r} {s = s} f e d) c g a h =
      let x = stand_more s.flag s.to (grows d) (stands e g.2) in
      let g' = going_more t (grows e) g.1 in
      let (o, v) = branches_open r.flag s.flag r.env.now r.to s.to P.node _ (stands d g') x h.1 in
      let b = pass_right k d (further (omega arith) c) g' a (h.0, o) in
      let v' = open_apart s.to _ k (between d) (omega arith) (rw (kept d) at v) in
      let a' = earlier F k d (further (omega arith) c) a in
      let y = pass_right (r.acts ++ k) e (further (omega arith) c) g.2 a' (b.0, v') in
      let w = open_apart t _ (r.acts ++ k) (between e) (omega arith) b.1 in
      rw (append_assoc s.acts r.acts k) (y.0, (w, y.1))
  pass_right k (r10 {P = P} {E = E} {β = β} {u = u} {r = r} n d) c g a h =
      let x = stand_more β u (grows d) g.2 in
      let o = (branches_open r.flag β r.env.now r.to u P.node _ (stands d g.1) x h.1).0 in
      let b = pass_right k d (further (omega arith) c) g.1 a (h.0, o) in
      (b.0, (b.1, rest_open u _ _ (stopped_rest β E.now u n g.2)))
  pass_right k (r11 {P = P} {E = E} {α = α} {t = t} {r = r} n d) c g a h =
      let x = stand_more α t (grows d) g.1 in
      let o = (branches_open α r.flag r.env.now t r.to P.node _ x (stands d g.2) h.1).1 in
      let b = pass_right k d (further (omega arith) c) g.2 a (h.0, o) in
      (b.0, (rest_open t _ _ (stopped_rest α E.now t n g.1), b.1))
  pass_right k (r12 {p = p} {r = r} d n) c g a h =
      let f = fresh_going _ p in
      ((pass_right k d (further (omega arith) c) f a (part r _ _ _ k (stands d f) (λ o. o) h)).0, tt)
  pass_right k (r13 {p = p} {t = t} {l = l} {r = r} f d e) c g a h =
      let f = fresh_going _ p in
      let b = pass_right k e c tt a h in
      let o = rest_open t _ _ (over_rest t (stands d f)) in
      rw (append_assoc l r.acts k)
      ((pass_right (r.acts ++ k) d (further (omega arith) c) f (earlier F k e c a) (b.0, o)).0, tt)
  pass_right k (r4_loop {t' = t'} {l = l} {r = r} d e) c g a h =
      let b = pass_right k e c tt a h in
      let o = rest_open t' _ _ (over_rest t' (stands d g)) in
      rw (append_assoc l r.acts k)
      (pass_right (r.acts ++ k) d (further (omega arith) c) g (earlier F k e c a) (b.0, o))
  pass_right k (r5_loop {r = r} d n) c g a h =
      pass_right k d (further (omega arith) c) g a (part r _ _ _ k (stands d g) (λ o. o) h)
  pass_right k (r14 e) c g a h = (h.0, tt)
  pass_right k (r15 {n = n} {p = p} e d) c g a h = ((pass_right k d c (below_most _ n e, fresh_going _ p) a h).0, tt)
  pass_right k (r4_repeat {n = n} {k = m} {t = t} {t' = t'} {l = l} {r = r} d e) c g a h =
      let b = pass_right k e c (again_going _ n m (prog t) g.0) a h in
      let o = rest_open t' _ _ (over_rest t' (stands d g.1)) in
      rw (append_assoc l r.acts k)
      (pass_right (r.acts ++ k) d (further (omega arith) c) g.1 (earlier F k e c a) (b.0, o))
  pass_right k (r5_repeat {r = r} d n) c g a h =
      pass_right k d (further (omega arith) c) g.1 a (part r _ _ _ k (stands d g.1) (λ o. o) h)
  pass_right k r16 c g a h = (h.0, tt)
  pass_right k (r17 {c = x} {p = p} {r = r} v n d) c g a h =
      let f = fresh_going _ p in
      let b = pass_right k d (further (omega arith) c) f a (part r _ _ _ k (stands d f) (λ o. o) h) in
      ((told x v (earlier F k d (further (omega arith) c) a), b.0), tt)
  pass_right k (r17_on {r = r} d) c g a h =
      pass_right k d (further (omega arith) c) g a (part r _ _ _ k (stands d g) (λ o. o) h)
  pass_right k (r18 {c = x} v n) c g a h = ((told x v a, h.0), tt)
  pass_right k (r19 {c = x} {q = q} {r = r} v n d) c g a h =
      let f = fresh_going _ q in
      let b = pass_right k d (further (omega arith) c) f a (part r _ _ _ k (stands d f) (λ o. o) h) in
      ((told x v (earlier F k d (further (omega arith) c) a), b.0), tt)
  pass_right k (r19_on {r = r} d) c g a h =
      pass_right k d (further (omega arith) c) g a (part r _ _ _ k (stands d g) (λ o. o) h)
  pass_right k (r20 {c = x} v n) c g a h = ((told x v a, h.0), tt)
  pass_right k (r21 v) c g a h = (h.0, tt)
  pass_right k (r22 {c = x} v n) c g a h = ((told x v a, h.0), tt)
  pass_right k (r23 {c = x} v n) c g a h = ((told x v a, h.0), tt)
  pass_right k (r24 {c = x} v) c g a h = ((told x v a, h.0), tt)
  pass_right k (r25 v) c g a h = (h.0, tt)
  pass_right k (r26 {E = E} {s = s} {t = t} {r = r} v d) c g a h =
      let f = subst (λ b. Controlled b (Going E.now t) t) (present s E v) g in
      let b = pass_right k d (further (omega arith) c) f a (part r _ _ _ k (stands d f) (λ o. o) h) in
      ((told (Event s) v (earlier F k d (further (omega arith) c) a), b.0), b.1)
  pass_right k (r27 {s = s} v) c g a h = ((told (Event s) v a, h.0), h.1)
  pass_right k (r28 v) c g a h = h
  pass_right k (r29 {r = r} d n) c g a h =
      pass_right k d (further (omega arith) c) g a (part r _ _ _ k (stands d g) (λ o. o) h)
  pass_right k (r30 {t' = t'} {l = l} {r = r} d e) c g a h =
      let b = pass_right k e c (stands d g) a h in
      let o = rest_open t' _ _ (stands d g) in
      rw (append_assoc l r.acts k)
      (pass_right (r.acts ++ k) d (further (omega arith) c) g (earlier F k e c a) (b.0, o))
  pass_right k (r31 {c = x} {q = q} {r = r} v n d) c g a h =
      let f = fresh_going _ q in
      let b = pass_right k d (further (omega arith) c) f a (part r _ _ _ k (stands d f) (λ o. o) h) in
      ((told x v (earlier F k d (further (omega arith) c) a), b.0), tt)
  pass_right k (r31_on {r = r} d) c g a h =
      pass_right k d (further (omega arith) c) g a (part r _ _ _ k (stands d g) (λ o. o) h)
  pass_right k (r32 {c = x} v n) c g a h = ((told x v a, h.0), tt)
  pass_right k (r33 {c = x} v) c g a h = ((told x v a, h.0), tt)
  pass_right k (r34 v) c g a h = (h.0, tt)
  pass_right k (r35_39 {P = P} {E = E} {b = b} {s = s} {r = r} d) c g a h =
      let m : List Act = scope_answered P.node r.flag (r.env.now s) ∷ [] in
      let (p, o) = body_open r.flag r.env.now b (r.env.now s) s r.to P.node _ (stands d g) h.1 in
      let a' = ahead_inside F r.flag r.env s (E.now s) _ c (λ e. ended d (sym (end_kept d) ∙ e)) p a in
      let y = pass_right (m ++ k) d (around_body s c) g a' (h.0, o) in
      let own = elsewhere (between d) (m ++ k) P.node (omega arith) in
      rw (append_assoc r.acts m k) (y.0, (λ e. own ∙ p (grows d s (put_at s b E.now ∙ e)), y.1))
  pass_right k (r40 {r = r} d n) c g a h =
      pass_right k d (further (omega arith) c) g a (part r _ _ _ k (stands d g) (λ o. o) h)
  pass_right k (r41 {t' = t'} {l = l} {r = r} d e) c g a h =
      let b = pass_right k e c (stands d g) a h in
      let o = rest_open t' _ _ (stands d g) in
      rw (append_assoc l r.acts k)
      (pass_right (r.acts ++ k) d (further (omega arith) c) g (earlier F k e c a) (b.0, o))
  pass_right k (r42 {s = s} v n) c g a h = ((told (Event s) v a, h.0), tt)
  pass_right k (r43 {s = s} v n) c g a h = ((told (Event s) v a, h.0), tt)
  pass_right k (r44 {s = s} v) c g a h = ((told (Event s) v a, h.0), tt)
  pass_right k (r45 v) c g a h = (h.0, tt)
  pass_right k (if_true {p = p} {r = r} e d) c g a h =
      let f = fresh_going _ p in
      ((pass_right k d (further (omega arith) c) f a (part r _ _ _ k (stands d f) (λ o. o) h)).0, tt)
  pass_right k (if_true_on {r = r} d) c g a h =
      pass_right k d (further (omega arith) c) g a (part r _ _ _ k (stands d g) (λ o. o) h)
  pass_right k (if_false {q = q} {r = r} e d) c g a h =
      let f = fresh_going _ q in
      ((pass_right k d (further (omega arith) c) f a (part r _ _ _ k (stands d f) (λ o. o) h)).0, tt)
  pass_right k (if_false_on {r = r} d) c g a h =
      pass_right k d (further (omega arith) c) g a (part r _ _ _ k (stands d g) (λ o. o) h)

  pass_back : {free : Allowed} {t : Term} {E : Env} {r : Result} (k : List Act) → Rewrites free root t E r
      → Going E.now t
      → Ahead r.env F × Holds k r.to 0
      → Ahead E F × Holds (r.acts ++ k) t 0
  pass_back k d g (a, h) = (back d a, pass_right k d around_root g a h)

-- an instant that generates nothing once the end is declared
instant_right : {free : Allowed} {t : Term} {E : Env} {n : ℕ} {r : Result} → Instant free t E n r
    → Going E.now t
    → (E.eoi ≡ true → (E.move ≡ false) × (generations r.acts ≡ []))
    → Ahead E r.env.now × Holds r.env.now r.acts t 0
unfolding DecidedRight last_answers IdleOnceEnded
instant_right (r47 {r = r} d h) g q =
    let quiet : (r.env.eoi ≡ true → r.env.move ≡ false) = λ e.
    let (m, l) = q (sym (end_kept d) ∙ e) in ap (λ G. G.move) (unchanged d l) ∙ m
    in
    let a : Ahead r.env r.env.now = record { more = λ s e. e; same = λ e. (quiet e, refl) } in
    let o = rest_open r.to 0 (last_answers []) (stopped_rest r.flag r.env.now r.to h (stands d g)) in
    rw (append-nil r.acts) at (pass_back r.env.now [] d g (a, (tt, o)))
instant_right (r48 {r = r} {s = s} d h m i) g q =
    let g' = subst (λ α. Remains α r.env.now r.to) h (stands d g) in
    let (a, k) = instant_right i g' (λ e. (m, (idle_once_ended (r48 d h m i)).1.no_event)) in
    pass_back s.env.now s.acts d g (record { more = a.more; same = λ e. a.same refl }, k)
instant_right (r49 {r = r} {s = s} d h m i) g q =
    let g' = subst (λ α. Remains α r.env.now r.to) h (stands d g) in
    let never : (r.env.eoi ≡ true → ⊥) = λ e. ended d (sym (end_kept d) ∙ e) h in
    let (a, k) = instant_right i g' (λ e. absurd (never e)) in
    pass_back s.env.now s.acts d g (record { more = a.more; same = λ e. absurd (never e) }, k)

pub decided_right : {free : Allowed} {t : Term} {E : Env} {n : ℕ} {r : Result} → Instant free t E n r
    → AtRest t
    → E.eoi ≡ false
    → DecidedRight r.env.now r.acts
decided_right {t = t} {E = E} i a e =
    (instant_right i (rest_going E.now t a) (λ h. absurd (false≢true (sym e ∙ h)))).1.0
