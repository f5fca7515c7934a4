-- Once the end is declared no pass answers SUSP. Where an instant declares it, after a pass that answered SUSP and moved nothing,
-- one more pass ends the instant: it answers STOP, does no atom and generates no event.
use Prim.Native.Nat.{ℕ}
use mathlib.Core.Bool.{Bool, true, false, false≢true}
use mathlib.Core.Path.{◌≡◌, refl, ap, ap₂, sym, subst, ◌∙◌}
use mathlib.Core.Logic.{◌≢◌}
use mathlib.Core.List.{List, [], ◌∷◌, ◌++◌}
use Rattle.events.specs.Events.{Events, put}
use Rattle.junior.specs.declared.Flag.{Flag}
use Rattle.junior.specs.declared.Flag.TheVariants.{SUSP, STOP, TERM}
use Rattle.junior.specs.Flags.{γ, δ₁, δ₂}
use Rattle.junior.specs.Configuration.{Config, Event, Env, declared_end, handed_in, unknown}
use Rattle.junior.specs.Term.{Term, done, nothing, stop, atom, generate, await, seq0, seq2, par, loop0, loop1, repeat0, repeat1, when0, when1}
use Rattle.junior.specs.Term.{when2, until0, until*, until2, control, local, freezable0, freezable*, if0, if1, if2, leave}
use Rattle.junior.specs.Trace.{Place, Act, Piece, did_park, decided, scope_answered, atom_of, event_of, collect, generations}
use Rattle.junior.specs.Rules.{Allowed, Result, sign, freezes, Rewrites, r1, r1_on, r2, r3, r4, r4_on, r5, r8, r9, r10, r11, r12, r13, r4_loop}
use Rattle.junior.specs.Rules.{r5_loop, r14, r15, r4_repeat, r5_repeat, r16, r17, r17_on, r18, r19, r19_on, r20, r21, r22, r23, r24, r25, r26}
use Rattle.junior.specs.Rules.{r27, r28, r29, r30, r31, r31_on, r32, r33, r34, r35_39, r40, r41, r42, r43, r44, r45, if_true, if_true_on}
use Rattle.junior.specs.Rules.{if_false, if_false_on}
use Rattle.junior.specs.Instant.{Instant, r47, r48, r49}
use Rattle.junior.specs.Course.{Idle, IdleOnceEnded}
use Rattle.junior.proofs.Little.{STOP≢SUSP, TERM≢SUSP, TERM≢STOP, collect-++, collect_none, put_at}
use Rattle.junior.proofs.Verdicts.{unknown_before, known_at_end, known_present, present}
use Rattle.junior.proofs.Grows.{end_kept, unchanged, quiet, quiet_unchanged}

γ-answered : (α β : Flag) → α ≢ SUSP → β ≢ SUSP → γ α β ≢ SUSP
γ-answered SUSP β h k = absurd (h refl)
γ-answered STOP SUSP h k = absurd (k refl)
γ-answered STOP STOP h k = STOP≢SUSP
γ-answered STOP TERM h k = λ e. cc
γ-answered TERM SUSP h k = absurd (k refl)
γ-answered TERM STOP h k = STOP≢SUSP
γ-answered TERM TERM h k = TERM≢SUSP

-- with the end declared every test is decided
pub ended : {free : Allowed} {P : Place} {t : Term} {E : Env} {r : Result}
    → Rewrites free P t E r
    → E.eoi ≡ true
    → r.flag ≢ SUSP
ended r1 e = TERM≢SUSP
ended r1_on e = TERM≢SUSP
ended r2 e = STOP≢SUSP
ended r3 e = TERM≢SUSP
ended (r4 d d') e = ended d' (end_kept d ∙ e)
ended (r4_on d) e = ended d e
ended (r5 d h) e = ended d e
ended (r8 {r = r} {s = s} d d') e = γ-answered r.flag s.flag (ended d e) (ended d' (end_kept d ∙ e))
ended (r9 {r = r} {s = s} f d' d) e = γ-answered r.flag s.flag (ended d (end_kept d' ∙ e)) (ended d' e)
ended (r10 {β = β} {r = r} h d) e = γ-answered r.flag β (ended d e) h
ended (r11 {α = α} {r = r} h d) e = γ-answered α r.flag h (ended d e)
ended (r12 d h) e = ended d e
ended (r13 f d d') e = ended d' (end_kept d ∙ e)
ended (r4_loop d d') e = ended d' (end_kept d ∙ e)
ended (r5_loop d h) e = ended d e
ended (r14 h) e = TERM≢SUSP
ended (r15 h d) e = ended d e
ended (r4_repeat d d') e = ended d' (end_kept d ∙ e)
ended (r5_repeat d h) e = ended d e
ended r16 e = TERM≢SUSP
ended (r17 v h d) e = ended d e
ended (r17_on d) e = ended d e
ended (r18 v h) e = STOP≢SUSP
ended (r19 v h d) e = ended d e
ended (r19_on d) e = ended d e
ended (r20 v h) e = STOP≢SUSP
ended (r21 {E = E} {c = c} v) e = absurd (known_at_end c E e v)
ended (r22 v h) e = TERM≢SUSP
ended (r23 v h) e = STOP≢SUSP
ended (r24 v) e = STOP≢SUSP
ended (r25 {E = E} {c = c} v) e = absurd (known_at_end c E e v)
ended (r26 v d) e = ended d e
ended (r27 v) e = STOP≢SUSP
ended (r28 {E = E} {s = s} v) e = absurd (known_at_end (Event s) E e v)
ended (r29 d h) e = ended d e
ended (r30 d d') e = ended d' (end_kept d ∙ e)
ended (r31 v h d) e = ended d e
ended (r31_on d) e = ended d e
ended (r32 v h) e = STOP≢SUSP
ended (r33 v) e = STOP≢SUSP
ended (r34 {E = E} {c = c} v) e = absurd (known_at_end c E e v)
ended (r35_39 d) e = ended d e
ended (r40 d h) e = ended d e
ended (r41 d d') e = ended d' (end_kept d ∙ e)
ended (r42 v h) e = TERM≢SUSP
ended (r43 v h) e = λ f. cc
ended (r44 v) e = STOP≢SUSP
ended (r45 {E = E} {s = s} v) e = absurd (known_at_end (Event s) E e v)
ended (if_true h d) e = ended d e
ended (if_true_on d) e = ended d e
ended (if_false h d) e = ended d e
ended (if_false_on d) e = ended d e

-- t waits, the events X being present: all that would run in it is a test, unknown in X before the end
unfoldable pub Blocked : Events → Term → Type 0
Blocked X (done p) = ⊥
Blocked X nothing = ⊥
Blocked X stop = ⊥
Blocked X (atom a) = ⊥
Blocked X (generate s) = ⊥
Blocked X (await c) = unknown c (handed_in X)
Blocked X (seq0 t q) = Blocked X t
Blocked X (seq2 p t) = Blocked X t
Blocked X (par α β t u) = (γ α β ≡ SUSP) × (α ≡ SUSP → Blocked X t) × (β ≡ SUSP → Blocked X u)
Blocked X (loop0 p) = ⊥
Blocked X (loop1 t) = Blocked X t
Blocked X (repeat0 n p) = ⊥
Blocked X (repeat1 n k t) = Blocked X t
Blocked X (when0 c p q) = unknown c (handed_in X)
Blocked X (when1 c t q) = Blocked X t
Blocked X (when2 c p t) = Blocked X t
Blocked X (until0 c t q) = Blocked X t
Blocked X (until* c t q) = unknown c (handed_in X)
Blocked X (until2 c p t) = Blocked X t
Blocked X (control s t) = X s ≡ true → Blocked X t
Blocked X (local b s t) = Blocked (put s b X) t
Blocked X (freezable0 s t) = Blocked X t
Blocked X (freezable* s t) = unknown (Event s) (handed_in X)
Blocked X (if0 v p q) = ⊥
Blocked X (if1 v t q) = Blocked X t
Blocked X (if2 v p t) = Blocked X t

pub leave_susp : (α : Flag) (t : Term) → α ≡ SUSP → leave α t ≡ t
unfolding leave
leave_susp SUSP t h = refl
leave_susp STOP t h = refl
leave_susp TERM t h = absurd (TERM≢SUSP h)

-- in a Par that answers SUSP only a branch that answered SUSP has that flag
δ₁-susp : (α β : Flag) → γ α β ≡ SUSP → δ₁ α β ≡ SUSP → α ≡ SUSP
δ₁-susp SUSP β h k = refl
δ₁-susp STOP SUSP h k = k
δ₁-susp STOP STOP h k = h
δ₁-susp STOP TERM h k = h
δ₁-susp TERM β h k = k

δ₂-susp : (α β : Flag) → γ α β ≡ SUSP → δ₂ α β ≡ SUSP → β ≡ SUSP
δ₂-susp α SUSP h k = refl
δ₂-susp SUSP STOP h k = k
δ₂-susp STOP STOP h k = h
δ₂-susp TERM STOP h k = h
δ₂-susp SUSP TERM h k = k
δ₂-susp STOP TERM h k = k
δ₂-susp TERM TERM h k = k

-- a Par that answers SUSP still has a flag SUSP
γ-susp : (α β : Flag) → γ α β ≡ SUSP → γ (δ₁ α β) (δ₂ α β) ≡ SUSP
γ-susp SUSP SUSP h = refl
γ-susp SUSP STOP h = refl
γ-susp SUSP TERM h = refl
γ-susp STOP SUSP h = refl
γ-susp STOP STOP h = absurd (STOP≢SUSP h)
γ-susp STOP TERM h = cc
γ-susp TERM SUSP h = refl
γ-susp TERM STOP h = absurd (STOP≢SUSP h)
γ-susp TERM TERM h = absurd (TERM≢SUSP h)

-- a Local whose event didn't change keeps its sign
pub sign_kept : (b now : Bool) (α : Flag) → now ≡ b → α ≡ SUSP → sign b α now ≡ b
sign_kept b now α h f = rw f (go b now h)
  where
    go : (b now : Bool) → now ≡ b → sign b SUSP now ≡ b
    go false now h = h
    go true now h = refl

-- a pass that generates nothing, with another behind it
behind : {free : Allowed} {P : Place} {t : Term} {E : Env} {r : Result}
    → Rewrites free P t E r
    → (s : Result)
    → generations (r.acts ++ s.acts) ≡ []
    → (generations s.acts ≡ [] → Blocked r.env.now s.to)
    → Blocked E.now s.to
behind {r = r} d s q b =
    let (a, k) = collect_none event_of r.acts s.acts q in
    subst (λ F. Blocked F.now s.to) (unchanged d a) (b k)

-- what a pass that generates nothing leaves suspended, waits
pub blocks : {free : Allowed} {P : Place} {t : Term} {E : Env} {r : Result}
    → Rewrites free P t E r
    → generations r.acts ≡ []
    → r.flag ≡ SUSP
    → Blocked E.now r.to
unfolding Blocked collect
blocks r1 q f = TERM≢SUSP f
blocks r1_on q f = TERM≢SUSP f
blocks r2 q f = STOP≢SUSP f
blocks r3 q f = TERM≢SUSP f
blocks (r4 {r = r} d e) q f = rw leave_susp (behind d r q (λ k. blocks e k f))
blocks (r4_on d) q f = rw leave_susp (blocks d q f)
blocks (r5 d h) q f = rw leave_susp (blocks d q f)
blocks (r8 {r = r} {s = s} d e) q f =
    rw leave_susp (
      γ-susp r.flag s.flag f,
      λ g. blocks d (collect_none event_of r.acts s.acts q).0 (δ₁-susp r.flag s.flag f g),
      λ g. behind d s q (λ k. blocks e k (δ₂-susp r.flag s.flag f g)),
    )
blocks (r9 {r = r} {s = s} x e d) q f =
    rw leave_susp (
      γ-susp r.flag s.flag f,
      λ g. behind e r q (λ k. blocks d k (δ₁-susp r.flag s.flag f g)),
      λ g. blocks e (collect_none event_of s.acts r.acts q).0 (δ₂-susp r.flag s.flag f g),
    )
blocks (r10 {β = β} {r = r} h d) q f =
    rw leave_susp (
      γ-susp r.flag β f,
      λ g. blocks d q (δ₁-susp r.flag β f g),
      λ g. absurd (h (δ₂-susp r.flag β f g)),
    )
blocks (r11 {α = α} {r = r} h d) q f =
    rw leave_susp (
      γ-susp α r.flag f,
      λ g. absurd (h (δ₁-susp α r.flag f g)),
      λ g. blocks d q (δ₂-susp α r.flag f g),
    )
blocks (r12 d h) q f = rw leave_susp (blocks d q f)
blocks (r13 {r = r} x d e) q f = behind d r q (λ k. blocks e k f)
blocks (r4_loop {r = r} d e) q f = behind d r q (λ k. blocks e k f)
blocks (r5_loop d h) q f = rw leave_susp (blocks d q f)
blocks (r14 h) q f = TERM≢SUSP f
blocks (r15 h d) q f = blocks d q f
blocks (r4_repeat {r = r} d e) q f = behind d r q (λ k. blocks e k f)
blocks (r5_repeat d h) q f = rw leave_susp (blocks d q f)
blocks r16 q f = TERM≢SUSP f
blocks (r17 v h d) q f = rw leave_susp (blocks d q f)
blocks (r17_on d) q f = rw leave_susp (blocks d q f)
blocks (r18 v h) q f = absurd (STOP≢SUSP f)
blocks (r19 v h d) q f = rw leave_susp (blocks d q f)
blocks (r19_on d) q f = rw leave_susp (blocks d q f)
blocks (r20 v h) q f = absurd (STOP≢SUSP f)
blocks (r21 {E = E} {c = c} v) q f = unknown_before c E v
blocks (r22 v h) q f = TERM≢SUSP f
blocks (r23 v h) q f = STOP≢SUSP f
blocks (r24 v) q f = absurd (STOP≢SUSP f)
blocks (r25 {E = E} {c = c} v) q f = unknown_before c E v
blocks (r26 v d) q f = rw leave_susp (λ g. blocks d q f)
blocks (r27 v) q f = absurd (STOP≢SUSP f)
blocks (r28 {E = E} {s = s} v) q f = λ g. absurd (known_present s E g v)
blocks (r29 d h) q f = rw leave_susp (blocks d q f)
blocks (r30 {r = r} d e) q f = behind d r q (λ k. blocks e k f)
blocks (r31 v h d) q f = rw leave_susp (blocks d q f)
blocks (r31_on d) q f = rw leave_susp (blocks d q f)
blocks (r32 v h) q f = absurd (STOP≢SUSP f)
blocks (r33 v) q f = absurd (STOP≢SUSP f)
blocks (r34 {E = E} {c = c} v) q f = unknown_before c E v
blocks (r35_39 {E = E} {b = b} {s = s} {r = r} d) q f =
    let k = (collect_none event_of r.acts (_ ∷ []) q).0 in
    let same : r.env.now s ≡ b = ap (λ F. F.now s) (unchanged d k) ∙ put_at s b E.now in
    rw (leave_susp, sign_kept b (r.env.now s) r.flag same f) (blocks d k f)
blocks (r40 d h) q f = rw leave_susp (blocks d q f)
blocks (r41 {r = r} d e) q f = behind d r q (λ k. blocks e k f)
blocks (r42 v h) q f = TERM≢SUSP f
blocks (r43 v h) q f = cc
blocks (r44 v) q f = absurd (STOP≢SUSP f)
blocks (r45 {E = E} {s = s} v) q f = unknown_before (Event s) E v
blocks (if_true h d) q f = rw leave_susp (blocks d q f)
blocks (if_true_on d) q f = rw leave_susp (blocks d q f)
blocks (if_false h d) q f = rw leave_susp (blocks d q f)
blocks (if_false_on d) q f = rw leave_susp (blocks d q f)

-- so where a pass answers SUSP and moved nothing, all that is left waits
pub blocked : {free : Allowed} {P : Place} {t : Term} {E : Env} {r : Result}
    → Rewrites free P t E r
    → r.flag ≡ SUSP
    → r.env.move ≡ false
    → Blocked r.env.now r.to
blocked {r = r} d f m = rw (quiet_unchanged d m) (blocks d (quiet d m) f)

stop-γ : (β : Flag) → β ≢ SUSP → γ STOP β ≡ STOP
stop-γ SUSP h = absurd (h refl)
stop-γ STOP h = refl
stop-γ TERM h = refl

γ-stop : (α : Flag) → α ≢ SUSP → γ α STOP ≡ STOP
γ-stop SUSP h = absurd (h refl)
γ-stop STOP h = refl
γ-stop TERM h = refl

idle_read : {P : Place} {c : Config} {b : Bool} {E : Env} → Idle STOP (decided P c b E ∷ [])
unfolding collect
idle_read = record { stops = refl; no_atom = refl; no_event = refl }

idle_park : {x : Piece} → Idle STOP (did_park x ∷ [])
unfolding collect
idle_park = record { stops = refl; no_atom = refl; no_event = refl }

idle_scope : {n : ℕ} {α : Flag} {b : Bool} → Idle STOP (scope_answered n α b ∷ [])
unfolding collect
idle_scope = record { stops = refl; no_atom = refl; no_event = refl }

idle-++ : {α β ζ : Flag} {l k : List Act} → ζ ≡ STOP → Idle α l → Idle β k → Idle ζ (l ++ k)
idle-++ {l = l} {k = k} h i j =
    record {
      stops = h;
      no_atom = rw (collect-++ atom_of l k, i.no_atom, j.no_atom);
      no_event = rw (collect-++ event_of l k, i.no_event, j.no_event);
    }

idle_freezes : {P : Place} {s : ℕ} {t : Term} {E : Env} → Idle STOP (freezes P s t E)
idle_freezes = idle-++ refl idle_read idle_park

-- what waits is idle once the end is declared: its tests are read, and what follows them is left for the next instant
pub idles : {free : Allowed} {P : Place} {t : Term} {E : Env} {r : Result}
    → Rewrites free P t E r
    → E.eoi ≡ true
    → Blocked E.now t
    → Idle r.flag r.acts
unfolding Blocked
idles r1 e b = absurd b
idles r1_on e b = absurd b
idles r2 e b = absurd b
idles r3 e b = absurd b
idles (r4 d d') e b = absurd (TERM≢STOP (idles d e b).stops)
idles (r4_on d) e b = idles d e b
idles (r5 d h) e b = idles d e b
idles (r8 {u = u} d d') e b =
    let i = idles d e (b.1 refl) in
    let j = idles d' (end_kept d ∙ e) (subst (λ F. Blocked F.now u) (sym (unchanged d i.no_event)) (b.2 refl)) in
    idle-++ (ap₂ γ i.stops j.stops) i j
idles (r9 {t = t} x d' d) e b =
    let j = idles d' e (b.2 refl) in
    let i = idles d (end_kept d' ∙ e) (subst (λ F. Blocked F.now t) (sym (unchanged d' j.no_event)) (b.1 refl)) in
    idle-++ (ap₂ γ i.stops j.stops) j i
idles (r10 {β = β} h d) e b =
    let i = idles d e (b.1 refl) in
    record { stops = rw i.stops (stop-γ β h); no_atom = i.no_atom; no_event = i.no_event }
idles (r11 {α = α} h d) e b =
    let i = idles d e (b.2 refl) in
    record { stops = rw i.stops (γ-stop α h); no_atom = i.no_atom; no_event = i.no_event }
idles (r12 d h) e b = absurd b
idles (r13 f d d') e b = absurd b
idles (r4_loop d d') e b = absurd (TERM≢STOP (idles d e b).stops)
idles (r5_loop d h) e b = idles d e b
idles (r14 h) e b = absurd b
idles (r15 h d) e b = absurd b
idles (r4_repeat d d') e b = absurd (TERM≢STOP (idles d e b).stops)
idles (r5_repeat d h) e b = idles d e b
idles r16 e b = absurd b
idles (r17 v h d) e b = absurd (false≢true (sym h ∙ e))
idles (r17_on d) e b = idles d e b
idles (r18 v h) e b = idle_read
idles (r19 v h d) e b = absurd (false≢true (sym h ∙ e))
idles (r19_on d) e b = idles d e b
idles (r20 v h) e b = idle_read
idles (r21 {E = E} {c = c} v) e b = absurd (known_at_end c E e v)
idles (r22 v h) e b = absurd (false≢true (sym h ∙ e))
idles (r23 v h) e b = idle_read
idles (r24 v) e b = idle_read
idles (r25 {E = E} {c = c} v) e b = absurd (known_at_end c E e v)
idles (r26 {E = E} {s = s} v d) e b =
    let i = idles d e (b (present s E v)) in
    idle-++ i.stops idle_read i
idles (r27 v) e b = idle_read
idles (r28 {E = E} {s = s} v) e b = absurd (known_at_end (Event s) E e v)
idles (r29 d h) e b = absurd (h (idles d e b).stops)
idles (r30 d (r31 v h d')) e b = absurd (false≢true (sym h ∙ (end_kept d ∙ e)))
idles (r30 d (r32 v h)) e b = idle-++ refl (idles d e b) idle_read
idles (r30 d (r33 v)) e b = idle-++ refl (idles d e b) idle_read
idles (r30 {E' = E'} {c = c} d (r34 v)) e b = absurd (known_at_end c E' (end_kept d ∙ e) v)
idles (r31 v h d) e b = absurd (false≢true (sym h ∙ e))
idles (r31_on d) e b = idles d e b
idles (r32 v h) e b = idle_read
idles (r33 v) e b = idle_read
idles (r34 {E = E} {c = c} v) e b = absurd (known_at_end c E e v)
idles (r35_39 d) e b =
    let i = idles d e b in
    idle-++ i.stops i idle_scope
idles (r40 d h) e b = absurd (h (idles d e b).stops)
idles (r41 d (r42 v h)) e b = absurd (false≢true (sym h ∙ (end_kept d ∙ e)))
idles (r41 d (r43 v h)) e b = idle-++ refl (idles d e b) idle_freezes
idles (r41 d (r44 v)) e b = idle-++ refl (idles d e b) idle_read
idles (r41 {E' = E'} {s = s} d (r45 v)) e b = absurd (known_at_end (Event s) E' (end_kept d ∙ e) v)
idles (r42 v h) e b = absurd (false≢true (sym h ∙ e))
idles (r43 v h) e b = idle_freezes
idles (r44 v) e b = idle_read
idles (r45 {E = E} {s = s} v) e b = absurd (known_at_end (Event s) E e v)
idles (if_true h d) e b = absurd b
idles (if_true_on d) e b = idles d e b
idles (if_false h d) e b = absurd b
idles (if_false_on d) e b = idles d e b

-- the pass after the end is declared, wherever it starts from
pub after_end : {free : Allowed} {P Q : Place} {t : Term} {E : Env} {r s : Result}
    → Rewrites free P t E r
    → r.flag ≡ SUSP
    → r.env.move ≡ false
    → Rewrites free Q r.to (declared_end r.env) s
    → Idle s.flag s.acts
after_end {r = r} d f m e = idles e refl (blocked d f m)

last_pass : {free : Allowed} {t : Term} {E : Env} {n : ℕ} {r : Result}
    → Instant free t E n r
    → E.eoi ≡ true
    → Blocked E.now t
    → (n ≡ 1) × Idle r.flag r.acts
last_pass (r47 d h) e b = (refl, idles d e b)
last_pass (r48 d h m i) e b = absurd (STOP≢SUSP (sym (idles d e b).stops ∙ h))
last_pass (r49 d h m i) e b = absurd (STOP≢SUSP (sym (idles d e b).stops ∙ h))

pub idle_once_ended : {free : Allowed} {t : Term} {E : Env} {n : ℕ} {r : Result} (i : Instant free t E n r) → IdleOnceEnded i
unfolding IdleOnceEnded
idle_once_ended (r47 d h) = tt
idle_once_ended (r48 d h m i) = last_pass i refl (blocked d h m)
idle_once_ended (r49 d h m i) = idle_once_ended i
