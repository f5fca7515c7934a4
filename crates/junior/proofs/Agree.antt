-- Every pass agrees with what its term comes to, in every X that holds the pass's events: the one induction over the rules.
use Prim.Native.Nat.{ℕ, suc}
use mathlib.Core.Bool.{Bool, true, false, cond, ◌||◌, or-false, false≢true}
use mathlib.Core.Path.{◌≡◌, refl, ap, sym, ◌∙◌}
use mathlib.Core.Logic.{◌≢◌}
use mathlib.Core.List.{[], ◌∷◌}
use mathlib.Core.Option.{Option}
use native.Mathlib.Omega.{arith}
use Rattle.events.specs.Events.{Events, none, put}
use Rattle.junior.specs.declared.Flag.{Flag}
use Rattle.junior.specs.declared.Flag.TheVariants.{SUSP, STOP, TERM}
use Rattle.junior.specs.declared.Verdict.TheVariants.{Unsat}
use Rattle.junior.specs.Configuration.{Config, Event, Env, generated, verdict, eval, test}
use Rattle.junior.specs.Program.{Program, Atom, Loop, Generate, Freezable}
use Rattle.junior.specs.Values.{Values}
use Rattle.junior.specs.Term.{Term, done, seq0, seq2, loop1, repeat1, when1, when2, until0, until2, freezable0, if1, if2, prog, fresh}
use Rattle.junior.specs.Trace.{Place, first, second, inside, did_atom, did_generate, collect}
use Rattle.junior.specs.Rules.{Allowed, Result, answers, freezes, Rewrites, r1, r1_on, r2, r3, r4, r4_on, r5, r8, r9, r10, r11, r12, r13}
use Rattle.junior.specs.Rules.{r4_loop, r5_loop, r14, r15, r4_repeat, r5_repeat, r16, r17, r17_on, r18, r19, r19_on, r20, r21, r22, r23, r24}
use Rattle.junior.specs.Rules.{r25, r26, r27, r28, r29, r30, r31, r31_on, r32, r33, r34, r35_39, r40, r41, r42, r43, r44, r45, if_true}
use Rattle.junior.specs.Rules.{if_true_on, if_false, if_false_on}
use Rattle.junior.specs.Figures.{LoopsStop}
use Rattle.junior.specs.Waited.{Wait}
use Rattle.junior.specs.Order.{often, tells, decides}
use Rattle.junior.specs.Parked.{together}
use Rattle.junior.proofs.Little.{STOP≢SUSP, TERM≢SUSP, put_at}
use Rattle.junior.proofs.Fresh.{prog_fresh}
use Rattle.junior.proofs.Kept.{kept, prog_again}
use Rattle.junior.proofs.Verdicts.{test_event, present}
use Rattle.junior.proofs.Grows.{grows, end_kept}
use Rattle.junior.proofs.Held.{begun}
use Rattle.junior.proofs.Figures.{loops_fresh}
use Rattle.junior.proofs.Settle.{Out, plus, bind, around, once_ended, reads, own_wait, once_stopped, repeated, handled, frozen, once_frozen}
use Rattle.junior.proofs.Settle.{says, starts, settle, settle_fresh, settle_again, starts_unended, steered_on}
use Rattle.junior.proofs.Fits.{alike_same, at_or_else, put_else}
use Rattle.junior.proofs.Meets.{Agrees, comes_to, only_waits, stays, Around, runs_under, runs_in, runs_first}
use Rattle.junior.proofs.Meets.{runs_on, reads_so, runs_left_first, runs_right_first, runs_left, runs_right}
use Rattle.junior.proofs.Meets.{runs_steered}
use Rattle.junior.proofs.LocalMeets.{local_meets}

-- a test of one event isn't found unsat before the end
open_event : (s : ℕ) (E : Env) → E.eoi ≡ false → test (Event s) E ≢ Unsat
open_event s E e v = go (E.now s) (rw (test_event s E, e) at v)
  where
    go : (b : Bool) → verdict (b || false) b ≢ Unsat
    go true h = let z : ◌≡◌ {A = ℕ} 0 1 = cc in omega arith
    go false h = let z : ◌≡◌ {A = ℕ} 0 1 = cc in omega arith

-- what follows on a body that can't have ended doesn't matter
unended_same : (o : Out) (f : Term → Term) (k k' : Out) → o.flag ≢ TERM → bind o (once_ended f k) ≡ bind o (once_ended f k')
unfolding bind
unended_same o f k k' n = ap (plus o) (go o.flag n)
  where
    go : (α : Flag) → α ≢ TERM → once_ended f k α o.to ≡ once_ended f k' α o.to
    go SUSP n = refl
    go STOP n = refl
    go TERM n = absurd (n refl)

does : {value : Values} {P : Place} {X : Events} {E : Env} (a : ℕ)
    → Agrees value P X E (answers TERM (done (Atom a)) E (did_atom a ∷ [])) (starts value P (Atom a) X)
unfolding starts collect together decides
does a = record {
  run = λ b w. record {
    below = b;
    fits = record { flags = refl; terms = refl; events = λ n. refl; counts = λ n. omega arith; pieces = λ v. omega arith; told = λ n b. refl; waits = refl };
  };
}

raises : {value : Values} {P : Place} {X : Events} {E : Env} (s : ℕ)
    → Agrees value P X E (answers TERM (done (Generate s)) (generated s E) (did_generate s ∷ [])) (starts value P (Generate s) X)
unfolding starts collect often together decides
raises {P = P} {X} {E} s = record {
  run = λ b w.
      let here : X s ≡ true = w s (put_at s true E.now) (put_at s true none) in
      record {
        below = λ n.
            at_or_else (λ n. put s true E.now n ≡ true → X n ≡ true) s n
            (λ y. here)
            (λ e y. b n (sym (put_else s n true E.now e) ∙ y));
        fits = record {
          flags = refl;
          terms = refl;
          events = λ n.
              at_or_else (λ n. (X n || put s true none n) ≡ (X n || false)) s n
              (rw here)
              (λ e. ap (λ x. X n || x) (put_else s n true none e));
          counts = λ a. omega arith;
          pieces = λ v. omega arith;
          told = λ n b. refl;
          waits = refl;
        };
      };
}

-- a pending Freezable of s whose event is present
parks_body : {value : Values} {P : Place} {X : Events} {E : Env} (s : ℕ) (w : Option Wait) (t : Term)
    → Agrees value P X E (answers TERM (done (Freezable s (prog t))) E (freezes P s t E)) (frozen P s true w TERM t)
unfolding frozen says collect often together decides
parks_body {P = P} s v t = record {
  run = λ b w. record {
    below = b;
    fits = record {
      flags = refl;
      terms = refl;
      events = λ n. refl;
      counts = λ a. omega arith;
      pieces = λ v. omega arith;
      told = λ n b. sym (or-false (tells P true n b || false));
      waits = refl;
    };
  };
}

-- a body that is begun
begins : {value : Values} {P : Place} {X : Events} {E : Env} {r : Result} (p : Program)
    → Agrees value P X E r (settle value P (fresh p) X)
    → Agrees value P X E r (starts value P p X)
begins {value} {P} {X} p a = comes_to (λ b. sym (settle_fresh value P p X)) a

around_until : (value : Values) (P : Place) (X : Events) (c : Config) (p q : Program) (α : Flag) (t : Term)
    → α ≢ STOP
    → prog t ≡ p
    → Around value P (first P) X (λ x. until0 c x q) (once_stopped P c q (starts value (second P p) q X) (own_wait P c X) (eval c X) (reads c X)) α t
unfolding settle prog
around_until value P X c p q SUSP t n e =
    λ i. bind (settle value (first P) t X) (once_stopped P c q (starts value (second P (e i)) q X) (own_wait P c X) (eval c X) (reads c X))
around_until value P X c p q STOP t n e = absurd (n refl)
around_until value P X c p q TERM t n e = refl

around_freezable : (value : Values) (P : Place) (X : Events) (s : ℕ) (α : Flag) (t : Term)
    → α ≢ STOP
    → Around value P (first P) X (freezable0 s) (once_frozen P s (X s) (own_wait P (Event s) X)) α t
unfolding settle prog
around_freezable value P X s SUSP t n = refl
around_freezable value P X s STOP t n = absurd (n refl)
around_freezable value P X s TERM t n = refl

-- an If, by its value
chooses : {value : Values} {P : Place} {X : Events} {E : Env} {r : Result} (b x : Bool) (o p : Out)
    → b ≡ x
    → Agrees value P X E r (cond x o p)
    → Agrees value P X E r (cond b o p)
chooses b x o p h a = comes_to (λ e. ap (λ b. cond b o p) h) a

pub agree : {free : Allowed} {P : Place} {t : Term} {E : Env} {r : Result}
    → Rewrites free P t E r
    → LoopsStop (prog t)
    → E.eoi ≡ false
    → (X : Events)
    → Agrees free.value P X E r (settle free.value P t X)
unfolding settle starts repeated handled prog LoopsStop
agree r1 o e X = stays TERM _ alike_same
agree r1_on o e X = stays TERM _ alike_same
agree r2 o e X = stays STOP _ alike_same
agree (r3 {a = a}) o e X = does a
agree (r4 {t = t} {q = q} d d') o e X =
    runs_on _ TERM≢SUSP (grows d') (agree d o.0 e X) (
    runs_in (seq2 (prog t)) refl (begins q (agree d' (loops_fresh q o.1) (end_kept d ∙ e) X))
    )
agree (r4_on {p = p} d) o e X = runs_in (seq2 p) refl (agree d o.1 e X)
agree {free} (r5 {P = P} {q = q} {r = r} d h) o e X =
    let k : Program → Out = λ p. bind (starts free.value (second P p) q X) (around (seq2 p)) in
    runs_first (λ x. seq0 x q) _ h
    (ap (λ p. bind (settle free.value (first P) r.to X) (once_ended (λ x. seq0 x q) (k p))) (kept d))
    (agree d o.0 e X)
agree (r8 d d') o e X = runs_left_first (kept d) (grows d') (agree d o.0 e X) (agree d' o.1 (end_kept d ∙ e) X)
agree (r9 f d' d) o e X = runs_right_first (kept d) (grows d) (agree d' o.1 e X) (agree d o.0 (end_kept d' ∙ e) X)
agree (r10 {β = β} {u = u} h d) o e X = runs_left β u (kept d) (agree d o.0 e X)
agree (r11 {α = α} {t = t} h d) o e X = runs_right α t (agree d o.1 e X)
agree {free} (r12 {P = P} {p = p} {r = r} d h) o e X =
    let q = kept d ∙ prog_fresh p in
    let unended = starts_unended free.value (first P) p X o.0 in
    comes_to (λ b. unended_same (starts free.value (first P) p X) loop1 _ (starts free.value P (Loop p) X) unended) (
    runs_first loop1 _ h
    (ap (λ p. bind (settle free.value (first P) r.to X) (once_ended loop1 (starts free.value P (Loop p) X))) q)
    (begins p (agree d (loops_fresh p o.1) e X))
    )
agree (r13 {p = p} f d d') o e X = absurd (begun p d o.0 refl)
agree (r4_loop d d') o e X = runs_on _ TERM≢SUSP (grows d') (agree d o.1 e X) (agree d' o (end_kept d ∙ e) X)
agree {free} (r5_loop {P = P} {r = r} d h) o e X =
    runs_first loop1 _ h
    (ap (λ p. bind (settle free.value (first P) r.to X) (once_ended loop1 (starts free.value P (Loop p) X))) (kept d))
    (agree d o.1 e X)
agree {free} (r14 {P = P} {n = n} {p = p} h) o e X =
    comes_to (λ b. ap (λ k. repeated n k p (starts free.value (first P) p X)) h) (stays TERM _ alike_same)
agree {free} (r15 {P = P} {n = n} {k = k} {p = p} h d) o e X =
    comes_to
    (λ b. ap (λ k. repeated n k p (starts free.value (first P) p X)) h ∙ sym (settle_again free.value P n (suc k) p X))
    (agree d (loops_fresh p o) e X)
agree {free} (r4_repeat {P = P} {n = n} {k = k} {t = t} d d') o e X =
    runs_on _ TERM≢SUSP (grows d') (agree d o e X) (
    comes_to (λ b. sym (settle_again free.value P n k (prog t) X)) (agree d' (rw (prog_again n k (prog t)) o) (end_kept d ∙ e) X)
    )
agree {free} (r5_repeat {P = P} {n = n} {k = k} {r = r} d h) o e X =
    let f : Program → Out = λ p. repeated n k p (starts free.value (first P) p X) in
    runs_first (repeat1 n k) _ h
    (ap (λ p. bind (settle free.value (first P) r.to X) (once_ended (repeat1 n k) (f p))) (kept d))
    (agree d o e X)
agree (r16 {s = s}) o e X = raises s
agree (r17 {c = c} {p = p} {q = q} v h d) o e X =
    reads_so c true _ _ _ _ _ _ v e (runs_in (λ x. when1 c x q) refl (begins p (agree d (loops_fresh p o.0) e X)))
agree (r17_on {c = c} {q = q} d) o e X = runs_in (λ x. when1 c x q) refl (agree d o.0 e X)
agree (r18 v h) o e X = absurd (false≢true (sym e ∙ h))
agree (r19 {c = c} {p = p} {q = q} v h d) o e X =
    reads_so c false _ _ _ _ _ _ v e (runs_in (when2 c p) refl (begins q (agree d (loops_fresh q o.1) e X)))
agree (r19_on {c = c} {p = p} d) o e X = runs_in (when2 c p) refl (agree d o.1 e X)
agree (r20 v h) o e X = absurd (false≢true (sym e ∙ h))
agree (r21 v) o e X = stays SUSP _ only_waits
agree (r22 {c = c} v h) o e X = reads_so c true _ _ _ _ _ _ v e (stays TERM _ alike_same)
agree (r23 v h) o e X = absurd (false≢true (sym e ∙ h))
agree (r24 {c = c} v) o e X = reads_so c false _ _ _ _ _ _ v e (stays STOP _ alike_same)
agree (r25 v) o e X = stays SUSP _ only_waits
agree {free} (r26 {P = P} {E = E} {s = s} {t = t} v d) o e X =
    comes_to (λ b. steered_on free.value P X s t (b s (present s E v))) (runs_steered s (present s E v) (agree d o e X))
agree (r27 {E = E} {s = s} v) o e X = absurd (open_event s E e v)
agree (r28 v) o e X = stays SUSP _ only_waits
agree {free} (r29 {P = P} {c = c} {t = t} {q = q} {r = r} d h) o e X =
    runs_under (λ x. until0 c x q) _ (around_until free.value P X c (prog t) q r.flag r.to h (kept d)) (agree d o.0 e X)
agree {free} (r30 {P = P} {c = c} {t' = t'} {q = q} d d') o e X =
    runs_on _ STOP≢SUSP (grows d') (agree d o.0 e X) (
    comes_to
    (λ b. ap (λ p. handled P c q (starts free.value (second P p) q X) (own_wait P c X) (eval c X) (reads c X) t') (sym (kept d)))
    (agree d' (rw (kept d) o) (end_kept d ∙ e) X)
    )
agree (r31 {c = c} {t = t} {q = q} v h d) o e X =
    reads_so c true _ _ _ _ _ _ v e (runs_in (until2 c (prog t)) refl (begins q (agree d (loops_fresh q o.1) e X)))
agree (r31_on {c = c} {p = p} d) o e X = runs_in (until2 c p) refl (agree d o.1 e X)
agree (r32 v h) o e X = absurd (false≢true (sym e ∙ h))
agree (r33 {c = c} v) o e X = reads_so c false _ _ _ _ _ _ v e (stays STOP _ alike_same)
agree (r34 v) o e X = stays SUSP _ only_waits
agree {free} (r35_39 {P = P} {E = E} {b = b} {s = s} {t = t} {r = r} d) o e X =
    record { run = λ h w. local_meets free.value X P E b s (settle free.value (inside s P) t) r (grows d) (λ Y. agree d o e Y) h w }
agree {free} (r40 {P = P} {s = s} {r = r} d h) o e X =
    runs_under (freezable0 s) _ (around_freezable free.value P X s r.flag r.to h) (agree d o e X)
agree (r41 d d') o e X = runs_on _ STOP≢SUSP (grows d') (agree d o e X) (agree d' (rw (kept d) o) (end_kept d ∙ e) X)
agree (r42 {P = P} {E = E} {s = s} {t = t} v h) o e X =
    comes_to (λ b. ap (λ x. frozen P s x (own_wait P (Event s) X) TERM t) (b s (present s E v))) (parks_body s (own_wait P (Event s) X) t)
agree (r43 v h) o e X = absurd (false≢true (sym e ∙ h))
agree (r44 {E = E} {s = s} v) o e X = absurd (open_event s E e v)
agree (r45 v) o e X = stays SUSP _ only_waits
agree (if_true {v = v} {p = p} {q = q} h d) o e X =
    chooses _ true _ _ h (runs_in (λ x. if1 v x q) refl (begins p (agree d (loops_fresh p o.0) e X)))
agree (if_true_on {v = v} {q = q} d) o e X = runs_in (λ x. if1 v x q) refl (agree d o.0 e X)
agree (if_false {v = v} {p = p} {q = q} h d) o e X =
    chooses _ false _ _ h (runs_in (if2 v p) refl (begins q (agree d (loops_fresh q o.1) e X)))
agree (if_false_on {v = v} {p = p} d) o e X = runs_in (if2 v p) refl (agree d o.1 e X)
