-- What a term comes to in an instant whose finished events are X, as a function in which no branch comes first: every test is read in X at
-- once, as before the end. What still waits then waits for the end; the term that it leaves is the one that the pass after the end leaves.
use Prim.Native.Nat.{ℕ, zero, suc, ◌+◌}
use mathlib.Core.Bool.{Bool, true, false, cond, ◌||◌, and-eq-true_iff, false≢true}
use mathlib.Core.Path.{◌≡◌, refl, ap, ap₂, ◌∙◌, fun_ext, sym}
use mathlib.Core.Logic.{◌≢◌}
use mathlib.Core.List.{[], ◌∷◌}
use mathlib.Core.Option.{Option, none, some}
use native.Mathlib.Omega.{arith}
use Rattle.events.specs.Events.{Events, none as no_event, put}
use Rattle.junior.specs.declared.Flag.{Flag}
use Rattle.junior.specs.declared.Flag.TheVariants.{SUSP, STOP, TERM}
use Rattle.junior.specs.declared.Verdict.{Verdict}
use Rattle.junior.specs.declared.Verdict.TheVariants.{Sat, Unsat, Unknown}
use Rattle.junior.specs.Flags.{γ, δ₁, δ₂}
use Rattle.junior.specs.Configuration.{Config, Event, handed_in, eval, test, early_true, early_false}
use Rattle.junior.specs.Program.{Program, Nothing, Stop, Atom, Seq, Par, Loop, Repeat, Generate, Await, When, Until, Control, Local, Freezable}
use Rattle.junior.specs.Program.{If}
use Rattle.junior.specs.Values.{Values, nonzero, Times, runs_of, surely}
use Rattle.junior.specs.Term.{Term, done, nothing, stop, atom, generate, await, seq0, seq2, par, loop0, loop1, repeat0, repeat1, when0, when1}
use Rattle.junior.specs.Term.{when2, until0, until*, until2, control, local, freezable0, freezable*, if0, if1, if2, prog, fresh, leave}
use Rattle.junior.specs.Rules.{again}
use Rattle.junior.specs.Figures.{only_if, stops}
use Rattle.junior.specs.Trace.{Place, first, second, inside, Piece, piece}
use Rattle.junior.specs.Waited.{lacks, Wait, waits_for}
use Rattle.junior.specs.Order.{often, tells}
use Rattle.junior.proofs.Little.{SUSP≢TERM, STOP≢TERM}
use Rattle.junior.proofs.Times.{unsure}
use Rattle.junior.proofs.Fresh.{prog_fresh}
use Rattle.junior.proofs.Verdicts.{sat_early, unsat_early}
use Rattle.junior.proofs.Held.{needed}
use Rattle.junior.proofs.WayDown.{branch_that_waits, or_else}

-- what comes of a term: its flag, what it leaves, the events it generates, how often it does each atom, what the pieces that it parks weigh together by
-- the weight of each, at which nodes it decides tests and how, and the first test, with its event, that waits for the end
pub record Out : Type 0 where
  pub flag : Flag
  pub to : Term
  pub gens : Events
  pub hits : ℕ → ℕ
  pub parked : (Piece → ℕ) → ℕ
  pub tests : ℕ → Bool → Bool
  pub wait : Option Wait

abbrev pub out : Flag → Term → Events → (ℕ → ℕ) → ((Piece → ℕ) → ℕ) → (ℕ → Bool → Bool) → Option Wait → Out
out α t g h p d w = record { flag = α; to = t; gens = g; hits = h; parked = p; tests = d; wait = w }

-- it does nothing; w is what it waits for, if for anything
abbrev pub held_by : Option Wait → Flag → Term → Out
held_by w α t = out α t no_event (λ a. 0) (λ v. 0) (λ n b. false) w

abbrev pub idle : Flag → Term → Out
idle α t = held_by none α t

-- it comes to p after what o does; so a node around a part, h saying what comes of the part's answer
abbrev pub plus : Out → Out → Out
plus o p =
    out
    p.flag
    p.to
    (λ n. o.gens n || p.gens n)
    (λ a. o.hits a + p.hits a)
    (λ v. o.parked v + p.parked v)
    (λ n b. o.tests n b || p.tests n b)
    (or_else o.wait p.wait)

unfoldable pub bind : Out → (Flag → Term → Out) → Out
bind o h = plus o (h o.flag o.to)

-- it comes to o once the test at P is decided as v
unfoldable pub says : Place → Bool → Out → Out
says P v o = out o.flag o.to o.gens o.hits o.parked (λ n b. tells P v n b || o.tests n b) o.wait

-- the node f, answering as its part
abbrev pub around : (Term → Term) → Flag → Term → Out
around f α t = idle α (leave α (f t))

-- the node f, going on as k once its part has ended
abbrev pub once_ended : (Term → Term) → Out → Flag → Term → Out
once_ended f k SUSP t = idle SUSP (f t)
once_ended f k STOP t = idle STOP (f t)
once_ended f k TERM t = k

-- by the verdict of the test at P; where it is unknown it waits, as w says, and goes by its value at the end
abbrev pub tested : Place → Verdict → Out → Out → Option Wait → Bool → Term → Term → Out
tested P Sat o p w b t u = says P true o
tested P Unsat o p w b t u = says P false p
tested P Unknown o p w b t u = says P b (held_by w SUSP (cond b t u))

-- how a configuration reads in X before the end
abbrev pub reads : Config → Events → Verdict
reads c X = test c (handed_in X)

-- the wait of a test at P that is unknown
abbrev pub own_wait : Place → Config → Events → Option Wait
own_wait P c X = waits_for P.node (lacks c X)

-- an Until at P whose body stopped at t, o being what comes of its handler, v and b how its test reads, before the end and at it
unfoldable pub handled : Place → Config → Program → Out → Option Wait → Bool → Verdict → Term → Out
handled P c q o w b v t =
    tested P v (bind o (around (until2 c (prog t)))) (idle STOP (until0 c t q)) w b (until2 c (prog t) (fresh q)) (until0 c t q)

-- an Until, by its body's answer: a body that waits stops at the end, and the test is read then, so that the wait is the body's
abbrev pub once_stopped : Place → Config → Program → Out → Option Wait → Bool → Verdict → Flag → Term → Out
once_stopped P c q o w b v SUSP t = handled P c q o none b Unknown t
once_stopped P c q o w b v STOP t = handled P c q o w b v t
once_stopped P c q o w b v TERM t = idle TERM (done (Until c (prog t) q))

-- a branch of a Par by its flag: it has answered already, or it runs
abbrev pub branch : Flag → Term → Out → Out
branch SUSP t o = o
branch STOP t o = idle STOP t
branch TERM t o = idle TERM t

-- the flag once the instant is over
abbrev pub at_last : Flag → Flag
at_last SUSP = STOP
at_last STOP = STOP
at_last TERM = TERM

-- what a Par leaves whose branches have answered α and β
abbrev pub paired : Flag → Flag → Term → Term → Term
paired α β t u = leave (γ α β) (par (δ₁ (at_last α) (at_last β)) (δ₂ (at_last α) (at_last β)) t u)

unfoldable pub join : Out → Out → Out
join o p =
    out
    (γ o.flag p.flag)
    (paired o.flag p.flag o.to p.to)
    (λ n. o.gens n || p.gens n)
    (λ a. o.hits a + p.hits a)
    (λ v. o.parked v + p.parked v)
    (λ n b. o.tests n b || p.tests n b)
    (branch_that_waits o.flag o.wait p.wait)

-- a Repeat(n) of p with k runs due, o being what comes of one
unfoldable pub repeated : Times → ℕ → Program → Out → Out
repeated n zero p o = idle TERM (done (Repeat n p))
repeated n (suc k) p o = bind o (once_ended (repeat1 n k) (repeated n k p o))

-- a Control of s at P around t, by whether its event is present: if not it waits for it itself
unfoldable pub steered : Place → Bool → ℕ → Term → Out → Out
steered P true s t o = says P true (bind o (around (control s)))
steered P false s t o = says P false (held_by (some (record { node = P.node; event = s })) SUSP (control s t))

-- a Local around o: its event stays inside
unfoldable pub hidden : ℕ → Out → Out
hidden s o = out o.flag (leave o.flag (local false s o.to)) (put s false o.gens) o.hits o.parked o.tests o.wait

-- its event is present in the end exactly if it was, or if the body, F, generates it without it
unfoldable pub scoped : Bool → ℕ → (Events → Out) → Events → Out
scoped b s F X = hidden s (F (put s (b || (F (put s false X)).gens s) X))

-- a Freezable of s at P answers α and parks its body, which stopped at t; or, the event being absent, it waits, as w says, and stops at the end
unfoldable pub frozen : Place → ℕ → Bool → Option Wait → Flag → Term → Out
frozen P s true w α t =
    says P true (out α (done (Freezable s (prog t))) no_event (λ a. 0) (λ v. v (piece s (first P).node t)) (λ n b. false) none)
frozen P s false w α t = says P false (held_by w SUSP (freezable0 s t))

-- a Freezable, by its body's answer: a body that waits stops at the end, and what is parked is parked then; the wait is the body's
abbrev pub once_frozen : Place → ℕ → Bool → Option Wait → Flag → Term → Out
once_frozen P s b w SUSP t = frozen P s b none SUSP t
once_frozen P s b w STOP t = frozen P s b w TERM t
once_frozen P s b w TERM t = idle TERM (done (Freezable s (prog t)))

-- nothing before h
pub bind_idle : (α : Flag) (t : Term) (h : Flag → Term → Out) → bind (idle α t) h ≡ h α t
unfolding bind
bind_idle α t h =
    ap₂ (λ k p. out (h α t).flag (h α t).to (h α t).gens k p (h α t).tests (h α t).wait) (fun_ext (λ a. omega arith)) (fun_ext (λ v. omega arith))

-- what stops doesn't come to an end, shape by shape
once_unended : (f : Term → Term) (k : Out) (α : Flag) (t : Term)
    → (α ≡ TERM → k.flag ≢ TERM)
    → (once_ended f k α t).flag ≢ TERM
once_unended f k SUSP t h = SUSP≢TERM
once_unended f k STOP t h = STOP≢TERM
once_unended f k TERM t h = h refl

tested_unended : (P : Place) (v : Verdict) (o p : Out) (w : Option Wait) (b : Bool) (t u : Term)
    → (v ≡ Sat → o.flag ≢ TERM)
    → (v ≡ Unsat → p.flag ≢ TERM)
    → (tested P v o p w b t u).flag ≢ TERM
unfolding says
tested_unended P Sat o p w b t u h k = h refl
tested_unended P Unsat o p w b t u h k = k refl
tested_unended P Unknown o p w b t u h k = SUSP≢TERM

stopped_unended : (P : Place) (c : Config) (q : Program) (o : Out) (w : Option Wait) (b : Bool) (v : Verdict) (α : Flag) (t : Term)
    → α ≢ TERM
    → (v ≡ Sat → o.flag ≢ TERM)
    → (once_stopped P c q o w b v α t).flag ≢ TERM
unfolding handled bind says
stopped_unended P c q o w b v SUSP t n h = SUSP≢TERM
stopped_unended P c q o w b v STOP t n h =
    tested_unended P v (bind o (around (until2 c (prog t)))) (idle STOP (until0 c t q)) w b _ _ h (λ e. STOP≢TERM)
stopped_unended P c q o w b v TERM t n h = absurd (n refl)

γ-unended : (α β : Flag) → (α ≡ TERM → β ≢ TERM) → γ α β ≢ TERM
γ-unended SUSP SUSP h = SUSP≢TERM
γ-unended SUSP STOP h = SUSP≢TERM
γ-unended SUSP TERM h = SUSP≢TERM
γ-unended STOP SUSP h = SUSP≢TERM
γ-unended STOP STOP h = STOP≢TERM
γ-unended STOP TERM h = STOP≢TERM
γ-unended TERM SUSP h = SUSP≢TERM
γ-unended TERM STOP h = STOP≢TERM
γ-unended TERM TERM h = h refl

steered_unended : (P : Place) (b : Bool) (s : ℕ) (t : Term) (o : Out) → o.flag ≢ TERM → (steered P b s t o).flag ≢ TERM
unfolding steered says bind
steered_unended P true s t o h = h
steered_unended P false s t o h = SUSP≢TERM

or_unended : (a b : Bool) {α β : Flag} → (a || b) ≡ true → (a ≡ true → α ≢ TERM) → (b ≡ true → β ≢ TERM) → α ≡ TERM → β ≢ TERM
or_unended true b h f g e = absurd (f refl e)
or_unended false b h f g e = g h

repeated_unended : (n : Times) (k : ℕ) (p : Program) (o : Out) → (k ≢ 0) → o.flag ≢ TERM → (repeated n k p o).flag ≢ TERM
unfolding repeated bind
repeated_unended n zero p o h f = absurd (h refl)
repeated_unended n (suc k) p o h f = once_unended (repeat1 n k) (repeated n k p o) o.flag o.to (λ e. absurd (f e))

either_unended : (b : Bool) (o p : Out) → o.flag ≢ TERM → p.flag ≢ TERM → (cond b o p).flag ≢ TERM
either_unended true o p h k = h
either_unended false o p h k = k

module _ (value : Values) where
  -- what comes of a program that is begun, its node being at P
  unfoldable pub starts : Place → Program → Events → Out
  starts P Nothing X = idle TERM (done Nothing)
  starts P Stop X = idle STOP (done Stop)
  starts P (Atom a) X = out TERM (done (Atom a)) no_event (λ n. often n (a ∷ [])) (λ v. 0) (λ n b. false) none
  starts P (Seq p q) X =
      bind (starts (first P) p X) (once_ended (λ x. seq0 x q) (bind (starts (second P p) q X) (around (seq2 p))))
  starts P (Par p q) X = join (starts (first P) p X) (starts (second P p) q X)
  -- that the body ends at once can't be: any answer but TERM does
  starts P (Loop p) X = bind (starts (first P) p X) (once_ended loop1 (idle STOP (loop0 p)))
  starts P (Repeat n p) X = repeated n (runs_of value n) p (starts (first P) p X)
  starts P (Generate s) X = out TERM (done (Generate s)) (put s true no_event) (λ a. 0) (λ v. 0) (λ n b. false) none
  starts P (Await c) X =
      tested P (reads c X) (idle TERM (done (Await c))) (idle STOP (await c)) (own_wait P c X) (eval c X) (done (Await c)) (await c)
  starts P (When c p q) X =
      tested
      P
      (reads c X)
      (bind (starts (first P) p X) (around (λ x. when1 c x q)))
      (bind (starts (second P p) q X) (around (when2 c p)))
      (own_wait P c X)
      (eval c X)
      (when1 c (fresh p) q)
      (when2 c p (fresh q))
  starts P (Until c p q) X =
      bind (starts (first P) p X) (once_stopped P c q (starts (second P p) q X) (own_wait P c X) (eval c X) (reads c X))
  starts P (Control s p) X = steered P (X s) s (fresh p) (starts (first P) p X)
  starts P (Local s p) X = scoped false s (starts (inside s P) p) X
  starts P (Freezable s p) X = bind (starts (first P) p X) (once_frozen P s (X s) (own_wait P (Event s) X))
  starts P (If v p q) X =
      cond
      (nonzero (value v))
      (bind (starts (first P) p X) (around (λ x. if1 v x q)))
      (bind (starts (second P p) q X) (around (if2 v p)))

  -- what comes of a term at P
  unfoldable pub settle : Place → Term → Events → Out
  settle P (done p) X = idle TERM (done p)
  settle P nothing X = starts P Nothing X
  settle P stop X = starts P Stop X
  settle P (atom a) X = starts P (Atom a) X
  settle P (generate s) X = starts P (Generate s) X
  settle P (await c) X = starts P (Await c) X
  settle P (seq0 t q) X =
      bind (settle (first P) t X) (once_ended (λ x. seq0 x q) (bind (starts (second P (prog t)) q X) (around (seq2 (prog t)))))
  settle P (seq2 p t) X = bind (settle (second P p) t X) (around (seq2 p))
  settle P (par α β t u) X = join (branch α t (settle (first P) t X)) (branch β u (settle (second P (prog t)) u X))
  settle P (loop0 p) X = starts P (Loop p) X
  settle P (loop1 t) X = bind (settle (first P) t X) (once_ended loop1 (starts P (Loop (prog t)) X))
  settle P (repeat0 n p) X = starts P (Repeat n p) X
  settle P (repeat1 n k t) X =
      bind (settle (first P) t X) (once_ended (repeat1 n k) (repeated n k (prog t) (starts (first P) (prog t) X)))
  settle P (when0 c p q) X = starts P (When c p q) X
  settle P (when1 c t q) X = bind (settle (first P) t X) (around (λ x. when1 c x q))
  settle P (when2 c p t) X = bind (settle (second P p) t X) (around (when2 c p))
  settle P (until0 c t q) X =
      bind (settle (first P) t X) (once_stopped P c q (starts (second P (prog t)) q X) (own_wait P c X) (eval c X) (reads c X))
  settle P (until* c t q) X = handled P c q (starts (second P (prog t)) q X) (own_wait P c X) (eval c X) (reads c X) t
  settle P (until2 c p t) X = bind (settle (second P p) t X) (around (until2 c p))
  settle P (control s t) X = steered P (X s) s t (settle (first P) t X)
  settle P (local b s t) X = scoped b s (settle (inside s P) t) X
  settle P (freezable0 s t) X = bind (settle (first P) t X) (once_frozen P s (X s) (own_wait P (Event s) X))
  settle P (freezable* s t) X = once_frozen P s (X s) (own_wait P (Event s) X) STOP t
  settle P (if0 v p q) X = starts P (If v p q) X
  settle P (if1 v t q) X = bind (settle (first P) t X) (around (λ x. if1 v x q))
  settle P (if2 v p t) X = bind (settle (second P p) t X) (around (if2 v p))

  -- a Control whose event is present
  pub steered_on : (P : Place) (X : Events) (s : ℕ) (t : Term)
      → X s ≡ true
      → settle P (control s t) X ≡ says P true (bind (settle (first P) t X) (around (control s)))
  unfolding settle steered
  steered_on P X s t h = ap (λ b. steered P b s t (settle (first P) t X)) h

  -- a fresh term comes to what its program does
  pub settle_fresh : (P : Place) (p : Program) (X : Events) → settle P (fresh p) X ≡ starts P p X
  unfolding settle starts fresh
  settle_fresh P Nothing X = refl
  settle_fresh P Stop X = refl
  settle_fresh P (Atom a) X = refl
  settle_fresh P (Seq p q) X =
      λ i. bind (settle_fresh (first P) p X i) (
      once_ended (λ x. seq0 x q) (bind (starts (second P (prog_fresh p i)) q X) (around (seq2 (prog_fresh p i))))
      )
  settle_fresh P (Par p q) X =
      (λ i. join (settle_fresh (first P) p X i) (settle (second P (prog_fresh p i)) (fresh q) X))
      ∙ ap (join (starts (first P) p X)) (settle_fresh (second P p) q X)
  settle_fresh P (Loop p) X = refl
  settle_fresh P (Repeat n p) X = refl
  settle_fresh P (Generate s) X = refl
  settle_fresh P (Await c) X = refl
  settle_fresh P (When c p q) X = refl
  settle_fresh P (Until c p q) X =
      λ i. bind (settle_fresh (first P) p X i) (
      once_stopped P c q (starts (second P (prog_fresh p i)) q X) (own_wait P c X) (eval c X) (reads c X)
      )
  settle_fresh P (Control s p) X = λ i. steered P (X s) s (fresh p) (settle_fresh (first P) p X i)
  settle_fresh P (Local s p) X = λ i. scoped false s (λ Y. settle_fresh (inside s P) p Y i) X
  settle_fresh P (Freezable s p) X = λ i. bind (settle_fresh (first P) p X i) (once_frozen P s (X s) (own_wait P (Event s) X))
  settle_fresh P (If v p q) X = refl

  pub settle_again : (P : Place) (n : Times) (k : ℕ) (p : Program) (X : Events)
      → settle P (again n k p) X ≡ repeated n k p (starts (first P) p X)
  unfolding settle repeated
  settle_again P n zero p X = refl
  settle_again P n (suc k) p X =
      λ i. bind (settle_fresh (first P) p X i) (
      once_ended (repeat1 n k) (repeated n k (prog_fresh p i) (starts (first P) (prog_fresh p i) X))
      )

  pub starts_unended : (P : Place) (p : Program) (X : Events) → stops p ≡ true → (starts P p X).flag ≢ TERM
  unfolding starts stops bind join hidden scoped
  starts_unended P Nothing X h = absurd (false≢true h)
  starts_unended P Stop X h = STOP≢TERM
  starts_unended P (Atom a) X h = absurd (false≢true h)
  starts_unended P (Seq p q) X h =
      once_unended _ _ _ _ (
      or_unended (stops p) (stops q) h (λ x. starts_unended (first P) p X x) (λ x. starts_unended (second P p) q X x)
      )
  starts_unended P (Par p q) X h =
      γ-unended _ _ (
      or_unended (stops p) (stops q) h (λ x. starts_unended (first P) p X x) (λ x. starts_unended (second P p) q X x)
      )
  starts_unended P (Loop p) X h =
      let o = starts (first P) p X in
      once_unended loop1 (idle STOP (loop0 p)) o.flag o.to (λ e. STOP≢TERM)
  starts_unended P (Repeat n p) X h =
      let k = (and-eq-true_iff (surely n) (stops p)).0 h in
      repeated_unended n (runs_of value n) p (starts (first P) p X)
      (λ e. false≢true (sym (unsure value n e) ∙ k.0))
      (starts_unended (first P) p X k.1)
  starts_unended P (Generate s) X h = absurd (false≢true h)
  starts_unended P (Await c) X h =
      tested_unended P (reads c X) _ _ _ (eval c X) _ _ (λ v. absurd (false≢true (rw (sat_early c (handed_in X) refl v) at h))) (λ v. STOP≢TERM)
  starts_unended P (When c p q) X h =
      let k = (and-eq-true_iff (only_if (early_true c) (stops p)) (only_if (early_false c) (stops q))).0 h in
      let o = bind (starts (first P) p X) (around (λ x. when1 c x q)) in
      let u = bind (starts (second P p) q X) (around (when2 c p)) in
      tested_unended P (reads c X) o u (own_wait P c X) (eval c X) _ _
      (λ v. starts_unended (first P) p X (needed (sat_early c (handed_in X) refl v) k.0))
      (λ v. starts_unended (second P p) q X (needed (unsat_early c (handed_in X) refl v) k.1))
  starts_unended P (Until c p q) X h =
      let k = (and-eq-true_iff (stops p) (only_if (early_true c) (stops q))).0 h in
      let o = starts (second P p) q X in
      stopped_unended P c q o (own_wait P c X) (eval c X) (reads c X) _ _
      (starts_unended (first P) p X k.0)
      (λ v. starts_unended (second P p) q X (needed (sat_early c (handed_in X) refl v) k.1))
  starts_unended P (Control s p) X h = steered_unended P (X s) s (fresh p) _ (starts_unended (first P) p X h)
  starts_unended P (Local s p) X h = starts_unended (inside s P) p _ h
  starts_unended P (Freezable s p) X h = absurd (false≢true h)
  starts_unended P (If v p q) X h =
      let k = (and-eq-true_iff (stops p) (stops q)).0 h in
      let o = bind (starts (first P) p X) (around (λ x. if1 v x q)) in
      let u = bind (starts (second P p) q X) (around (if2 v p)) in
      either_unended (nonzero (value v)) o u (starts_unended (first P) p X k.0) (starts_unended (second P p) q X k.1)
