-- L6: whichever branches run first, an instant comes to what its term settles to in the finished events; and any two instants from one state
-- finish with the same events, since each stays within every set that holds what was handed in and in which the term generates nothing new.
use Prim.Native.Nat.{ℕ, ◌+◌, ◌≤◌}
use mathlib.Core.Bool.{Bool, true, false, ◌||◌, or-false}
use mathlib.Core.Path.{◌≡◌, refl, ap, sym, ◌∙◌, subst, subst⁻¹, fun_ext}
use mathlib.Core.List.{List}
use mathlib.Core.Option.{Option}
use native.Mathlib.Omega.{arith}
use Rattle.events.specs.Events.{Events, put}
use Rattle.junior.specs.declared.Flag.{Flag}
use Rattle.junior.specs.declared.Flag.TheVariants.{SUSP, STOP}
use Rattle.junior.specs.Configuration.{Env, test, fixed, eval}
use Rattle.junior.specs.Program.{size}
use Rattle.junior.specs.Values.{Values}
use Rattle.junior.specs.Term.{Term, prog, fresh, leave}
use Rattle.junior.specs.Trace.{Place, Act, root, collect}
use Rattle.junior.specs.Rules.{Allowed, either_first, Result, Rewrites, r2, r3, r4, r5, r8, r9, r10, r16, r22, r25, r41, r42}
use Rattle.junior.specs.Instant.{Instant, r47, r48, r49}
use Rattle.junior.specs.Course.{◌⊆◌}
use Rattle.junior.specs.Figures.{LoopsStop, per}
use Rattle.junior.specs.AtRest.{AtRest}
use Rattle.junior.specs.Waited.{Wait, first_wait, before_the_end, waited}
use Rattle.junior.specs.Order.{decides, SoFar, begun, quiet, moved, often, SameOutcome, OrderFree, PassesDiffer, PiecesDiffer}
use Rattle.junior.proofs.Little.{STOP≢SUSP, TERM≢SUSP, SUSP≢TERM}
use Rattle.junior.proofs.Kept.{kept}
use Rattle.junior.proofs.Grows.{grows, end_kept, unchanged, reported}
use Rattle.junior.specs.Inside.{Going, pot}
use Rattle.junior.proofs.Going.{rest_going, going_more}
use Rattle.junior.proofs.End.{ended, Blocked, blocked, idles}
use Rattle.junior.proofs.Figures.{pot_at_rest}
use Rattle.junior.proofs.Exists.{pass_exists}
use Rattle.junior.proofs.Instants.{uses_up, passes_left, within_passes, goes_on, ends_within}
use Rattle.junior.proofs.Freer.{freer_instant}
use Rattle.junior.proofs.WayFound.{way_down}
use Rattle.junior.proofs.Settle.{Out, held_by, branch, at_last, settle}
use Rattle.junior.proofs.Fits.{times, Fits, fits_then, within_fits}
use Rattle.junior.proofs.Meets.{left, branch_idle}
use Rattle.junior.proofs.Agree.{agree}
use Rattle.junior.proofs.Ending.{closing, EndsAs, ends_as, at_last_same}

-- the pass after the end from a state that waits: it changes no event, does no atom, and decides, parks and leaves what the state settles to
pub record Closes (value : Values) (t : Term) (E : Env) (r : Result) : Type 0 where
  pub same_events : r.env.now ≡ E.now
  pub stopped : r.flag ≡ STOP
  pub settled : EndsAs value root t E r
  pub no_atom : (a : ℕ) → times a r.acts ≡ 0

closes : {free : Allowed} {t : Term} {E : Env} {n : ℕ} {r : Result}
    → Instant free t E n r
    → E.eoi ≡ true
    → Blocked E.now t
    → Closes free.value t E r
unfolding often
closes (r47 d h) e b =
    let i = idles d e b in
    record {
      same_events = ap (λ F. F.now) (unchanged d i.no_event);
      stopped = i.stops;
      settled = ends_as d e b;
      no_atom = λ a. ap (often a) i.no_atom;
    }
closes (r48 d h m i) e b = absurd (STOP≢SUSP (sym (idles d e b).stops ∙ h))
closes (r49 d h m i) e b = absurd (STOP≢SUSP (sym (idles d e b).stops ∙ h))

-- such a pass is all that was left to do
fits_closing : {X : Events} (w : Option Wait) (α : Flag) (t : Term) (l : List Act)
    → ((a : ℕ) → times a l ≡ 0)
    → Fits X l (closing w α t l) (held_by w α t)
fits_closing w α t l h = record {
  flags = refl;
  terms = refl;
  events = λ n. refl;
  counts = λ a. omega (arith, h a);
  pieces = λ v. omega arith;
  told = λ n b. sym (or-false (decides n b l));
  waits = refl;
}

-- what comes of the term that a suspended pass leaves
left_going : (value : Values) {X : Events} {o : Out} (r : Result)
    → r.flag ≡ SUSP
    → Fits X r.acts o (left value root X r)
    → Fits X r.acts o (settle value root r.to X)
left_going value {X} {o} r f h = subst (λ α. Fits X r.acts o (branch α r.to (settle value root r.to X))) f h

-- an instant stays within every set that holds what it began with and in which its term generates nothing new
pub stays_within : {free : Allowed} {t : Term} {E : Env} {n : ℕ} {r : Result}
    → Instant free t E n r
    → LoopsStop (prog t)
    → E.eoi ≡ false
    → (X : Events)
    → E.now ⊆ X
    → (settle free.value root t X).gens ⊆ X
    → r.env.now ⊆ X
stays_within (r47 d h) o e X b c = ((agree d o e X).run b (λ n y g. c n g)).below
stays_within (r48 d h q i) o e X b c =
    let m = (agree d o e X).run b (λ n y g. c n g) in
    subst (λ Y. Y ⊆ X) (sym (closes i refl (blocked d h q)).same_events) m.below
stays_within {free} (r49 {r = r} d h q i) o e X b c =
    let m = (agree d o e X).run b (λ n y g. c n g) in
    let c' = within_fits {Y = λ n. true} (left_going free.value r h m.fits) (λ n y g. c n g) in
    stays_within i (rw (kept d) o) (end_kept d ∙ e) X m.below (λ n g. c' n refl g)

-- an instant comes to what its term settles to in the finished events, an answer that waited for the end being STOP, and w what it reports
pub record Comes (value : Values) (t : Term) (r : Result) (w : Option Wait) : Type 0 where
  pub last : Flag
  pub answered : r.flag ≡ at_last last
  pub comes_to : Fits r.env.now r.acts (settle value root t r.env.now) (held_by w last r.to)

pub comes : {free : Allowed} {t : Term} {E : Env} {n : ℕ} {r : Result} (i : Instant free t E n r)
    → LoopsStop (prog t)
    → E.eoi ≡ false
    → Comes free.value t r (waited i)
unfolding before_the_end first_wait
comes {free} {t = t} (r47 {r = r} d h) o e =
    let X = r.env.now in
    let f = ((agree d o e X).run (grows d) (λ n y g. y)).fits in
    let rest = branch_idle r.flag r.to (settle free.value root r.to X) h in
    record {
      last = r.flag;
      answered = at_last_same r.flag h;
      comes_to = subst (λ x. Fits X r.acts (settle free.value root t X) x) rest f;
    }
comes {free} (r48 {E = E} {r = r} {s = s} d h q i) o e =
    let X = s.env.now in
    let c = closes i refl (blocked d h q) in
    let same : r.env.now ≡ X = sym c.same_events in
    let f = ((agree d o e X).run (subst (λ Y. E.now ⊆ Y) same (grows d)) (λ n y g. subst (λ Y. Y n ≡ true) same y)).fits in
    let w = first_wait r.acts in
    let rest = subst (λ Y. settle free.value root r.to Y ≡ closing w SUSP s.to s.acts) same (rw (way_down d h q) c.settled) in
    record {
      last = SUSP;
      answered = c.stopped;
      comes_to = fits_then (left_going free.value r h f) (rw rest (fits_closing w SUSP s.to s.acts c.no_atom));
    }
comes {free} (r49 {r = r} {s = s} d h q i) o e =
    let X = s.env.now in
    let c = comes i (rw (kept d) o) (end_kept d ∙ e) in
    let f = ((agree d o e X).run (λ n y. reported i n (grows d n y)) (λ n y g. reported i n y)).fits in
    record { last = c.last; answered = c.answered; comes_to = fits_then (left_going free.value r h f) c.comes_to }

-- so its term generates nothing beyond them
closed : {value : Values} {t : Term} {r : Result} {w : Option Wait} → Comes value t r w → (settle value root t r.env.now).gens ⊆ r.env.now
closed {value} {t} {r} c n g = go (r.env.now n) ((settle value root t r.env.now).gens n) (c.comes_to.events n) g
  where
    go : (x y : Bool) → (x || y) ≡ (x || false) → y ≡ true → x ≡ true
    go true y e g = refl
    go false y e g = sym e ∙ g

both_within : {X Y : Events} → X ⊆ Y → Y ⊆ X → X ≡ Y
both_within {X} {Y} h k = fun_ext (λ n. go (X n) (Y n) (h n) (k n))
  where
    go : (x y : Bool) → (x ≡ true → y ≡ true) → (y ≡ true → x ≡ true) → x ≡ y
    go true y h k = sym (h refl)
    go false true h k = k refl
    go false false h k = refl

-- with the same finished events all is the same
same_outcome : {value : Values} {t : Term} {r s : Result} {v w : Option Wait}
    → Comes value t r v
    → Comes value t s w
    → r.env.now ≡ s.env.now
    → SameOutcome r s
same_outcome {value} {t} {r} {s} c d e =
    let o : settle value root t r.env.now ≡ settle value root t s.env.now = ap (settle value root t) e in
    let flags = sym c.comes_to.flags ∙ (ap (λ x. x.flag) o ∙ d.comes_to.flags) in
    record {
      event_set = e;
      answer = c.answered ∙ (ap at_last flags ∙ sym d.answered);
      end_state = sym c.comes_to.terms ∙ (ap (λ x. x.to) o ∙ d.comes_to.terms);
      equally_often = λ a. omega (arith, c.comes_to.counts a, d.comes_to.counts a, ap (λ x. x.hits a) o);
      same_pieces = λ v. omega (arith, c.comes_to.pieces v, d.comes_to.pieces v, ap (λ x. x.parked v) o);
      decided_alike = λ n b.
          sym (or-false (decides n b r.acts))
          ∙ (sym (c.comes_to.told n b)
          ∙ (ap (λ x. x.tests n b) o ∙ (d.comes_to.told n b ∙ or-false (decides n b s.acts))));
    }

-- any two instants from one state and environment, with one set of values, each by its own rules, wherever the state stands
module _ {free free' : Allowed} {t : Term} {E : Env} {n m : ℕ} {r s : Result} (i : Instant free t E n r) (j : Instant free' t E m s)
    (v : free.value ≡ free'.value) (o : LoopsStop (prog t)) (e : E.eoi ≡ false) where
  -- what the first comes to, said of the second's values
  first_comes : Comes free'.value t r (waited i)
  first_comes = subst (λ w. Comes w t r (waited i)) v (comes i o e)

  same_events : r.env.now ≡ s.env.now
  same_events =
      let X = s.env.now in
      both_within
      (stays_within i o e X (reported j) (subst⁻¹ (λ w. (settle w root t X).gens ⊆ X) v (closed (comes j o e))))
      (stays_within j o e r.env.now (reported i) (closed first_comes))

  pub same_in_any_order : SameOutcome r s
  same_in_any_order = same_outcome first_comes (comes j o e) same_events

  -- the same test waits when the end is declared, for the same event, or the end isn't declared in either
  pub waits_in_any_order : waited i ≡ waited j
  waits_in_any_order =
      sym first_comes.comes_to.waits
      ∙ (ap (λ X. (settle free'.value root t X).wait) same_events ∙ (comes j o e).comes_to.waits)

-- once the end is declared one pass is left
last_pass : {value : Values} {k : ℕ} {t u : Term} {E F : Env}
    → SoFar value k t E u F
    → E.eoi ≡ true
    → LoopsStop (prog t)
    → Going E.now t
    → (n : ℕ) × (r : Result) × Instant (either_first value) u F n r × (k + n ≤ 1)
last_pass {value} {t = t} {E = E} begun e o g =
    let (r, d) = pass_exists (either_first value) t o root E g in
    (1, r, r47 d (ended d e), omega arith)
last_pass (quiet d h q p) e o g = absurd (ended d e h)
last_pass (moved d h q p) e o g = absurd (ended d e h)

-- whatever was chosen so far, the instant goes on to an end, and in time
pub goes_to_end : {value : Values} {k : ℕ} {t u : Term} {E F : Env}
    → SoFar value k t E u F
    → LoopsStop (prog t)
    → Going E.now t
    → E.move ≡ false
    → (n : ℕ) × (r : Result) × Instant (either_first value) u F n r × (k + n ≤ pot (per 7) t + 2)
goes_to_end {value} {t = t} {E = E} begun o g m =
    let (n, r, i) = ends_within (either_first value) (pot (per 7) t) t E o g m (omega arith) in
    (n, r, i, omega (arith, passes_left i o m))
goes_to_end (quiet d h q p) o g m =
    let (n, r, i, z) = last_pass p refl (rw (kept d) o) (goes_on d g h) in
    (n, r, i, omega arith)
goes_to_end (moved d h q p) o g m =
    let (n, r, i, z) = goes_to_end p (rw (kept d) o) (goes_on d g h) refl in
    (n, r, i, omega (arith, uses_up d o m h q))

-- and within a pass: whichever branch of a Par ran first, and however, the other one has a pass after it
pub other_branch : {value : Values} {P Q : Place} {t u : Term} {E : Env} {r : Result}
    → Rewrites (either_first value) P t E r
    → LoopsStop (prog u)
    → Going E.now u
    → (s : Result) × Rewrites (either_first value) Q u r.env s
other_branch {value} {Q = Q} {u = u} {r = r} d o g = pass_exists (either_first value) u o Q r.env (going_more u (grows d) g)

pub order_free : (value : Values) (t : Term) (X : Events) → LoopsStop (prog t) → AtRest t → OrderFree value t X
order_free value t X o a = record {
  kernel_order = λ i. freer_instant (λ x. absurd x) refl i o;
  ends = λ p. let (n, r, i, z) = goes_to_end p o (rest_going X t a) refl in (n, r, i, omega (arith, pot_at_rest (per 7) t a));
  soon = λ i. within_passes i o a;
  same = λ i j. same_in_any_order i j refl o refl;
  same_wait = λ i j. waits_in_any_order i j refl o refl;
}

pub passes_differ : PassesDiffer
unfolding fresh prog leave put test fixed eval collect
passes_differ = record {
  left = (_, r49 (r8 (r5 (r25 refl) SUSP≢TERM) r16) refl refl (r47 (r10 TERM≢SUSP (r4 (r22 refl refl) r3)) TERM≢SUSP), refl);
  right = (_, r47 (r9 tt r16 (r4 (r22 refl refl) r3)) TERM≢SUSP, refl);
}

pub pieces_differ : PiecesDiffer
unfolding fresh prog size leave put test fixed eval collect
pieces_differ = record {
  left = (_, r47 (r8 (r41 r2 (r42 refl refl)) (r41 r2 (r42 refl refl))) TERM≢SUSP, refl);
  right = (_, r47 (r9 tt (r41 r2 (r42 refl refl)) (r41 r2 (r42 refl refl))) TERM≢SUSP, refl);
}
