-- What `first_wait` finds among the acts of a pass: the test that waits at the lowest node, and its event.
use Prim.Native.Nat.{ℕ, ◌≤◌}
use mathlib.Core.Bool.{Bool, true, false, cond}
use mathlib.Core.Path.{◌≡◌, refl, ap, sym, subst}
use mathlib.Core.List.{List, [], ◌∷◌, ◌++◌}
use mathlib.Core.Option.{Option, none, some}
use native.Mathlib.Omega.{arith}
use lib.Dec.{leb}
use borrow.Author.Tests.{leb-true, leb-false}
use Rattle.junior.specs.Configuration.{Config, Env, unknown}
use Rattle.junior.specs.Term.{Term}
use Rattle.junior.specs.Trace.{Place, Act, did_atom, did_generate, did_park, decided, waits, scope_answered}
use Rattle.junior.specs.Rules.{Allowed, Result, Rewrites}
use Rattle.junior.specs.Waited.{Wait, waits_for, first_wait}
use Rattle.junior.specs.L1.{Named, WaitFrom, FirstSuspended}
use Rattle.junior.proofs.Flow.{flow}
use Rattle.junior.proofs.Lacking.{one_is_named}
use Rattle.junior.proofs.Waits.{earlier}

-- every test that waits in these acts was found unknown
unfoldable Unknown-in : List Act → Type 0
Unknown-in [] = Unit {0}
Unknown-in (did_atom a ∷ l) = Unknown-in l
Unknown-in (did_generate s ∷ l) = Unknown-in l
Unknown-in (did_park x ∷ l) = Unknown-in l
Unknown-in (decided P c b E ∷ l) = Unknown-in l
Unknown-in (waits P c E ∷ l) = unknown c E × Unknown-in l
Unknown-in (scope_answered n α b ∷ l) = Unknown-in l

unknown-++ : (l k : List Act) → Unknown-in l → Unknown-in k → Unknown-in (l ++ k)
unfolding Unknown-in
unknown-++ [] k a b = b
unknown-++ (did_atom n ∷ l) k a b = unknown-++ l k a b
unknown-++ (did_generate s ∷ l) k a b = unknown-++ l k a b
unknown-++ (did_park x ∷ l) k a b = unknown-++ l k a b
unknown-++ (decided P c x E ∷ l) k a b = unknown-++ l k a b
unknown-++ (waits P c E ∷ l) k a b = (a.0, unknown-++ l k a.1 b)
unknown-++ (scope_answered n α x ∷ l) k a b = unknown-++ l k a b

waits_unknown : {free : Allowed} {P : Place} {t : Term} {E : Env} {r : Result} → Rewrites free P t E r → Unknown-in r.acts
unfolding Unknown-in
waits_unknown d =
    flow
    (λ E F l. Unknown-in l)
    (record {
      none = tt;
      acted = tt;
      raised = tt;
      parked = tt;
      read = λ v. tt;
      waited = λ v. (v, tt);
      chained = λ {E} {F} {G} {l} {k} a b. unknown-++ l k a b;
      scoped = λ {E} {F} {l} b s n α a. unknown-++ l _ a tt;
    })
    d

wait_from : (m n : ℕ) (l : List Act) → m ≤ n → WaitFrom n l → WaitFrom m l
unfolding WaitFrom
wait_from m n [] h a = tt
wait_from m n (did_atom x ∷ l) h a = wait_from m n l h a
wait_from m n (did_generate s ∷ l) h a = wait_from m n l h a
wait_from m n (did_park x ∷ l) h a = wait_from m n l h a
wait_from m n (decided P c b E ∷ l) h a = wait_from m n l h a
wait_from m n (waits P c E ∷ l) h a = (omega arith, wait_from m n l h a.1)
wait_from m n (scope_answered x α b ∷ l) h a = wait_from m n l h a

-- none waits, or this one is the first
abbrev First : List Act → Option Wait → Type 0
First l none = (n : ℕ) → WaitFrom n l
First l (some w) = FirstSuspended l w

-- with an act before them that is no test, or whose test stands further on
module _ (x : Act) (l : List Act) where
  after : (w : Wait) (a : FirstSuspended l w) → WaitFrom w.node (x ∷ l) → FirstSuspended (x ∷ l) w
  after w a f =
      record {
        earlier = x ∷ a.earlier;
        later = a.later;
        place = a.place;
        test = a.test;
        read_in = a.read_in;
        suspended = ap (λ k. x ∷ k) a.suspended;
        node_is = a.node_is;
        event_is = a.event_is;
        first = f;
      }

  passed : ((n : ℕ) → WaitFrom n l → WaitFrom n (x ∷ l)) → (o : Option Wait) → First l o → First (x ∷ l) o
  passed f none a = λ n. f n (a n)
  passed f (some w) a = after w a (f w.node a.first)

found_here : (P : Place) (c : Config) (E : Env) (l : List Act) (e : ℕ) → Named c E.now e → WaitFrom P.node l
    → FirstSuspended (waits P c E ∷ l) (record { node = P.node; event = e })
unfolding WaitFrom
found_here P c E l e n f =
    record {
      earlier = [];
      later = l;
      place = P;
      test = c;
      read_in = E;
      suspended = refl;
      node_is = refl;
      event_is = n;
      first = (omega arith, f);
    }

first_among : (l : List Act) → Unknown-in l → First l (first_wait l)
unfolding Unknown-in first_wait WaitFrom
first_among [] u = λ n. tt
first_among (did_atom a ∷ l) u = passed (did_atom a) l (λ n x. x) (first_wait l) (first_among l u)
first_among (did_generate s ∷ l) u = passed (did_generate s) l (λ n x. x) (first_wait l) (first_among l u)
first_among (did_park y ∷ l) u = passed (did_park y) l (λ n x. x) (first_wait l) (first_among l u)
first_among (decided P c b E ∷ l) u = passed (decided P c b E) l (λ n x. x) (first_wait l) (first_among l u)
first_among (waits P c E ∷ l) u =
    let (e, n) = one_is_named c E u.0 in
    subst (λ o. First (waits P c E ∷ l) (earlier (waits_for P.node o) (first_wait l))) (sym n.name)
    (go e n (first_wait l) (first_among l u.1))
  where
    go : (e : ℕ) → Named c E.now e → (o : Option Wait) → First l o
        → First (waits P c E ∷ l) (earlier (some (record { node = P.node; event = e })) o)
    go e n none a = found_here P c E l e n (a P.node)
    go e n (some w) a = choose (leb P.node w.node) refl
      where
        choose : (q : Bool) → leb P.node w.node ≡ q
            → FirstSuspended (waits P c E ∷ l) (cond q (record { node = P.node; event = e }) w)
        choose true q = found_here P c E l e n (wait_from P.node w.node l (leb-true P.node w.node q) a.first)
        choose false q =
            let before = leb-false P.node w.node q in
            after (waits P c E) l w a (omega arith, a.first)
first_among (scope_answered n α b ∷ l) u = passed (scope_answered n α b) l (λ n x. x) (first_wait l) (first_among l u)

pub first_suspended : {free : Allowed} {P : Place} {t : Term} {E : Env} {r : Result} → Rewrites free P t E r → (w : Wait)
    → first_wait r.acts ≡ some w
    → FirstSuspended r.acts w
first_suspended {r = r} d w h = subst (First r.acts) h (first_among r.acts (waits_unknown d))
