-- When a pass agrees with an outcome: the outcome is what the pass did, and then what the term that it leaves comes to. How agreement goes from
-- the parts of a node to the node, one law for each shape of rule; the two orders of a Par's branches have the same outcome, `join`.
use Prim.Native.Nat.{ℕ}
use mathlib.Core.Bool.{Bool, true, false, cond, ◌||◌, or-true}
use mathlib.Core.Path.{◌≡◌, refl, ap, sym, ◌∙◌, subst}
use mathlib.Core.Logic.{◌≢◌}
use mathlib.Core.List.{List, [], ◌∷◌, ◌++◌}
use mathlib.Core.Option.{Option}
use Rattle.events.specs.Events.{Events}
use Rattle.junior.specs.declared.Flag.{Flag}
use Rattle.junior.specs.declared.Flag.TheVariants.{SUSP, STOP, TERM}
use Rattle.junior.specs.Flags.{γ, δ₁, δ₂}
use Rattle.junior.specs.Configuration.{Config, Env, verdict, test}
use Rattle.junior.specs.Program.{Program}
use Rattle.junior.specs.Values.{Values}
use Rattle.junior.specs.Term.{Term, done, par, control, prog, leave}
use Rattle.junior.specs.Trace.{Place, first, second, Act, decided, waits, collect}
use Rattle.junior.specs.Rules.{Result, answers, under, after, joined}
use Rattle.junior.specs.Course.{◌⊆◌}
use Rattle.junior.specs.Waited.{Wait}
use Rattle.junior.specs.Order.{decides}
use Rattle.junior.proofs.Verdicts.{decided_before}
use Rattle.junior.proofs.Settle.{Out, idle, bind, around, once_ended, tested, reads, branch, join, settle}
use Rattle.junior.proofs.Settle.{bind_idle, says, steered}
use Rattle.junior.proofs.Fits.{Fits, Within, fits_same, fits_as, fits_then, fits_bind, fits_join, within_fits}
use Rattle.junior.proofs.Fits.{Alike, alike_same, alike_swapped, alike_nil, fits_says, fits_says_again}

-- what comes of the term that a pass leaves at P, which may have answered
abbrev pub left : Values → Place → Events → Result → Out
left value P X r = branch r.flag r.to (settle value P r.to X)

pub record Meets (value : Values) (P : Place) (X : Events) (r : Result) (o : Out) : Type 0 where
  pub below : r.env.now ⊆ X
  pub fits : Fits X r.acts o (left value P X r)

-- `Within` asks only about events that the pass has: a Local's first try, its event absent, may generate the event later
pub record Agrees (value : Values) (P : Place) (X : Events) (E : Env) (r : Result) (o : Out) : Type 0 where
  pub run : E.now ⊆ X → Within r.env.now X o → Meets value P X r o

-- the same, said of another outcome
pub comes_to : {value : Values} {P : Place} {X : Events} {E : Env} {r : Result} {o o' : Out}
    → (E.now ⊆ X → o ≡ o')
    → Agrees value P X E r o'
    → Agrees value P X E r o
comes_to {value} {P} {X} {E} {r} {o} {o'} e a = record {
  run = λ b w.
      subst (λ x. Meets value P X r x) (sym (e b)) (a.run b (subst (λ x. Within r.env.now X x) (e b) w));
}

-- a test decided in front
told : {value : Values} {P : Place} {X : Events} {E F : Env} {r : Result} {o : Out} {c : Config} {v : Bool}
    → Agrees value P X E r o
    → Agrees value P X E (after (decided P c v F ∷ []) r) (says P v o)
unfolding says
told a = record { run = λ b w. let m = a.run b w in record { below = m.below; fits = fits_says m.fits } }

-- a pass in which nothing is done
pub only_waits : {P : Place} {c : Config} {E : Env} → Alike [] (waits P c E ∷ [])
unfolding collect decides
only_waits = record { atoms_alike = λ a. refl; pieces_alike = λ v. refl; tests_alike = λ n b. refl }

pub stays : {value : Values} {P : Place} {X : Events} {E : Env} (α : Flag) (t : Term) {l : List Act}
    → Alike [] l
    → Agrees value P X E (answers α t E l) (branch α t (settle value P t X))
stays α t h = record { run = λ b w. record { below = b; fits = fits_same h } }

pub branch_idle : (α : Flag) (t : Term) (o : Out) → α ≢ SUSP → branch α t o ≡ idle α t
branch_idle SUSP t o h = absurd (h refl)
branch_idle STOP t o h = refl
branch_idle TERM t o h = refl

-- what generates nothing beyond X has no part that does
or_left : (a b : Bool) → a ≡ true → (a || b) ≡ true
or_left a b h = rw h

or_right : (a b : Bool) → b ≡ true → (a || b) ≡ true
or_right a b h = rw h (or-true a)

gens_left : (o p : Out) (n : ℕ) → o.gens n ≡ true → (join o p).gens n ≡ true
unfolding join
gens_left o p n e = or_left (o.gens n) (p.gens n) e

gens_right : (o p : Out) (n : ℕ) → p.gens n ≡ true → (join o p).gens n ≡ true
unfolding join
gens_right o p n e = or_right (o.gens n) (p.gens n) e

gens_first : (o : Out) (h : Flag → Term → Out) (n : ℕ) → o.gens n ≡ true → (bind o h).gens n ≡ true
unfolding bind
gens_first o h n e = or_left (o.gens n) ((h o.flag o.to).gens n) e

-- a node f at P around a part at Q, h saying what comes of the part's answer: that is f's own outcome
abbrev pub Around : Values → Place → Place → Events → (Term → Term) → (Flag → Term → Out) → Flag → Term → Type 0
Around value P Q X f h SUSP t = settle value P (f t) X ≡ bind (settle value Q t X) h
Around value P Q X f h STOP t = h STOP t ≡ idle STOP (f t)
Around value P Q X f h TERM t = h TERM t ≡ idle TERM (done (prog (f t)))

left_around : (value : Values) (P Q : Place) (X : Events) (f : Term → Term) (h : Flag → Term → Out) (α : Flag) (t : Term)
    → Around value P Q X f h α t
    → bind (branch α t (settle value Q t X)) h ≡ branch α (leave α (f t)) (settle value P (leave α (f t)) X)
unfolding leave
left_around value P Q X f h SUSP t e = sym e
left_around value P Q X f h STOP t e = bind_idle STOP t h ∙ e
left_around value P Q X f h TERM t e = bind_idle TERM t h ∙ e

pub runs_under : {value : Values} {P Q : Place} {X : Events} {E : Env} {r : Result} {o : Out} (f : Term → Term) (h : Flag → Term → Out)
    → Around value P Q X f h r.flag r.to
    → Agrees value Q X E r o
    → Agrees value P X E (under f r) (bind o h)
runs_under {value} {P} {Q} {X} {E} {r} {o} f h e a = record {
  run = λ b w.
      let m = a.run b (λ n y g. w n y (gens_first o h n g)) in
      record {
        below = m.below;
        fits = subst (λ x. Fits X r.acts (bind o h) x) (left_around value P Q X f h r.flag r.to e) (fits_bind h m.fits);
      };
}

-- a node that answers as its part, and one that goes on as k once its part has ended, which it hasn't
pub runs_in : {value : Values} {P Q : Place} {X : Events} {E : Env} {r : Result} {o : Out} (f : Term → Term)
    → settle value P (f r.to) X ≡ bind (settle value Q r.to X) (around f)
    → Agrees value Q X E r o
    → Agrees value P X E (under f r) (bind o (around f))
unfolding leave
runs_in {value} {P} {Q} {X} {E} {r} f e a = runs_under f (around f) (go r.flag r.to e) a
  where
    go : (α : Flag) (t : Term) → settle value P (f t) X ≡ bind (settle value Q t X) (around f) → Around value P Q X f (around f) α t
    go SUSP t e = e
    go STOP t e = refl
    go TERM t e = refl

pub runs_first : {value : Values} {P Q : Place} {X : Events} {E : Env} {r : Result} {o : Out} (f : Term → Term) (k : Out)
    → r.flag ≢ TERM
    → settle value P (f r.to) X ≡ bind (settle value Q r.to X) (once_ended f k)
    → Agrees value Q X E r o
    → Agrees value P X E (under f r) (bind o (once_ended f k))
runs_first {value} {P} {Q} {X} {E} {r} f k n e a = runs_under f (once_ended f k) (go r.flag r.to n e) a
  where
    go : (α : Flag) (t : Term)
        → α ≢ TERM
        → settle value P (f t) X ≡ bind (settle value Q t X) (once_ended f k)
        → Around value P Q X f (once_ended f k) α t
    go SUSP t n e = e
    go STOP t n e = refl
    go TERM t n e = absurd (n refl)

-- a part that has answered, and what follows in the same pass
pub runs_on : {value : Values} {P Q : Place} {X : Events} {E E' : Env} {α : Flag} {t : Term} {l : List Act} {r : Result} {o : Out}
    (h : Flag → Term → Out)
    → α ≢ SUSP
    → E'.now ⊆ r.env.now
    → Agrees value Q X E (answers α t E' l) o
    → Agrees value P X E' r (h α t)
    → Agrees value P X E (after l r) (bind o h)
runs_on {X = X} {α = α} {t} {l} {r} {o} h n g a a' = record {
  run = λ b w.
      let m = a.run b (λ n y e. w n (g n y) (gens_first o h n e)) in
      let f = subst (λ x. Fits X l (bind o h) x) (ap (λ x. bind x h) (branch_idle α t _ n) ∙ bind_idle α t h) (fits_bind h m.fits) in
      let m' = a'.run m.below (within_fits f w) in
      record { below = m'.below; fits = fits_then f m'.fits };
}

-- a decided test is so in X
pub reads_so : {value : Values} {P : Place} {X : Events} {E : Env} {r : Result} (c : Config) (b : Bool) (o p : Out) (w : Option Wait) (x : Bool) (t u : Term)
    → test c E ≡ verdict true b
    → E.eoi ≡ false
    → Agrees value P X E r (cond b o p)
    → Agrees value P X E (after (decided P c b E ∷ []) r) (tested P (reads c X) o p w x t u)
reads_so {value} {P} {X} {E} c b o p w x t u v e a =
    comes_to (λ h. ap (λ y. tested P y o p w x t u) (decided_before c E X b v e h) ∙ go b) (told a)
  where
    go : (b : Bool) → tested P (verdict true b) o p w x t u ≡ says P b (cond b o p)
    go true = refl
    go false = refl

-- the body of a Control whose event is present runs: the Control says so in every pass
left_steered : (value : Values) {P : Place} {X : Events} {E : Env} {l : List Act} {o : Out} {c : Config} (s : ℕ) (α : Flag) (t : Term)
    → X s ≡ true
    → Fits X l o (bind (branch α t (settle value (first P) t X)) (around (control s)))
    → Fits X (decided P c true E ∷ l) (says P true o) (branch α (leave α (control s t)) (settle value P (leave α (control s t)) X))
unfolding settle steered leave
left_steered value {P} {X} {E} {l} {o} {c} s SUSP t h f =
    subst (λ b. Fits X (decided P c true E ∷ l) (says P true o) (steered P b s t (settle value (first P) t X))) (sym h) (fits_says_again f)
left_steered value s STOP t h f = fits_says (rw (bind_idle STOP t (around (control s))) at f)
left_steered value s TERM t h f = fits_says (rw (bind_idle TERM t (around (control s))) at f)

pub runs_steered : {value : Values} {P : Place} {X : Events} {E : Env} {r : Result} {o : Out} {c : Config} (s : ℕ)
    → E.now s ≡ true
    → Agrees value (first P) X E r o
    → Agrees value P X E (after (decided P c true E ∷ []) (under (control s) r)) (says P true (bind o (around (control s))))
unfolding says
runs_steered {value} {r = r} {o} s e a = record {
  run = λ b w.
      let m = a.run b (λ n y g. w n y (gens_first o (around (control s)) n g)) in
      record {
        below = m.below;
        fits = left_steered value s r.flag r.to (b s e) (fits_bind (around (control s)) m.fits);
      };
}

-- the branches of a Par: what it leaves comes to the two together
left_joined : (value : Values) (P : Place) (X : Events) (α β : Flag) (t u : Term)
    → join (branch α t (settle value (first P) t X)) (branch β u (settle value (second P (prog t)) u X))
    ≡ branch (γ α β) (leave (γ α β) (par (δ₁ α β) (δ₂ α β) t u)) (settle value P (leave (γ α β) (par (δ₁ α β) (δ₂ α β) t u)) X)
unfolding join settle leave
left_joined value P X SUSP SUSP t u = refl
left_joined value P X SUSP STOP t u = refl
left_joined value P X SUSP TERM t u = refl
left_joined value P X STOP SUSP t u = refl
left_joined value P X STOP STOP t u = refl
left_joined value P X STOP TERM t u = refl
left_joined value P X TERM SUSP t u = refl
left_joined value P X TERM STOP t u = refl
left_joined value P X TERM TERM t u = refl

joins : {value : Values} {P : Place} {X : Events} {q : Program} (r s : Result) (E : Env) {k l m : List Act} {o p : Out}
    → prog r.to ≡ q
    → E.now ⊆ X
    → Alike (k ++ l) m
    → Fits X k o (left value (first P) X r)
    → Fits X l p (left value (second P q) X s)
    → Meets value P X (joined r.flag s.flag r.to s.to E m) (join o p)
joins {value} {P} {X} r s E {k} {l} {m} {o} {p} q b e f g =
    let g' = subst (λ x. Fits X l p (left value (second P x) X s)) (sym q) g in
    let rest = left_joined value P X r.flag s.flag r.to s.to in
    record { below = b; fits = subst (λ x. Fits X m (join o p) x) rest (fits_as e (fits_join f g')) }

-- rules 8 and 9, rules 10 and 11
pub runs_left_first : {value : Values} {P : Place} {X : Events} {E : Env} {q : Program} {r s : Result} {o p : Out}
    → prog r.to ≡ q
    → r.env.now ⊆ s.env.now
    → Agrees value (first P) X E r o
    → Agrees value (second P q) X r.env s p
    → Agrees value P X E (joined r.flag s.flag r.to s.to s.env (r.acts ++ s.acts)) (join o p)
runs_left_first {r = r} {s} {o} {p} q g a a' = record {
  run = λ b w.
      let m = a.run b (λ n y e. w n (g n y) (gens_left o p n e)) in
      let m' = a'.run m.below (λ n y e. w n y (gens_right o p n e)) in
      joins r s s.env q m'.below alike_same m.fits m'.fits;
}

pub runs_right_first : {value : Values} {P : Place} {X : Events} {E : Env} {q : Program} {r s : Result} {o p : Out}
    → prog r.to ≡ q
    → s.env.now ⊆ r.env.now
    → Agrees value (second P q) X E s p
    → Agrees value (first P) X s.env r o
    → Agrees value P X E (joined r.flag s.flag r.to s.to r.env (s.acts ++ r.acts)) (join o p)
runs_right_first {r = r} {s} {o} {p} q g a a' = record {
  run = λ b w.
      let m = a.run b (λ n y e. w n (g n y) (gens_right o p n e)) in
      let m' = a'.run m.below (λ n y e. w n y (gens_left o p n e)) in
      joins r s r.env q m'.below (alike_swapped r.acts s.acts) m'.fits m.fits;
}

pub runs_left : {value : Values} {P : Place} {X : Events} {E : Env} {q : Program} {r : Result} {o : Out} (β : Flag) (u : Term)
    → prog r.to ≡ q
    → Agrees value (first P) X E r o
    → Agrees value P X E (joined r.flag β r.to u r.env r.acts) (join o (branch β u (settle value (second P q) u X)))
runs_left {value} {P} {X} {E} {q} {r} {o} β u k a = record {
  run = λ b w.
      let m = a.run b (λ n y e. w n y (gens_left o (branch β u (settle value (second P q) u X)) n e)) in
      joins r (answers β u E []) r.env k m.below (alike_nil r.acts) m.fits (fits_same alike_same);
}

pub runs_right : {value : Values} {P : Place} {X : Events} {E : Env} {r : Result} {o : Out} (α : Flag) (t : Term)
    → Agrees value (second P (prog t)) X E r o
    → Agrees value P X E (joined α r.flag t r.to r.env r.acts) (join (branch α t (settle value (first P) t X)) o)
runs_right {value} {P} {X} {E} {r} {o} α t a = record {
  run = λ b w.
      let m = a.run b (λ n y e. w n y (gens_right (branch α t (settle value (first P) t X)) o n e)) in
      joins (answers α t E []) r r.env refl m.below alike_same (fits_same alike_same) m.fits;
}
