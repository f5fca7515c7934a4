-- Events are only added, in a pass and from pass to pass, and only those generated. What a pass leaves of its environment: the end as it
-- was, `move` set exactly if an event was generated, and where none was, everything as it was.
use Prim.Native.Nat.{ℕ, suc}
use mathlib.Core.Bool.{Bool, true, false, cond, ◌||◌, or-false, or-true, or_assoc}
use mathlib.Core.Path.{◌≡◌, refl, ap, sym, ◌∙◌}
use mathlib.Core.List.{List, [], ◌∷◌, ◌++◌}
use lib.Dec.{eqb}
use lib.ListN.{length}
use borrow.Author.Tests.{eqb-true}
use Rattle.events.specs.Events.{Events, put}
use Rattle.junior.specs.Configuration.{Env, with_event}
use Rattle.junior.specs.Term.{Term}
use Rattle.junior.specs.Trace.{Place, Act, scope_answered, event_of, collect, generations}
use Rattle.junior.specs.Rules.{Allowed, Result, Rewrites}
use Rattle.junior.specs.Instant.{Instant, r47, r48, r49}
use Rattle.junior.specs.Course.{◌⊆◌, event_sets, Rising}
use Rattle.junior.proofs.Little.{neither, collect-++, collect_last, collect_none, put_back}
use Rattle.junior.proofs.Flow.{flow}

-- an event put outside stays as it is outside, whatever the body adds
put-⊆ : (s : ℕ) (b : Bool) (X Y : Events) → put s b X ⊆ Y → X ⊆ put s (X s) Y
unfolding put
put-⊆ s b X Y h n = go (eqb n s) (eqb-true n s) (h n)
  where
    go : (q : Bool) → (q ≡ true → n ≡ s) → (cond q b (X n) ≡ true → Y n ≡ true) → X n ≡ true → cond q (X s) (Y n) ≡ true
    go true e k x = ap X (sym (e refl)) ∙ x
    go false e k x = k x

put_true : (s : ℕ) (X : Events) → X ⊆ put s true X
unfolding put
put_true s X n h = go (eqb n s)
  where
    go : (q : Bool) → cond q true (X n) ≡ true
    go true = refl
    go false = h

-- whether a list has a member
abbrev pub any : List ℕ → Bool
any [] = false
any (s ∷ l) = true

any-++ : (l k : List ℕ) → any (l ++ k) ≡ (any l || any k)
any-++ [] k = refl
any-++ (s ∷ l) k = refl

any_none : (l : List ℕ) → any l ≡ false → l ≡ []
any_none [] h = refl
any_none (s ∷ l) h = cc

module _ {free : Allowed} {P : Place} {t : Term} {E : Env} {r : Result} where
  pub grows : Rewrites free P t E r → E.now ⊆ r.env.now
  grows d =
      flow
      (λ E F l. E.now ⊆ F.now)
      (record {
        none = λ s h. h;
        acted = λ s h. h;
        raised = λ {E} {s}. put_true s E.now;
        parked = λ s h. h;
        read = λ v s h. h;
        waited = λ v s h. h;
        chained = λ f g s h. g s (f s h);
        scoped = λ {E} {F} b s n α f. put-⊆ s b E.now F.now f;
      })
      d

  pub end_kept : Rewrites free P t E r → r.env.eoi ≡ E.eoi
  end_kept d =
      flow
      (λ E F l. F.eoi ≡ E.eoi)
      (record {
        none = refl;
        acted = refl;
        raised = refl;
        parked = refl;
        read = λ v. refl;
        waited = λ v. refl;
        chained = λ f g. g ∙ f;
        scoped = λ b s n α f. f;
      })
      d

  pub moves : Rewrites free P t E r → r.env.move ≡ (E.move || any (generations r.acts))
  unfolding collect
  moves d =
      flow
      (λ E F l. F.move ≡ (E.move || any (generations l)))
      (record {
        none = λ {E}. sym (or-false E.move);
        acted = λ {E}. sym (or-false E.move);
        raised = λ {E}. sym (or-true E.move);
        parked = λ {E}. sym (or-false E.move);
        read = λ {E} v. sym (or-false E.move);
        waited = λ {E} v. sym (or-false E.move);
        chained = λ {E} {F} {G} {l} {k} f g.
            rw (collect-++ event_of l k, any-++ (generations l) (generations k), ← or_assoc, ← f) g;
        scoped = λ {E} {F} {l} b s n α f. rw (collect_last event_of l (scope_answered n α (F.now s)) refl) f;
      })
      d

  pub unchanged : Rewrites free P t E r → generations r.acts ≡ [] → r.env ≡ E
  unfolding collect
  unchanged d =
      flow
      (λ E F l. generations l ≡ [] → F ≡ E)
      (record {
        none = λ q. refl;
        acted = λ q. refl;
        raised = λ q. cc;
        parked = λ q. refl;
        read = λ v q. refl;
        waited = λ v q. refl;
        chained = λ {E} {F} {G} {l} {k} f g q.
            let (a, b) = collect_none event_of l k q in g b ∙ f a;
        scoped = λ {E} {F} {l} b s n α f q.
            ap (with_event s (E.now s)) (f (sym (collect_last event_of l (scope_answered n α (F.now s)) refl) ∙ q))
            ∙ ap (λ X. record { now = X; eoi = E.eoi; move = E.move }) (put_back s b E.now);
      })
      d

  -- a pass that leaves `move` false generated nothing and left its environment as it was
  pub quiet : Rewrites free P t E r → r.env.move ≡ false → generations r.acts ≡ []
  quiet d h = any_none (generations r.acts) (neither E.move (any (generations r.acts)) (sym (moves d) ∙ h)).1

  pub quiet_unchanged : Rewrites free P t E r → r.env.move ≡ false → r.env ≡ E
  quiet_unchanged d h = unchanged d (quiet d h)

-- from pass to pass
pub rising : {free : Allowed} {t : Term} {E : Env} {n : ℕ} {r : Result} (i : Instant free t E n r)
    → Rising E.now (event_sets i)
unfolding event_sets Rising
rising (r47 d h) = (grows d, tt)
rising (r48 d h m i) = (grows d, rising i)
rising (r49 d h m i) = (grows d, rising i)

pub one_a_pass : {free : Allowed} {t : Term} {E : Env} {n : ℕ} {r : Result} (i : Instant free t E n r)
    → length (event_sets i) ≡ n
unfolding event_sets
one_a_pass (r47 d h) = refl
one_a_pass (r48 d h m i) = ap suc (one_a_pass i)
one_a_pass (r49 d h m i) = ap suc (one_a_pass i)

-- so what was handed in is reported
pub reported : {free : Allowed} {t : Term} {E : Env} {n : ℕ} {r : Result} → Instant free t E n r → E.now ⊆ r.env.now
reported (r47 d h) s e = grows d s e
reported (r48 d h m i) s e = reported i s (grows d s e)
reported (r49 d h m i) s e = reported i s (grows d s e)

-- No event is added but those generated: s is in a list
unfoldable pub among : ℕ → List ℕ → Bool
among s [] = false
among s (x ∷ l) = eqb s x || among s l

among-++ : (s : ℕ) (l k : List ℕ) → among s (l ++ k) ≡ (among s l || among s k)
unfolding among
among-++ s [] k = refl
among-++ s (x ∷ l) k = go (eqb s x) (among-++ s l k)
  where
    go : (b : Bool) → among s (l ++ k) ≡ (among s l || among s k) → (b || among s (l ++ k)) ≡ ((b || among s l) || among s k)
    go true e = refl
    go false e = e

generated_parts : (s : ℕ) (l k : List Act) → among s (generations (l ++ k)) ≡ false
    → (among s (generations l) ≡ false) × (among s (generations k) ≡ false)
generated_parts s l k e =
    neither
    (among s (generations l))
    (among s (generations k))
    (sym (among-++ s (generations l) (generations k)) ∙ (ap (among s) (sym (collect-++ event_of l k)) ∙ e))

pub only_generated : {free : Allowed} {P : Place} {t : Term} {E : Env} {r : Result} → Rewrites free P t E r → (s : ℕ)
    → among s (generations r.acts) ≡ false
    → E.now s ≡ false
    → r.env.now s ≡ false
unfolding collect among put
only_generated d s =
    flow
    (λ E F l. among s (generations l) ≡ false → E.now s ≡ false → F.now s ≡ false)
    (record {
      none = λ q h. h;
      acted = λ q h. h;
      raised = λ {E} {s = e} q h. rw (neither (eqb s e) false q).0 h;
      parked = λ q h. h;
      read = λ v q h. h;
      waited = λ v q h. h;
      chained = λ {E} {F} {G} {l} {k} f g q h.
          let (a, b) = generated_parts s l k q in g b (f a h);
      scoped = λ {E} {F} {l} b e n α f q h.
          put_out b e E F (f (ap (among s) (sym (collect_last event_of l (scope_answered n α (F.now e)) refl)) ∙ q)) h;
    })
    d
  where
    put_out : (b : Bool) (e : ℕ) (E F : Env) → (put e b E.now s ≡ false → F.now s ≡ false) → E.now s ≡ false
        → put e (E.now e) F.now s ≡ false
    put_out b e E F f h = go (eqb s e) refl f
      where
        go : (q : Bool) → eqb s e ≡ q → (cond q b (E.now s) ≡ false → F.now s ≡ false) → cond q (E.now e) (F.now s) ≡ false
        go true q f = rw (← eqb-true s e q) h
        go false q f = f h

pub only_generated_in_all : {free : Allowed} {t : Term} {E : Env} {n : ℕ} {r : Result} → Instant free t E n r → (s : ℕ)
    → among s (generations r.acts) ≡ false
    → E.now s ≡ false
    → r.env.now s ≡ false
only_generated_in_all (r47 d h) s q e = only_generated d s q e
only_generated_in_all (r48 {r = r} {s = u} d h m i) s q e =
    let (a, b) = generated_parts s r.acts u.acts q in
    only_generated_in_all i s b (only_generated d s a e)
only_generated_in_all (r49 {r = r} {s = u} d h m i) s q e =
    let (a, b) = generated_parts s r.acts u.acts q in
    only_generated_in_all i s b (only_generated d s a e)
