-- What is finished, seen from the middle of an instant: events only come, and none any more once the end is declared.
use Prim.Native.Nat.{ℕ, suc, ◌≤◌, ◌<◌}
use mathlib.Core.Bool.{Bool, true, false, cond}
use mathlib.Core.Path.{◌≡◌, refl, sym, ap, subst, fun_ext, ◌∙◌}
use mathlib.Core.Logic.{◌≢◌}
use mathlib.Core.List.{List, ◌++◌}
use mathlib.Core.Option.{Option, none, some}
use native.Mathlib.Omega.{arith}
use lib.Dec.{eqb}
use borrow.Author.Tests.{eqb-true}
use Rattle.events.specs.Events.{Events, put}
use Rattle.junior.specs.declared.Flag.{Flag}
use Rattle.junior.specs.declared.Flag.TheVariants.{SUSP}
use Rattle.junior.specs.Configuration.{Config, Env, with_event, verdict, test, eval}
use Rattle.junior.specs.Term.{Term}
use Rattle.junior.specs.Trace.{Place, root, inside, Act}
use Rattle.junior.specs.Rules.{Allowed, Result, Rewrites}
use Rattle.junior.specs.Course.{◌⊆◌}
use Rattle.junior.specs.Decided.{last_status, last_answers, by_scope, finished}
use Rattle.junior.proofs.Verdicts.{CanCome, lasts, larger, as_it_is}
use Rattle.junior.proofs.Grows.{grows, end_kept, quiet_unchanged}
use Rattle.junior.proofs.Scopes.{status_own, status_elsewhere, between, elsewhere}

-- the scopes that a place names stand around it
pub record Around (P : Place) : Type 0 where
  pub above : (s n : ℕ) → P.scope s ≡ some n → n < P.node

pub around_root : Around root
around_root = record { above = λ s n e. let z : ◌≡◌ {A = ℕ} 0 1 = cc in omega arith }

-- a place further down in the same scopes
pub further : {P : Place} {n : ℕ} → P.node ≤ n → Around P → Around (record { node = n; scope = P.scope })
further h c = record { above = λ s n e. omega (arith, c.above s n e) }

pub around_body : {P : Place} (s : ℕ) → Around P → Around (inside s P)
around_body {P} s c = record { above = λ m n. go m n (eqb m s) }
  where
    go : (m n : ℕ) (q : Bool) → cond q (some P.node) (P.scope m) ≡ some n → n < suc P.node
    go m n true e = let z : P.node ≡ n = cc in omega arith
    go m n false e = omega (arith, c.above m n e)

finished_same : (F : Events) (σ τ : ℕ → Bool) {P : Place} → Around P
    → ((n : ℕ) → n < P.node → τ n ≡ σ n)
    → finished F τ P ≡ finished F σ P
finished_same F σ τ {P} c h = fun_ext (λ s. go s (P.scope s) (c.above s))
  where
    go : (s : ℕ) (o : Option ℕ) → ((n : ℕ) → o ≡ some n → n < P.node) → by_scope (F s) τ o ≡ by_scope (F s) σ o
    go s none k = refl
    go s (some n) k = h n (k n refl)

-- E's events come to X: these and perhaps more; once the end is declared nothing moves any more, and it is these
pub record Ahead (E : Env) (X : Events) : Type 0 where
  pub more : E.now ⊆ X
  pub same : E.eoi ≡ true → (E.move ≡ false) × (X ≡ E.now)

ahead_comes : (E : Env) (X : Events) → Ahead E X → CanCome E X
ahead_comes E X a = go E.eoi refl
  where
    go : (b : Bool) → E.eoi ≡ b → CanCome E X
    go true e = subst (CanCome E) (sym (a.same e).1) (as_it_is E)
    go false e = larger E X e a.more

-- so a test decided in E has its value in X
pub told : (c : Config) {E : Env} {X : Events} {b : Bool} → test c E ≡ verdict true b → Ahead E X → eval c X ≡ b
told c {E} {X} v a = lasts c E X v (ahead_comes E X a)

-- what is ahead after a pass is ahead before it
pub back : {free : Allowed} {P : Place} {t : Term} {E : Env} {r : Result} {X : Events} → Rewrites free P t E r
    → Ahead r.env X
    → Ahead E X
back d a =
    record {
      more = λ s h. a.more s (grows d s h);
      same = λ e.
          let (m, q) = a.same (end_kept d ∙ e) in
          (sym (ap (λ G. G.move) (quiet_unchanged d m)) ∙ m, q ∙ ap (λ G. G.now) (quiet_unchanged d m));
    }

-- the pass's own acts included, for they answer for no scope around it
pub earlier : {free : Allowed} {P : Place} {t : Term} {E : Env} {r : Result} (F : Events) (k : List Act)
    → Rewrites free P t E r
    → Around P
    → Ahead r.env (finished F (last_answers k) P)
    → Ahead E (finished F (last_answers (r.acts ++ k)) P)
earlier {r = r} F k d c a =
    let e = finished_same F _ (last_answers (r.acts ++ k)) c (λ n h. elsewhere (between d) k n (omega arith)) in
    rw e (back d a)

-- in the Local at P of s whose body answered α in G: from what is ahead outside, what was ahead inside
pub ahead_inside : (F : Events) (α : Flag) {P : Place} (G : Env) (s : ℕ) (x : Bool) (σ : ℕ → Bool) → Around P
    → (G.eoi ≡ true → α ≢ SUSP)
    → (G.now s ≡ true → last_status α P.node (G.now s) σ P.node ≡ true)
    → Ahead (with_event s x G) (finished F σ P)
    → Ahead G (finished F (last_status α P.node (G.now s) σ) (inside s P))
unfolding put
ahead_inside F α {P} G s x σ c h o a =
    record {
      more = λ n. more n (eqb n s) (eqb-true n s) (a.more n);
      same = λ e. ((a.same e).0, fun_ext (λ n. same e n (eqb n s) (eqb-true n s) (ap (λ X. X n) (a.same e).1)));
    }
  where
    τ : ℕ → Bool
    τ = last_status α P.node (G.now s) σ

    outside : (n : ℕ) → finished F τ P n ≡ finished F σ P n
    outside n =
        ap (λ X. X n) (finished_same F σ τ c (λ m l. status_elsewhere α P.node m (G.now s) σ (omega arith)))

    more : (n : ℕ) (q : Bool) → (q ≡ true → n ≡ s) → (cond q x (G.now n) ≡ true → finished F σ P n ≡ true)
        → G.now n ≡ true
        → by_scope (F n) τ (cond q (some P.node) (P.scope n)) ≡ true
    more n true k f e = o (ap G.now (sym (k refl)) ∙ e)
    more n false k f e = outside n ∙ f e

    same : G.eoi ≡ true → (n : ℕ) (q : Bool) → (q ≡ true → n ≡ s) → finished F σ P n ≡ cond q x (G.now n)
        → by_scope (F n) τ (cond q (some P.node) (P.scope n)) ≡ G.now n
    same e n true k f = status_own α P.node (G.now s) σ (h e) ∙ ap G.now (sym (k refl))
    same e n false k f = outside n ∙ f
