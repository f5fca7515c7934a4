-- Of a program whose loops' bodies stop, from every state at rest and for all events handed in, an instant exists; and every
-- instant ends within G + 2 passes.
use Prim.Native.Nat.{ℕ, zero, suc, ◌+◌, ◌≤◌}
use mathlib.Core.Bool.{Bool, true, false, ◌||◌, false≢true}
use mathlib.Core.Path.{◌≡◌, refl, ap, sym, ◌∙◌, subst}
use mathlib.Core.List.{List, [], ◌∷◌}
use native.Mathlib.Omega.{arith}
use lib.ListN.{length}
use Rattle.events.specs.Events.{Events}
use Rattle.junior.specs.declared.Flag.{Flag}
use Rattle.junior.specs.declared.Flag.TheVariants.{SUSP, STOP, TERM}
use Rattle.junior.specs.Configuration.{Env, declared_end, unmoved, handed_in}
use Rattle.junior.specs.Term.{Term, prog}
use Rattle.junior.specs.Trace.{Place, root, generations}
use Rattle.junior.specs.Rules.{Allowed, Result, Rewrites}
use Rattle.junior.specs.Instant.{Instant, r47, r48, r49}
use Rattle.junior.specs.Course.{IdleOnceEnded}
use Rattle.junior.specs.Figures.{LoopsStop, per, G}
use Rattle.junior.specs.AtRest.{AtRest}
use Rattle.junior.specs.Inside.{Going, Remains, pot}
use Rattle.junior.proofs.Little.{STOP≢SUSP, TERM≢SUSP}
use Rattle.junior.proofs.Kept.{kept}
use Rattle.junior.proofs.Grows.{any, moves}
use Rattle.junior.proofs.Going.{rest_going, stands}
use Rattle.junior.proofs.End.{ended, idle_once_ended}
use Rattle.junior.proofs.Figures.{cost, cost-G, suspends, pot_at_rest}
use Rattle.junior.proofs.Exists.{pass_exists}

-- only a generation moves
moved : {free : Allowed} {P : Place} {t : Term} {E : Env} {r : Result}
    → Rewrites free P t E r
    → E.move ≡ false
    → r.env.move ≡ true
    → 1 ≤ cost (per 7) r.acts
moved {E = E} {r = r} d o m =
    rw (cost-G r.acts) (go (generations r.acts) (ap (λ b. b || any (generations r.acts)) (sym o) ∙ (sym (moves d) ∙ m)))
  where
    go : (l : List ℕ) → any l ≡ true → 1 ≤ length l
    go [] h = absurd (false≢true h)
    go (s ∷ l) h = omega arith

-- a pass after which another one runs before the end is declared uses up a generation
pub uses_up : {free : Allowed} {P : Place} {t : Term} {E : Env} {r : Result}
    → Rewrites free P t E r
    → LoopsStop (prog t)
    → E.move ≡ false
    → r.flag ≡ SUSP
    → r.env.move ≡ true
    → suc (pot (per 7) r.to) ≤ pot (per 7) t
uses_up d o e h m = omega (arith, suspends (per 7) d o h, moved d e m)

-- the passes that are left
pub passes_left : {free : Allowed} {t : Term} {E : Env} {n : ℕ} {r : Result}
    → Instant free t E n r
    → LoopsStop (prog t)
    → E.move ≡ false
    → n ≤ pot (per 7) t + 2
unfolding IdleOnceEnded
passes_left (r47 d h) o e = omega arith
passes_left (r48 d h m i) o e = let one = (idle_once_ended (r48 d h m i)).0 in omega arith
passes_left (r49 d h m i) o e = omega (arith, uses_up d o e h m, passes_left i (rw (kept d) o) refl)

pub within_passes : {free : Allowed} {t : Term} {X : Events} {n : ℕ} {r : Result}
    → Instant free t (handed_in X) n r
    → LoopsStop (prog t)
    → AtRest t
    → n ≤ G (prog t) + 2
within_passes {t = t} i o a = omega (arith, passes_left i o refl, pot_at_rest (per 7) t a)

-- a pass that suspends leaves a state in the middle of the instant
pub goes_on : {free : Allowed} {P : Place} {t : Term} {E : Env} {r : Result}
    → Rewrites free P t E r
    → Going E.now t
    → r.flag ≡ SUSP
    → Going r.env.now r.to
goes_on {r = r} d g h = subst (λ (α : Flag). Remains α r.env.now r.to) h (stands d g)

module _ (free : Allowed) where
  -- the instant's end from t in E
  abbrev pub Ends : Term → Env → Type 0
  Ends t E = (n : ℕ) × (r : Result) × Instant free t E n r

  -- one pass, and what follows from its answer; f is asked only if it moved
  unfoldable pub ends_by : (t : Term) (E : Env)
      → LoopsStop (prog t)
      → Going E.now t
      → ((r : Result) → Rewrites free root t E r → r.flag ≡ SUSP → r.env.move ≡ true → Ends r.to (unmoved r.env))
      → Ends t E
  ends_by t E o g f = let (r, d) = pass_exists free t o root E g in go r d r.flag refl r.env.move refl
    where
      go : (r : Result) → Rewrites free root t E r → (α : Flag) → r.flag ≡ α → (b : Bool) → r.env.move ≡ b → Ends t E
      go r d SUSP h false m =
          let (s, e) = pass_exists free r.to (rw (kept d) o) root (declared_end r.env) (goes_on d g h) in
          (2, _, r48 d h m (r47 e (ended e refl)))
      go r d SUSP h true m = let (n, s, i) = f r d h m in (suc n, _, r49 d h m i)
      go r d STOP h b m = (1, r, r47 d (rw h STOP≢SUSP))
      go r d TERM h b m = (1, r, r47 d (rw h TERM≢SUSP))

  -- by how many generations are left at most: the bound is never met
  unfoldable pub ends_within : (k : ℕ) (t : Term) (E : Env)
      → LoopsStop (prog t)
      → Going E.now t
      → E.move ≡ false
      → pot (per 7) t ≤ k
      → Ends t E
  ends_within zero t E o g e z = ends_by t E o g (λ r d h m. absurd (omega (arith, uses_up d o e h m)))
  ends_within (suc k) t E o g e z =
      ends_by t E o g (λ r d h m.
      ends_within k r.to (unmoved r.env) (rw (kept d) o) (goes_on d g h) refl (omega (arith, uses_up d o e h m)))

  unfoldable pub ends : (t : Term) → LoopsStop (prog t) → AtRest t → (X : Events) → Ends t (handed_in X)
  ends t o a X = ends_within (G (prog t)) t (handed_in X) o (rest_going X t a) refl (pot_at_rest (per 7) t a)

  pub instant_exists : (t : Term)
      → LoopsStop (prog t)
      → AtRest t
      → (X : Events)
      → (n : ℕ) × (r : Result) × Instant free t (handed_in X) n r × (n ≤ G (prog t) + 2)
  instant_exists t o a X = let (n, r, i) = ends t o a X in (n, r, i, within_passes i o a)
