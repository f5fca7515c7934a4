-- The event that a configuration lacks: it is the lowest of those that it mentions and that aren't present; where the configuration is
-- unknown there is one.
use Prim.Native.Nat.{ℕ, ◌<◌}
use mathlib.Core.Bool.{Bool, true, false, not, cond, ◌&&◌, ◌||◌, and-or_distrib_right, false≢true, or-true}
use mathlib.Core.Path.{◌≡◌, refl, ap, sym, subst, ◌∙◌}
use mathlib.Core.Logic.{◌≢◌}
use mathlib.Core.Option.{Option, none, some, get_or}
use native.Mathlib.Omega.{arith}
use lib.Dec.{leb, eqb}
use borrow.Author.Tests.{leb-true, leb-false, eqb-true, eq-eqb, ne_eqb, not-false}
use Rattle.events.specs.Events.{Events, lowest}
use Rattle.events.proofs.Events.{lowest_is}
use Rattle.junior.specs.declared.Verdict.{Verdict}
use Rattle.junior.specs.declared.Verdict.TheVariants.{Sat, Unsat, Unknown}
use Rattle.junior.specs.Configuration.{Config, Event, Not, And, Or, Env, test}
use Rattle.junior.specs.Waited.{mentions, lower, lacks}
use Rattle.junior.specs.L1.{Named}
use Rattle.junior.proofs.Verdicts.{not₃, and₃, or₃, test_not, test_and, test_or, known_present}
use Rattle.junior.proofs.Lower.{found, found_some, lower_found}

-- the events that a configuration mentions and that aren't present
abbrev pub missing : Config → Events → Events
missing c X e = mentions c e && not (X e)

-- the lowest of a set, if it has a member
abbrev pub Lowest : Events → Option ℕ → Type 0
Lowest Y none = (e : ℕ) → Y e ≡ false
Lowest Y (some e) = (Y e ≡ true) × ((k : ℕ) → k < e → Y k ≡ false)

neither_is : {a b : Bool} → a ≡ false → b ≡ false → (a || b) ≡ false
neither_is h k = rw (h, k)

lowest_either : (Y Z : Events) (a b : Option ℕ) → Lowest Y a → Lowest Z b → Lowest (λ e. Y e || Z e) (lower (λ e. e) a b)
lowest_either Y Z none none h k = λ e. neither_is (h e) (k e)
lowest_either Y Z none (some y) h k = (rw (h y) k.0, λ e l. neither_is (h e) (k.1 e l))
lowest_either Y Z (some x) none h k = (ap (λ b. b || Z x) h.0, λ e l. neither_is (h.1 e l) (k e))
lowest_either Y Z (some x) (some y) h k = go (leb x y) refl
  where
    go : (q : Bool) → leb x y ≡ q → Lowest (λ e. Y e || Z e) (some (cond q x y))
    go true q =
        let w = leb-true x y q in
        (ap (λ b. b || Z x) h.0, λ e l. neither_is (h.1 e l) (k.1 e (omega arith)))
    go false q =
        let w = leb-false x y q in
        (ap (λ b. Y y || b) k.0 ∙ or-true (Y y), λ e l. neither_is (h.1 e (omega arith)) (k.1 e l))

missing_either : (c d : Config) (X : Events) (e : ℕ)
    → ((mentions c e || mentions d e) && not (X e)) ≡ (missing c X e || missing d X e)
missing_either c d X e = and-or_distrib_right (mentions c e) (mentions d e) (not (X e))

lowest_same : {Y Z : Events} (o : Option ℕ) → ((e : ℕ) → Y e ≡ Z e) → Lowest Y o → Lowest Z o
lowest_same none s h = λ e. sym (s e) ∙ h e
lowest_same (some x) s h = (sym (s x) ∙ h.0, λ e l. sym (s e) ∙ h.1 e l)

pub lacks_lowest : (c : Config) (X : Events) → Lowest (missing c X) (lacks c X)
unfolding lacks mentions
lacks_lowest (Event s) X = go (X s) refl
  where
    go : (b : Bool) → X s ≡ b → Lowest (missing (Event s) X) (cond b none (some s))
    go true x = λ e. alone e (eqb e s) (eqb-true e s)
      where
        alone : (e : ℕ) (q : Bool) → (q ≡ true → e ≡ s) → (q && not (X e)) ≡ false
        alone e true h = rw (h refl, x)
        alone e false h = refl
    go false x = (rw (eq-eqb s s refl, x), λ e l. rw (ne_eqb e s (λ h. omega arith)))
lacks_lowest (Not c) X = lacks_lowest c X
lacks_lowest (And c d) X =
    lowest_same (lower (λ e. e) (lacks c X) (lacks d X)) (λ e. sym (missing_either c d X e))
    (lowest_either (missing c X) (missing d X) (lacks c X) (lacks d X) (lacks_lowest c X) (lacks_lowest d X))
lacks_lowest (Or c d) X =
    lowest_same (lower (λ e. e) (lacks c X) (lacks d X)) (λ e. sym (missing_either c d X e))
    (lowest_either (missing c X) (missing d X) (lacks c X) (lacks d X) (lacks_lowest c X) (lacks_lowest d X))

both_true : (a b : Bool) → (a && not b) ≡ true → (a ≡ true) × (b ≡ false)
both_true true true h = absurd (false≢true h)
both_true true false h = (refl, refl)
both_true false b h = absurd (false≢true h)

-- what it names is mentioned, and absent, and the lowest such
pub named : (c : Config) (X : Events) (e : ℕ) → lacks c X ≡ some e → Named c X e
named c X e h =
    let (there, below) = subst (Lowest (missing c X)) h (lacks_lowest c X) in
    let (m, a) = both_true (mentions c e) (X e) there in
    record {
      name = h;
      mentioned = m;
      absent = a;
      lowest = λ k l o. not-false (X k) (sym (ap (λ b. b && not (X k)) o) ∙ below k l);
    }

-- below any bound of what is mentioned it is the lowest that is missing, and the bound itself where none is
pub lacks_below : (c : Config) (X : Events) (n : ℕ) → ((e : ℕ) → mentions c e ≡ true → e < n)
    → get_or (lacks c X) n ≡ lowest n (missing c X)
lacks_below c X n h = go (lacks c X) (lacks_lowest c X)
  where
    go : (o : Option ℕ) → Lowest (missing c X) o → get_or o n ≡ lowest n (missing c X)
    go none k = lowest_is n n (missing c X) (omega arith) (λ e l. k e) (λ l. absurd (omega arith))
    go (some e) k =
        let l = h e (both_true (mentions c e) (X e) k.0).0 in
        lowest_is n e (missing c X) (omega arith) k.1 (λ x. k.0)

-- "one always exists": a configuration without a lacking event is sat or unsat
not_known : (v : Verdict) → not₃ v ≡ Unknown → v ≡ Unknown
not_known Sat h = cc
not_known Unsat h = cc
not_known Unknown h = refl

and_found : (u v : Verdict) (a b : Bool) → (u ≡ Unknown → a ≡ true) → (v ≡ Unknown → b ≡ true) → and₃ u v ≡ Unknown → (a || b) ≡ true
and_found Sat v a b f g h = ap (λ x. a || x) (g h) ∙ or-true a
and_found Unsat v a b f g h = cc
and_found Unknown v a b f g h = ap (λ x. x || b) (f refl)

or_found : (u v : Verdict) (a b : Bool) → (u ≡ Unknown → a ≡ true) → (v ≡ Unknown → b ≡ true) → or₃ u v ≡ Unknown → (a || b) ≡ true
or_found Sat v a b f g h = cc
or_found Unsat v a b f g h = ap (λ x. a || x) (g h) ∙ or-true a
or_found Unknown v a b f g h = ap (λ x. x || b) (f refl)

pub lacks_found : (c : Config) (E : Env) → test c E ≡ Unknown → found (lacks c E.now) ≡ true
unfolding lacks
lacks_found (Event s) E h = go (E.now s) (λ x. known_present s E x h)
  where
    go : (b : Bool) → b ≢ true → found (cond b none (some s)) ≡ true
    go true n = absurd (n refl)
    go false n = refl
lacks_found (Not c) E h = lacks_found c E (not_known (test c E) (sym (test_not c E) ∙ h))
lacks_found (And c d) E h =
    lower_found (λ e. e) (lacks c E.now) (lacks d E.now)
    ∙ and_found (test c E) (test d E) _ _ (lacks_found c E) (lacks_found d E) (sym (test_and c d E) ∙ h)
lacks_found (Or c d) E h =
    lower_found (λ e. e) (lacks c E.now) (lacks d E.now)
    ∙ or_found (test c E) (test d E) _ _ (lacks_found c E) (lacks_found d E) (sym (test_or c d E) ∙ h)

pub one_is_named : (c : Config) (E : Env) → test c E ≡ Unknown → (e : ℕ) × Named c E.now e
one_is_named c E h =
    let (e, l) = found_some (lacks c E.now) (lacks_found c E h) in
    (e, named c E.now e l)
