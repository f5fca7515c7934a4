-- Reading a configuration: `fixed` and `eval` together are three-valued logic; a verdict once given stays where no event's changes but from
-- unknown, so it holds of every set of events that the instant can still end with; once the end is declared every configuration has one;
-- before it only one that can be early.
use Prim.Native.Nat.{ℕ}
use mathlib.Core.Bool.{Bool, true, false, not, ◌&&◌, ◌||◌, or-true}
use mathlib.Core.Path.{◌≡◌, refl, ap, sym, ◌∙◌, subst}
use mathlib.Core.Logic.{◌≢◌}
use native.Mathlib.Omega.{arith}
use Rattle.events.specs.Events.{Events}
use Rattle.junior.specs.declared.Verdict.{Verdict}
use Rattle.junior.specs.declared.Verdict.TheVariants.{Sat, Unsat, Unknown}
use Rattle.junior.specs.Configuration.{Env, declared_end, handed_in, Config, Event, Not, And, Or, eval, fixed}
use Rattle.junior.specs.Configuration.{verdict, test, early_true, early_false}
use Rattle.junior.specs.Course.{◌⊆◌}

-- the tables of three-valued logic
abbrev pub not₃ : Verdict → Verdict
not₃ Sat = Unsat
not₃ Unsat = Sat
not₃ Unknown = Unknown

abbrev pub and₃ : Verdict → Verdict → Verdict
and₃ Sat v = v
and₃ Unsat v = Unsat
and₃ Unknown Sat = Unknown
and₃ Unknown Unsat = Unsat
and₃ Unknown Unknown = Unknown

abbrev pub or₃ : Verdict → Verdict → Verdict
or₃ Sat v = Sat
or₃ Unsat v = v
or₃ Unknown Sat = Sat
or₃ Unknown Unsat = Unknown
or₃ Unknown Unknown = Unknown

verdict_not : (f a : Bool) → verdict f (not a) ≡ not₃ (verdict f a)
verdict_not true true = refl
verdict_not true false = refl
verdict_not false a = refl

verdict_and : (f g a b : Bool)
    → verdict (((f && g) || (f && not a)) || (g && not b)) (a && b) ≡ and₃ (verdict f a) (verdict g b)
verdict_and true true true b = refl
verdict_and true true false b = refl
verdict_and true false true b = refl
verdict_and true false false b = refl
verdict_and false true a true = refl
verdict_and false true true false = refl
verdict_and false true false false = refl
verdict_and false false a b = refl

verdict_or : (f g a b : Bool) → verdict (((f && g) || (f && a)) || (g && b)) (a || b) ≡ or₃ (verdict f a) (verdict g b)
verdict_or true true true b = refl
verdict_or true true false b = refl
verdict_or true false true b = refl
verdict_or true false false b = refl
verdict_or false true true true = refl
verdict_or false true false true = refl
verdict_or false true a false = refl
verdict_or false false a b = refl

pub test_event : (s : ℕ) (E : Env) → test (Event s) E ≡ verdict (E.now s || E.eoi) (E.now s)
unfolding test fixed eval
test_event s E = refl

pub test_not : (c : Config) (E : Env) → test (Not c) E ≡ not₃ (test c E)
unfolding test fixed eval
test_not c E = verdict_not (fixed c E) (eval c E.now)

pub test_and : (c d : Config) (E : Env) → test (And c d) E ≡ and₃ (test c E) (test d E)
unfolding test fixed eval
test_and c d E = verdict_and (fixed c E) (fixed d E) (eval c E.now) (eval d E.now)

pub test_or : (c d : Config) (E : Env) → test (Or c d) E ≡ or₃ (test c E) (test d E)
unfolding test fixed eval
test_or c d E = verdict_or (fixed c E) (fixed d E) (eval c E.now) (eval d E.now)

-- a verdict that is given stays, an unknown one may become any
abbrev pub Keeps : Verdict → Verdict → Type 0
Keeps Sat v = v ≡ Sat
Keeps Unsat v = v ≡ Unsat
Keeps Unknown v = Unit {0}

keeps_not : (u v : Verdict) → Keeps u v → Keeps (not₃ u) (not₃ v)
keeps_not Sat v h = ap not₃ h
keeps_not Unsat v h = ap not₃ h
keeps_not Unknown v h = tt

and_unsat : (v : Verdict) → and₃ v Unsat ≡ Unsat
and_unsat Sat = refl
and_unsat Unsat = refl
and_unsat Unknown = refl

or_sat : (v : Verdict) → or₃ v Sat ≡ Sat
or_sat Sat = refl
or_sat Unsat = refl
or_sat Unknown = refl

keeps_and : (u v u' v' : Verdict) → Keeps u u' → Keeps v v' → Keeps (and₃ u v) (and₃ u' v')
keeps_and Sat v u' v' h k = rw h k
keeps_and Unsat v u' v' h k = rw h
keeps_and Unknown Sat u' v' h k = tt
keeps_and Unknown Unsat u' v' h k = rw k (and_unsat u')
keeps_and Unknown Unknown u' v' h k = tt

keeps_or : (u v u' v' : Verdict) → Keeps u u' → Keeps v v' → Keeps (or₃ u v) (or₃ u' v')
keeps_or Sat v u' v' h k = rw h
keeps_or Unsat v u' v' h k = rw h k
keeps_or Unknown Sat u' v' h k = rw k (or_sat u')
keeps_or Unknown Unsat u' v' h k = tt
keeps_or Unknown Unknown u' v' h k = tt

-- where the events' verdicts stay, a configuration's does
pub keeps : (c : Config) (E F : Env) → ((s : ℕ) → Keeps (test (Event s) E) (test (Event s) F)) → Keeps (test c E) (test c F)
keeps (Event s) E F h = h s
keeps (Not c) E F h = rw (test_not c E, test_not c F) (keeps_not (test c E) (test c F) (keeps c E F h))
keeps (And c d) E F h =
    rw (test_and c d E, test_and c d F) (
    keeps_and (test c E) (test d E) (test c F) (test d F) (keeps c E F h) (keeps d E F h)
    )
keeps (Or c d) E F h =
    rw (test_or c d E, test_or c d F) (
    keeps_or (test c E) (test d E) (test c F) (test d F) (keeps c E F h) (keeps d E F h)
    )

stays_decided : (b : Bool) (v : Verdict) → Keeps (verdict true b) v → v ≡ verdict true b
stays_decided true v h = h
stays_decided false v h = h

fixed_at_end : (c : Config) (E : Env) → E.eoi ≡ true → fixed c E ≡ true
unfolding fixed
fixed_at_end (Event s) E e = rw e (or-true (E.now s))
fixed_at_end (Not c) E e = fixed_at_end c E e
fixed_at_end (And c d) E e = rw (fixed_at_end c E e, fixed_at_end d E e)
fixed_at_end (Or c d) E e = rw (fixed_at_end c E e, fixed_at_end d E e)

-- once the end is declared a test is sat or unsat, by its value
pub test_at_end : (c : Config) (E : Env) → E.eoi ≡ true → test c E ≡ verdict true (eval c E.now)
unfolding test
test_at_end c E e = rw (fixed_at_end c E e)

-- X can still come of E: it differs from E's events only in those that aren't fixed
abbrev pub CanCome : Env → Events → Type 0
CanCome E X = (s : ℕ) → Keeps (test (Event s) E) (verdict true (X s))

same_value : (a b : Bool) → verdict true a ≡ verdict true b → a ≡ b
same_value true true h = refl
same_value true false h = cc
same_value false true h = cc
same_value false false h = refl

-- a test found sat (b = true) or unsat (b = false) has that value later too
pub lasts : (c : Config) (E : Env) (X : Events) {b : Bool} → test c E ≡ verdict true b → CanCome E X → eval c X ≡ b
unfolding eval
lasts c E X {b} t h =
    let end = declared_end (handed_in X) in
    let k = keeps c E end (λ s. rw (test_at_end (Event s) end refl) (h s)) in
    same_value (eval c X) b (sym (test_at_end c end refl) ∙ stays_decided b (test c end) (rw t at k))

-- before the end, every larger set can come
pub larger : (E : Env) (X : Events) → E.eoi ≡ false → E.now ⊆ X → CanCome E X
larger E X e h s = rw (test_event s E, e) (go (E.now s) (h s))
  where
    go : (b : Bool) → (b ≡ true → X s ≡ true) → Keeps (verdict (b || false) b) (verdict true (X s))
    go true k = ap (verdict true) (k refl)
    go false k = tt

-- the events as they are can come, before the end and at it
pub as_it_is : (E : Env) → CanCome E E.now
as_it_is E s = rw (test_event s E) (go (E.now s) E.eoi)
  where
    go : (b e : Bool) → Keeps (verdict (b || e) b) (verdict true b)
    go true e = refl
    go false true = refl
    go false false = tt

-- a test decided before the end is decided so in every larger set, before the end too
pub decided_before : (c : Config) (E : Env) (X : Events) (b : Bool)
    → test c E ≡ verdict true b
    → E.eoi ≡ false
    → E.now ⊆ X
    → test c (handed_in X) ≡ verdict true b
decided_before c E X b t e h =
    stays_decided b (test c (handed_in X)) (
    subst (λ v. Keeps v (test c (handed_in X))) t (
    keeps c E (handed_in X) (λ s. rw (test_event s E, test_event s (handed_in X), e) (go s (E.now s) (h s)))
    )
    )
  where
    go : (s : ℕ) (b : Bool) → (b ≡ true → X s ≡ true) → Keeps (verdict (b || false) b) (verdict (X s || false) (X s))
    go s true k = ap (λ x. verdict (x || false) x) (k refl)
    go s false k = tt

decided≢Unknown : (b : Bool) → verdict true b ≢ Unknown
decided≢Unknown true h = let z : ◌≡◌ {A = ℕ} 0 1 = cc in omega arith
decided≢Unknown false h = let z : ◌≡◌ {A = ℕ} 0 1 = cc in omega arith

-- a test that is unknown was so before the end
pub unknown_before : (c : Config) (E : Env) → test c E ≡ Unknown → test c (handed_in E.now) ≡ Unknown
unknown_before c E t =
    known (test c (handed_in E.now)) (
    subst (Keeps (test c (handed_in E.now))) t (
    keeps c (handed_in E.now) E (λ s. rw (test_event s (handed_in E.now), test_event s E) (go (E.now s) E.eoi))
    )
    )
  where
    go : (b e : Bool) → Keeps (verdict (b || false) b) (verdict (b || e) b)
    go true e = refl
    go false e = tt

    known : (v : Verdict) → Keeps v Unknown → v ≡ Unknown
    known Sat h = sym h
    known Unsat h = sym h
    known Unknown h = refl

pub known_at_end : (c : Config) (E : Env) → E.eoi ≡ true → test c E ≢ Unknown
known_at_end c E e h = decided≢Unknown (eval c E.now) (sym (test_at_end c E e) ∙ h)

pub known_present : (s : ℕ) (E : Env) → E.now s ≡ true → test (Event s) E ≢ Unknown
known_present s E p h = decided≢Unknown true (rw (test_event s E, p) at h)

pub present : (s : ℕ) (E : Env) → test (Event s) E ≡ Sat → E.now s ≡ true
unfolding eval
present s E v = lasts (Event s) E E.now v (as_it_is E)

pub absent : (s : ℕ) (E : Env) → test (Event s) E ≡ Unsat → E.now s ≡ false
unfolding eval
absent s E v = lasts (Event s) E E.now v (as_it_is E)

-- one event is found unsat only once the end is declared, and unknown only before, while it isn't present
pub unsat_at_end : (s : ℕ) (E : Env) → test (Event s) E ≡ Unsat → E.eoi ≡ true
unsat_at_end s E v = go (E.now s) E.eoi (rw (test_event s E) at v)
  where
    go : (b e : Bool) → verdict (b || e) b ≡ Unsat → e ≡ true
    go true e h = cc
    go false true h = refl
    go false false h = cc

pub not_yet : (s : ℕ) (E : Env) → test (Event s) E ≡ Unknown → (E.now s ≡ false) × (E.eoi ≡ false)
not_yet s E v = go (E.now s) E.eoi (rw (test_event s E) at v)
  where
    go : (b e : Bool) → verdict (b || e) b ≡ Unknown → (b ≡ false) × (e ≡ false)
    go true e h = (cc, cc)
    go false true h = (cc, cc)
    go false false h = (refl, refl)

-- a verdict that a configuration can have early, true and false being possible so
abbrev Early : Bool → Bool → Verdict → Type 0
Early can_true can_false Sat = can_true ≡ true
Early can_true can_false Unsat = can_false ≡ true
Early can_true can_false Unknown = Unit {0}

early_not : (v : Verdict) (a b : Bool) → Early a b v → Early b a (not₃ v)
early_not Sat a b h = h
early_not Unsat a b h = h
early_not Unknown a b h = tt

early_and : (u v : Verdict) (a b c d : Bool) → Early a b u → Early c d v → Early (a && c) (b || d) (and₃ u v)
early_and Sat Sat a b c d h k = rw (h, k)
early_and Sat Unsat a b c d h k = rw k (or-true b)
early_and Sat Unknown a b c d h k = tt
early_and Unsat v a b c d h k = rw h
early_and Unknown Sat a b c d h k = tt
early_and Unknown Unsat a b c d h k = rw k (or-true b)
early_and Unknown Unknown a b c d h k = tt

early_or : (u v : Verdict) (a b c d : Bool) → Early a b u → Early c d v → Early (a || c) (b && d) (or₃ u v)
early_or Sat v a b c d h k = rw h
early_or Unsat Sat a b c d h k = rw k (or-true a)
early_or Unsat Unsat a b c d h k = rw (h, k)
early_or Unsat Unknown a b c d h k = tt
early_or Unknown Sat a b c d h k = rw k (or-true a)
early_or Unknown Unsat a b c d h k = tt
early_or Unknown Unknown a b c d h k = tt

read_early : (c : Config) (E : Env) → E.eoi ≡ false → Early (early_true c) (early_false c) (test c E)
unfolding early_true early_false
read_early (Event s) E e = rw (test_event s E, e) (go (E.now s))
  where
    go : (b : Bool) → Early true false (verdict (b || false) b)
    go true = refl
    go false = tt
read_early (Not c) E e = rw (test_not c E) (early_not (test c E) (early_true c) (early_false c) (read_early c E e))
read_early (And c d) E e =
    rw
    (test_and c d E)
    (early_and (test c E) (test d E) (early_true c) (early_false c) (early_true d) (early_false d) (read_early c E e) (read_early d E e))
read_early (Or c d) E e =
    rw
    (test_or c d E)
    (early_or (test c E) (test d E) (early_true c) (early_false c) (early_true d) (early_false d) (read_early c E e) (read_early d E e))

-- read as sat before the end it can be early true, read as unsat early false
pub sat_early : (c : Config) (E : Env) → E.eoi ≡ false → test c E ≡ Sat → early_true c ≡ true
sat_early c E e h = rw h at (read_early c E e)

pub unsat_early : (c : Config) (E : Env) → E.eoi ≡ false → test c E ≡ Unsat → early_false c ≡ true
unsat_early c E e h = rw h at (read_early c E e)
