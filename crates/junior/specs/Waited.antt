-- What the test waits for (request L1): of a configuration the event that it lacks, of an instant the test that held it up.
use Rattle.std.specs.Prelude.{ℕ, cond, ◌||◌, List, [], ◌∷◌, leb, eqb}
use Rattle.std.proofs.Math.Option.{Option, none, some}
use Rattle.events.specs.Events.{Events}
use Rattle.junior.specs.Configuration.{Config, Event, Not, And, Or, Env}
use Rattle.junior.specs.Term.{Term}
use Rattle.junior.specs.Trace.{Act, did_atom, did_generate, did_park, decided, waits, scope_answered}
use Rattle.junior.specs.Rules.{Allowed, Result}
use Rattle.junior.specs.Instant.{Instant, r47, r48, r49}

-- the events that a configuration mentions
unfoldable pub mentions : Config → Events
mentions (Event s) e = eqb e s
mentions (Not c) e = mentions c e
mentions (And c d) e = mentions c e || mentions d e
mentions (Or c d) e = mentions c e || mentions d e

-- of two that there may be, the one with the lower number
abbrev pub lower : {A : Type 0} → (A → ℕ) → Option A → Option A → Option A
lower number none y = y
lower number (some x) none = some x
lower number (some x) (some y) = some (cond (leb (number x) (number y)) x y)

-- "the lowest event it mentions that isn't present", X being those present: each event mentioned counts, also where it can't change the
-- value any more. Where the configuration is unknown, "one always exists" (law `one_is_named`).
unfoldable pub lacks : Config → Events → Option ℕ
lacks (Event s) X = cond (X s) none (some s)
lacks (Not c) X = lacks c X
lacks (And c d) X = lower (λ e. e) (lacks c X) (lacks d X)
lacks (Or c d) X = lower (λ e. e) (lacks c X) (lacks d X)

-- a test that waits, and the event that it waits for
pub record Wait : Type 0 where
  pub node : ℕ
  pub event : ℕ

abbrev pub waits_for : ℕ → Option ℕ → Option Wait
waits_for n none = none
waits_for n (some e) = some (record { node = n; event = e })

-- of the tests found unknown in these acts "the first suspended test in node order (Await, When, Until*, or Control for its own event) and
-- its event". "L1's tests .. include the pending form" of a Freezable (L8). An event is present or not as the test found it, a local one by its scope.
unfoldable pub first_wait : List Act → Option Wait
first_wait [] = none
first_wait (did_atom a ∷ l) = first_wait l
first_wait (did_generate s ∷ l) = first_wait l
first_wait (did_park x ∷ l) = first_wait l
first_wait (decided P c b E ∷ l) = first_wait l
first_wait (waits P c E ∷ l) = lower (λ w. w.node) (waits_for P.node (lacks c E.now)) (first_wait l)
first_wait (scope_answered n α b ∷ l) = first_wait l

-- what "the last pass before the end was declared" did: behind that pass rule 48 declares it. Nothing "if the end was never declared".
unfoldable pub before_the_end : {free : Allowed} {t : Term} {E : Env} {n : ℕ} {r : Result} → Instant free t E n r → List Act
before_the_end (r47 d h) = []
before_the_end (r48 {r = r} d h m i) = r.acts
before_the_end (r49 d h m i) = before_the_end i

-- what an instant reports
abbrev pub waited : {free : Allowed} {t : Term} {E : Env} {n : ℕ} {r : Result} → Instant free t E n r → Option Wait
waited i = first_wait (before_the_end i)
