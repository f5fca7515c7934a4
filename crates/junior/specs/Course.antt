-- The course of an instant, pass by pass (demand 3): its event sets, and what it does once the end is declared.
use Rattle.std.specs.Prelude.{ℕ, true, ◌≡◌, List, [], ◌∷◌}
use Rattle.events.specs.Events.{Events}
use Rattle.junior.specs.declared.Flag.{Flag}
use Rattle.junior.specs.declared.Flag.TheVariants.{STOP}
use Rattle.junior.specs.Configuration.{Env}
use Rattle.junior.specs.Term.{Term}
use Rattle.junior.specs.Trace.{Act, atoms, generations}
use Rattle.junior.specs.Rules.{Allowed, Result}
use Rattle.junior.specs.Instant.{Instant, r47, r48, r49}

infix 20 ◌⊆◌
abbrev pub ◌⊆◌ : Events → Events → Type 0
X ⊆ Y = (s : ℕ) → X s ≡ true → Y s ≡ true

-- the event set as each pass leaves it, which is as the next begins with it
unfoldable pub event_sets : {free : Allowed} {t : Term} {E : Env} {n : ℕ} {r : Result} → Instant free t E n r → List Events
event_sets (r47 {r = r} d h) = r.env.now ∷ []
event_sets (r48 {r = r} d h m i) = r.env.now ∷ event_sets i
event_sets (r49 {r = r} d h m i) = r.env.now ∷ event_sets i

-- X within the first of them, and each within the next
unfoldable pub Rising : Events → List Events → Type 0
Rising X [] = Unit {0}
Rising X (Y ∷ l) = (X ⊆ Y) × Rising Y l

-- stopping, with no atom done and no event generated
pub record Idle (α : Flag) (l : List Act) : Type 0 where
  pub stops : α ≡ STOP
  pub no_atom : atoms l ≡ []
  pub no_event : generations l ≡ []

-- once the end is declared there is one more pass, and it is idle
unfoldable pub IdleOnceEnded : {free : Allowed} {t : Term} {E : Env} {n : ℕ} {r : Result} → Instant free t E n r → Type 0
IdleOnceEnded (r47 d h) = Unit {0}
IdleOnceEnded (r48 {n = n} {s = s} d h m i) = (n ≡ 1) × Idle s.flag s.acts
IdleOnceEnded (r49 d h m i) = IdleOnceEnded i
