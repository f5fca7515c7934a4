-- Decided tests and the finished events of a test (01, "Rules of a pass"; demand 3).
use Rattle.std.specs.Prelude.{ℕ, Bool, ◌≡◌, List, [], ◌∷◌}
use Rattle.std.proofs.Math.Option.{Option, none, some}
use Rattle.events.specs.Events.{Events, put, none as no_event}
use Rattle.junior.specs.declared.Flag.{Flag}
use Rattle.junior.specs.declared.Flag.TheVariants.{SUSP, STOP, TERM}
use Rattle.junior.specs.Configuration.{eval}
use Rattle.junior.specs.Trace.{Place, Act, did_atom, did_generate, did_park, decided, waits, scope_answered}

-- A body that answers STOP or TERM isn't run again in that activation and instant, one that answers SUSP is (`Activations`, law
-- `activations`): so an activation's last answer is the first other than SUSP. Here: the statuses of the events of all Locals, by node, at the
-- last answers in what is still to come.
abbrev pub last_status : Flag → ℕ → Bool → (ℕ → Bool) → (ℕ → Bool)
last_status SUSP n b later = later
last_status STOP n b later = put n b later
last_status TERM n b later = put n b later

unfoldable pub last_answers : List Act → (ℕ → Bool)
last_answers [] = no_event
last_answers (did_atom a ∷ l) = last_answers l
last_answers (did_generate s ∷ l) = last_answers l
last_answers (did_park x ∷ l) = last_answers l
last_answers (decided P c b E ∷ l) = last_answers l
last_answers (waits P c E ∷ l) = last_answers l
last_answers (scope_answered n α b ∷ l) = last_status α n b (last_answers l)

-- a test's finished events: the reported set, a local event's being its nearest scope's
abbrev pub by_scope : Bool → (ℕ → Bool) → Option ℕ → Bool
by_scope reported statuses none = reported
by_scope reported statuses (some n) = statuses n

abbrev pub finished : Events → (ℕ → Bool) → Place → Events
finished reported statuses P s = by_scope (reported s) statuses (P.scope s)

-- every test decided in these acts has the value that its finished events give it
unfoldable pub DecidedRight : Events → List Act → Type 0
DecidedRight F [] = Unit {0}
DecidedRight F (did_atom a ∷ l) = DecidedRight F l
DecidedRight F (did_generate s ∷ l) = DecidedRight F l
DecidedRight F (did_park x ∷ l) = DecidedRight F l
DecidedRight F (decided P c b E ∷ l) = (eval c (finished F (last_answers l) P) ≡ b) × DecidedRight F l
DecidedRight F (waits P c E ∷ l) = DecidedRight F l
DecidedRight F (scope_answered n α b ∷ l) = DecidedRight F l
