-- Examples of what an instant reports: which test, and which event.
use Rattle.std.specs.Prelude.{ℕ, true, ◌≡◌, List, [], ◌∷◌}
use Rattle.std.proofs.Math.Option.{Option, none, some}
use Rattle.events.specs.Events.{Events, put, none as no_event}
use Rattle.junior.specs.Configuration.{Event, And, Or, handed_in}
use Rattle.junior.specs.Program.{Nothing, Seq, Par, Generate, Await, When, Until, Control, Local, Freezable, Atom, Stop}
use Rattle.junior.specs.Values.{zeros}
use Rattle.junior.specs.Term.{Term, fresh}
use Rattle.junior.specs.Rules.{left_first, Result}
use Rattle.junior.specs.Instant.{Instant}
use Rattle.junior.specs.Visits.{P}
use Rattle.junior.specs.Waited.{Wait, waits_for, waited}

-- from t the instants with these events handed in report this, each from the state that the one before left
pub data Reported : Term → List (Events × Option Wait) → Type 0 where
  no_more : {t : Term} → Reported t []
  next : {t : Term} {X : Events} {w : Option Wait} {n : ℕ} {r : Result} {l : List (Events × Option Wait)}
      (i : Instant (left_first zeros) t (handed_in X) n r)
      → waited i ≡ w
      → Reported r.to l
      → Reported t ((X, w) ∷ l)

abbrev pub with : List ℕ → Events
with [] = no_event
with (s ∷ l) = put s true (with l)

abbrev pub waits : ℕ → ℕ → Option Wait
waits node event = waits_for node (some event)

pub record WaitedSo : Type 0 where
  -- nodes 2 and 6 wait: the first; then the end isn't declared
  pub first_of_two : Reported (fresh P) ((with [], waits 2 0) ∷ (with (0 ∷ []), none) ∷ [])
  -- the lowest event that is mentioned and isn't present, also where it can't change the value any more
  pub lowest_absent :
      Reported (fresh (Await (And (Or (Event 0) (Event 1)) (Event 2)))) ((with (1 ∷ []), waits 0 0) ∷ (with (0 ∷ 1 ∷ []), waits 0 2) ∷ [])
  -- the local 0 is present for the test, the 0 handed in isn't
  pub local_present : Reported (fresh (Local 0 (Seq (Generate 0) (Await (And (Event 0) (Event 1)))))) ((with [], waits 3 1) ∷ [])
  pub local_absent : Reported (fresh (Local 0 (Await (Event 0)))) ((with (0 ∷ []), waits 1 0) ∷ [])
  -- a Control waits for its own event; with that present its body's test does
  pub of-Control : Reported (fresh (Control 2 (Await (Event 1)))) ((with [], waits 0 2) ∷ (with (2 ∷ []), waits 1 1) ∷ [])
  -- the When waits in the first pass, the Await in the last before the end
  pub last_pass : Reported (fresh (Par (When (Event 1) (Await (Event 0)) Nothing) (Generate 1))) ((with [], waits 2 0) ∷ [])
  -- an Until* waits at its Until's node
  pub of-Until : Reported (fresh (Until (Event 0) Stop (Atom 5))) ((with [], waits 0 0) ∷ [])
  -- and a Freezable* at its Freezable's (L8: "L1's tests .. include the pending form"), as long as its body isn't what waits; a body that has ended
  -- is never pending
  pub of-Freezable : Reported (fresh (Freezable 0 Stop)) ((with [], waits 0 0) ∷ (with (0 ∷ []), none) ∷ [])
  pub of_its_body : Reported (fresh (Freezable 0 (Await (Event 1)))) ((with (0 ∷ []), waits 1 1) ∷ (with [], none) ∷ [])
