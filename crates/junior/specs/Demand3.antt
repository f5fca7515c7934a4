-- Demand 3 of the definitions, sentence by sentence. Its premises here: t is at rest, and its program's Loops have bodies that stop (refusal 7).
use Rattle.std.specs.Prelude.{ℕ, ◌+◌, ◌≤◌, ◌≡◌}
use Rattle.events.specs.Events.{Events}
use Rattle.junior.specs.Configuration.{handed_in}
use Rattle.junior.specs.Values.{Values}
use Rattle.junior.specs.Term.{Term, prog}
use Rattle.junior.specs.Rules.{left_first, Result}
use Rattle.junior.specs.Instant.{Instant}
use Rattle.junior.specs.Course.{event_sets, Rising, IdleOnceEnded}
use Rattle.junior.specs.Figures.{G}
use Rattle.junior.specs.AtRest.{AtRest}
use Rattle.junior.specs.Decided.{DecidedRight}

-- what is so of every instant from t with the events X and the values handed in
pub record Settled {value : Values} {t : Term} {X : Events} {n : ℕ} {r : Result} (i : Instant (left_first value) t (handed_in X) n r) : Type 0 where
  -- "within two passes more than the event generations worked out at loading"
  pub soon : n ≤ G (prog t) + 2
  -- "leaves a state at rest", of the same program
  pub rest : AtRest r.to
  pub same_program : prog r.to ≡ prog t
  -- "its event set only grows from pass to pass"
  pub grows : Rising X (event_sets i)
  -- "once the end is declared no event is generated and no action done"
  pub idle : IdleOnceEnded i
  -- "every test decided in the instant has the value that the finished events give it, a local event's being its own scope's"
  pub decided : DecidedRight r.env.now r.acts

pub record Demand3 (value : Values) (t : Term) (X : Events) : Type 0 where
  -- "an instant always ends"
  pub ends : (n : ℕ) × (r : Result) × Instant (left_first value) t (handed_in X) n r
  pub settled : {n : ℕ} {r : Result} (i : Instant (left_first value) t (handed_in X) n r) → Settled i
