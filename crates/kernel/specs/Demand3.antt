-- Demand 3: "On the same premises an instant always ends, within two passes more than the event generations worked out at loading, leaves a
-- state at rest, its event set only grows from pass to pass; once the end is declared no event is generated and no action done; every test
-- decided in the instant has the value that the finished events give it, a local event's being its own scope's."
use Rattle.std.specs.Prelude.{Ok, ℕ, ◌+◌, ◌≤◌, true, ◌≡◌, List}
use Rattle.events.specs.Events.{Events}
use Rattle.events.specs.Members.{members}
use Rattle.junior.specs.Values.{Values}
use Rattle.junior.specs.Configuration.{handed_in}
use Rattle.junior.specs.Term.{Term}
use Rattle.junior.specs.Rules.{left_first, Result}
use Rattle.junior.specs.Instant.{Instant}
use Rattle.junior.specs.Course.{event_sets, Rising, IdleOnceEnded}
use Rattle.junior.specs.Decided.{DecidedRight}
use Rattle.table.specs.Records.{nodes}
use Rattle.state.specs.Resting.{blamed}
use Rattle.store.specs.Store.{in_use, store_good}
use Rattle.kernel.specs.declared.Answer.{Answer}
use Rattle.kernel.specs.Answer.{Reply, Rooms}
use Rattle.kernel.specs.Demand2.{Premises, TermInState}

pub record Demand3 {t s : List ℕ} {X : Events} {lent : Rooms} (p : Premises t s X lent) (value : Values) (s' : List ℕ) (left : Rooms) (r : Reply)
    : Type 0 where
  -- "an instant always ends": not by a limit, but by the rules; `instant` is the one that was run
  pub answer : Answer
  pub ran : r ≡ Ok answer
  pub term : Term
  pub stands : TermInState t s term
  pub result : Result
  pub instant : Instant (left_first value) term (handed_in X) answer.passes result
  pub event_set : members answer.events ≡ result.env.now
  -- "within two passes more than the event generations worked out at loading"
  pub soon : answer.passes ≤ p.generations + 2
  -- "leaves a state at rest"
  pub at_rest : blamed t s' ≡ nodes t
  -- L8: and a store that passes 25, with at most F bytes more in use
  pub store_passes : store_good t left.store ≡ true
  pub few_bytes : in_use left.store ≤ in_use lent.store + p.most_parked
  -- "its event set only grows from pass to pass"
  pub grows : Rising X (event_sets instant)
  -- "once the end is declared no event is generated and no action done"
  pub idle : IdleOnceEnded instant
  -- "every test decided in the instant has the value that the finished events give it, a local event's being its own scope's"
  pub decided : DecidedRight (members answer.events) result.acts
