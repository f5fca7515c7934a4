-- L5, of the running code: on demand 2's premises, what is answered is what an instant without rule 13 gives.
use Rattle.std.specs.Prelude.{Ok, ◌≡◌, ℕ, List}
use Rattle.events.specs.Events.{Events}
use Rattle.junior.specs.Values.{Values}
use Rattle.junior.specs.Configuration.{handed_in}
use Rattle.junior.specs.Term.{Term}
use Rattle.junior.specs.Trace.{Piece}
use Rattle.junior.specs.Rules.{left_first, without_13, Result}
use Rattle.junior.specs.Instant.{Instant}
use Rattle.kernel.specs.declared.Answer.{Answer}
use Rattle.kernel.specs.Answer.{Reply, Rooms}
use Rattle.kernel.specs.Demand2.{TermInState, Gives}

pub record NeverRoundTwice (t s : List ℕ) (X : Events) (value : Values) (lent : Rooms) (s' : List ℕ) (left : Rooms) (r : Reply) : Type 0 where
  pub answer : Answer
  pub ran : r ≡ Ok answer
  pub term : Term
  pub stands : TermInState t s term
  pub result : Result
  pub instant : Instant (without_13 (left_first value)) term (handed_in X) answer.passes result
  pub pieces : List Piece
  pub gives : Gives t s lent pieces s' left answer answer.passes result
