-- Request L1 of the program for people, sentence by sentence.
use Rattle.std.specs.Prelude.{Ok, ℕ, ◌≡◌, true, false, List, [], ◌++◌}
use Rattle.events.specs.Events.{Events}
use Rattle.junior.specs.Values.{Values}
use Rattle.junior.specs.Program.{Program}
use Rattle.table.specs.Spells.{Spells}
use Rattle.kernel.specs.declared.Answer.{Answer}
use Rattle.kernel.specs.Answer.{Rooms, Run, Answered}
use Rattle.player.specs.Waiting.{waits_line, Under}
use Rattle.player.specs.Answering.{Lists}

-- the text begins with what `zap_run` prints, which leaves the same state, row and store
pub record AsListed (t s : List ℕ) (lent : Rooms) (line : List ℕ) (number : ℕ) (s' : List ℕ) (left : Rooms) (text : List ℕ) : Type 0 where
  pub listed : List ℕ
  pub more : List ℕ
  pub lists : Lists false t s lent line number s' left listed
  pub whole : text ≡ listed ++ more

-- what stands under the line of an instant that was run, by whether its end was declared
pub record OneLineMore {t s : List ℕ} {X : Events} {value : Values} {lent : Rooms} {s' : List ℕ} {left : Rooms} {a : Answer}
    (run : Run t s X value lent s' left a) (more : List ℕ) : Type 0 where
  pub if_declared : run.result.env.eoi ≡ true
      → (p : Program) × Spells t a.waits.node p × (more ≡ waits_line a.waits.node p a.waits.event)
  pub if_never : run.result.env.eoi ≡ false → more ≡ []

pub record L1 : Type 0 where
  -- "Reads `table.bin` and lines exactly as `zap_run` does and prints for each line what `zap_run` prints"
  pub as_listed : {t s : List ℕ} {lent : Rooms} {line : List ℕ} {number : ℕ} {s' : List ℕ} {left : Rooms} {text : List ℕ}
      → Lists true t s lent line number s' left text
      → AsListed t s lent line number s' left text
  -- "under each instant whose end was declared, one line more that says what the program waits for: the node, the test in written form ..,
  -- and the event"; under another instant none
  pub one_line_more : {t s : List ℕ} {X : Events} {value : Values} {lent : Rooms} {s' : List ℕ} {left : Rooms} {a : Answer} {more : List ℕ}
      → Answered t s X value lent s' left (Ok a)
      → Under t a.waits true more
      → (run : Run t s X value lent s' left a)
      → OneLineMore run more
