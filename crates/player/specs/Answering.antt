-- What a line of input does (01, "The listing program"): its output line, and the state, the row of atoms and the store of parked pieces after it.
-- The program for people "prints for each line what `zap_run` prints" and adds what stands under it (02, L1).
use Rattle.std.specs.Prelude.{ℕ, ◌≤◌, ◌≡◌, Ok, Err, Bool, true, false, List, ◌++◌, length, take, drop}
use Rattle.events.specs.Events.{Events, none}
use Rattle.events.specs.Members.{members}
use Rattle.junior.specs.Values.{zeros}
use Rattle.listing.specs.Input.{Reading}
use Rattle.listing.specs.Output.{ran_line, bad_line, refused_line}
use Rattle.kernel.specs.declared.Refusal.{Refusal}
use Rattle.kernel.specs.declared.Answer.{Answer}
use Rattle.kernel.specs.Answer.{call_number, call_index, Rooms, Answered}
use Rattle.player.specs.Waiting.{Under}

-- the table t, the state s and the lent rooms (row and store) before; the state s', the rooms and the output line after. A refused instant's Answered
-- says that none of them moves. `why` is whether something stands under the line of an instant that ran; zap_run prints none. The values that a
-- program asks for are zeros: "The box hands in sixteen 8-bit values with each instant (..; `zap-run` zeros)" (02, L14). What an instant parks stays
-- in the store for the next line: "`zap-run` lends 32,768 bytes, begun empty" (02, L8; src/lib.rt).
pub data Lists (why : Bool) (t s : List ℕ) (lent : Rooms) (line : List ℕ) (number : ℕ) : List ℕ → Rooms → List ℕ → Type 0 where
  bad : Reading line false none → Lists why t s lent line number s lent (bad_line number)
  refused : (X : Events) (r : Refusal) {s' : List ℕ} {left : Rooms} → Reading line true X → Answered t s X zeros lent s' left (Err r)
      → Lists why t s lent line number s' left (refused_line number (call_number r) (call_index r))
  ran : (X : Events) (a : Answer) {s' more : List ℕ} {left : Rooms} → Reading line true X → Answered t s X zeros lent s' left (Ok a)
      → Under t a.waits why more
      → Lists why t s lent line number s' left
      (ran_line number a.passes a.finished (members a.events) (take a.atoms left.row) ++ more)

-- what is printed stands at the start of a room, whose other bytes are as before, and its length is answered
pub record Answers (why : Bool) (t s : List ℕ) (lent : Rooms) (line : List ℕ) (number : ℕ) (s' : List ℕ) (left : Rooms) (old new : List ℕ) (r : ℕ) :
    Type 0 where
  pub text : List ℕ
  pub lists : Lists why t s lent line number s' left text
  pub answer : r ≡ length text
  pub room : new ≡ text ++ drop (length text) old
  pub within : r ≤ length old
