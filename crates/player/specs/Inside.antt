-- What the functions that put the line under an instant ask and give. No contract that a program relies on cites this file.
use Rattle.std.specs.Prelude.{ℕ, ◌+◌, ◌≤◌, ◌<◌, Bool, ◌≢◌, List, length}
use Rattle.letters.specs.Rooms.{Puts}
use Rattle.junior.specs.Program.{Program}
use Rattle.table.specs.Records.{nodes}
use Rattle.table.specs.Spells.{Spells}
use Rattle.table.specs.Inside.{Loaded, Placed}
use Rattle.waiting.specs.declared.Wait.{Wait}
use Rattle.player.specs.Waiting.{waits_line, Under, room_under}

-- a node that is named is one of the table's
pub record OneOfItsNodes (t : List ℕ) (w : Wait) : Type 0 where
  pub loaded : Loaded t
  pub inside : w.node ≢ 4096 → w.node < nodes t

-- what stands under the line was put behind it, within the room
pub record PutsUnder (why : Bool) (t : List ℕ) (w : Wait) (old new : List ℕ) (at r : ℕ) : Type 0 where
  pub more : List ℕ
  pub under : Under t w why more
  pub puts : Puts old new at more r
  pub within : r ≤ length old

-- some program stands at the node that is named, and every place in its line is a number of 64 bits
pub record Shown (t : List ℕ) (w : Wait) (at : ℕ) : Type 0 where
  pub test : Program
  pub placed : Placed t w.node test
  pub below : at + room_under < 18446744073709551616

-- whatever program stands there, the line was put
pub record ShowsWait (t : List ℕ) (w : Wait) (old new : List ℕ) (at r : ℕ) : Type 0 where
  pub puts : (p : Program) → Spells t w.node p → Puts old new at (waits_line w.node p w.event) r
