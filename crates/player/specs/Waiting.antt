-- What the program for people says under an instant (02, L1): "under each instant whose end was declared, one line more that says what the
-- program waits for: the node, the test in written form .., and the event".
use Rattle.std.specs.Prelude.{ℕ, ◌+◌, ◌*◌, ◌<◌, ◌≡◌, Bool, true, false, List, [], ◌∷◌}
use Rattle.letters.specs.Decimal.{decimal}
use Rattle.letters.specs.Text.{bytes}
use Rattle.junior.specs.Program.{Program}
use Rattle.table.specs.Records.{nodes}
use Rattle.table.specs.Spells.{Spells}
use Rattle.waiting.specs.declared.Wait.{Wait}
use Rattle.listing.specs.Output.{line}
use Rattle.printer.specs.Outline.{outline}

-- the test p at a node lacks an event
unfoldable pub waits_line : ℕ → Program → ℕ → List ℕ
waits_line node p event =
    line
    (bytes "waits at node"
    ∷ decimal node
    ∷ bytes "in"
    ∷ outline p
    ∷ bytes "for event"
    ∷ decimal event
    ∷ [])

-- What stands under the line of an instant on the table t that reports w. The listing program adds nothing. The other adds nothing if the end
-- was never declared, so that no node is named (kernel/specs/Answer), else one line: p is what the table spells at that node (`one_tree`).
pub data Under (t : List ℕ) (w : Wait) : Bool → List ℕ → Type 0 where
  not_asked : Under t w false []
  never_declared : w.node ≡ 4096 → Under t w true []
  declared : (p : Program) → w.node < nodes t → Spells t w.node p → Under t w true (waits_line w.node p w.event)

-- a room for every such line (proofs/WaitLine.antt): a record of a configuration takes at most 7 bytes, all else at most 100
abbrev pub room_under : ℕ
room_under = 7 * 2048 + 100
