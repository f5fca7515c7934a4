-- `list_lines` is safe and ends: a block holds at most a byte more than the longest good line back, and has at most 65,536 lines.
use Rattle.std.proofs.Common.{◌≡◌, ◌+◌, ◌*◌, ◌≤◌, length}
use Rattle.listing.specs.Input.{longest}
use Rattle.player.proofs.list_lines.Given as goal

abbrev pub invariant-loop : goal.invariant-loop
invariant-loop g l = (length l.input ≡ 65536) × (l.held ≤ longest + 1) × (l.player.number ≤ 65536 * l.counter + 1)
