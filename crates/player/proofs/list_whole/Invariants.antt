-- `list_whole` meets its contract: each line takes a byte or more of the text.
use Rattle.std.proofs.Common.{◌+◌, ◌≤◌, length}
use Rattle.player.proofs.list_whole.Given as goal

abbrev pub invariant-loop-line : goal.invariant-loop-line
invariant-loop-line g l =
    (l.player.number + length l.rest ≤ l.initial.player.number + length l.initial.text) × (length l.rest ≤ length l.initial.text)

abbrev pub decreases-loop-line : goal.decreases-loop-line
decreases-loop-line g l = length l.rest
