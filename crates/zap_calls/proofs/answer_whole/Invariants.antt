-- `answer_whole` meets its contract: each line takes a byte or more of the text.
use Rattle.std.proofs.Common.{◌≡◌, ◌≤◌, length}
use Rattle.zap_calls.proofs.answer_whole.Given as goal

abbrev pub invariant-loop-line : goal.invariant-loop-line
invariant-loop-line g l = (length l.rest ≤ length l.initial.text) × (length l.output ≡ 262144) × (l.filled ≤ 262144)

abbrev pub decreases-loop-line : goal.decreases-loop-line
decreases-loop-line g l = length l.rest
