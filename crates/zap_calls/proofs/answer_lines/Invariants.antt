-- `answer_lines` is safe and ends: a block holds at most 400,001 bytes back.
use Rattle.std.proofs.Common.{◌≡◌, ◌≤◌, length}
use Rattle.zap_calls.proofs.answer_lines.Given as goal

abbrev pub invariant-loop : goal.invariant-loop
invariant-loop g l = (length l.input ≡ 401408) × (l.held ≤ 400001)
