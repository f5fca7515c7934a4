-- `read_bytes` meets its contract: after i turns the room begins with the first i bytes.
use Rattle.calls.proofs.Words.{byte_of, Held}
use Rattle.calls.proofs.reading.read_bytes.Given as goal

abbrev pub invariant-loop-i : goal.invariant-loop-i
invariant-loop-i l = Held 256 (byte_of l.text) l.initial.room l.n l.room l.i
