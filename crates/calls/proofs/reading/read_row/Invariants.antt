-- `read_row` meets its contract: after i turns the room begins with the first i numbers.
use Rattle.calls.proofs.Words.{number_of, Held}
use Rattle.calls.proofs.reading.read_row.Given as goal

abbrev pub invariant-loop-i : goal.invariant-loop-i
invariant-loop-i l = Held 65536 (number_of l.text) l.initial.room l.n l.room l.i
