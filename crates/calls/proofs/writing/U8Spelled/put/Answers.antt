-- A byte is two digits.
use Rattle.letters.proofs.Writes.{writes_then}
use Rattle.calls.specs.Words.{hex_byte}
use Rattle.calls.proofs.writing.U8Spelled.put.Goals as goal

pub returns : goal.returns
unfolding hex_byte
returns c = rw (← c.digit_of.ensures, ← c.digit_of-2.ensures) (writes_then c.byte.ensures c.byte-2.ensures)
