-- `Writer::number` meets its contract: the digits, and a byte more.
use Rattle.letters.proofs.Writes.{writes_then}
use Rattle.letters.proofs.Writer.number.Goals as goal

pub returns : goal.returns
returns c = writes_then c.decimal.ensures c.byte.ensures
