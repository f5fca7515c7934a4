-- A row's number is two bytes of two digits.
use Prim.Native.Nat.{◌/◌}
use native.Mathlib.Omega.{arith}
use Rattle.letters.proofs.Writes.{writes_then, writes_end}
use Rattle.calls.specs.Words.{hex_number}
use Rattle.calls.specs.Inside.{two_digits}
use Rattle.calls.proofs.writing.U16Spelled.put.Goals as goal

pub put-requires-2 : goal.put-requires-2
put-requires-2 c = omega (arith, writes_end c.put.ensures, two_digits (c.args.self / 256), c.put.ensures.long)

pub returns : goal.returns
unfolding hex_number
returns c = writes_then c.put.ensures c.put-2.ensures
