-- `put_numbers` meets its contract: the first numbers are written.
use mathlib.Core.Path.{◌≡◌}
use native.Mathlib.Omega.{arith}
use lib.ListN.{length, get_or}
use lib.Seq.{take-length}
use Rattle.letters.proofs.Decimal.{decimal_length}
use Rattle.letters.proofs.Writes.{writes_none, writes_then, number_ends}
use Rattle.calls.specs.Words.{spaced}
use Rattle.calls.proofs.Words.{spaced_more}
use Rattle.calls.proofs.writing.put_numbers.Goals as goal

pub loop-number-init : goal.loop-number-init
unfolding spaced
loop-number-init c = (omega arith, writes_none c.args.out.now)

pub number-requires : goal.number-requires
number-requires c =
    let n = get_or c.args.list.now c.loop-number.number-index 0 in
    omega (arith, c.loop-number.invariant.1.long, decimal_length 19 n (omega (arith, c.type_inv.list c.loop-number.number-index)))

pub loop-number-preserved : goal.loop-number-preserved
loop-number-preserved c =
    let i = c.loop-number.number-index in
    let n = get_or c.args.list.now i 0 in (
      omega (arith, number_ends 19 n 32 (omega (arith, c.type_inv.list i)) c.number.ensures),
      rw (spaced_more c.args.list.now i (omega arith)) (writes_then c.loop-number.invariant.1 c.number.ensures),
    )
