-- `put_check` meets its contract: six numbers have room.
use native.Mathlib.Omega.{arith}
use Rattle.letters.proofs.Decimal.{decimal_length}
use Rattle.letters.proofs.Writes.{number_ends}
use Rattle.zap_calls.proofs.call.put_check.Goals as goal

-- out.number(figures.parked as u64, b'\n');
pub number-requires : goal.number-requires
number-requires c =
    omega (
      arith,
      c.requires,
      c.put_numbers.ensures.short,
      c.put_numbers.ensures.written.long,
      decimal_length 19 c.args.figures.parked (omega arith),
    )

pub returns : goal.returns
returns c =
    omega (
      arith,
      c.requires,
      c.put_numbers.ensures.short,
      c.put_numbers.ensures.written.long,
      number_ends 19 c.args.figures.parked 10 (omega arith) c.number.ensures,
    )
