-- `byte_at` meets its contract.
use Rattle.calls.proofs.Digits.{no_high, no_low, byte_is}
use Rattle.calls.proofs.reading.byte_at.Goals as goal

pub returns-in_err-high : goal.returns-in_err-high
returns-in_err-high c = rw c.from_residual.ensures (no_high c.args.text.now c.args.at c.in_err-high.ensures)

pub returns-in_err-low : goal.returns-in_err-low
returns-in_err-low c =
    rw c.from_residual-in_err-low.ensures (no_low c.args.text.now c.args.at c.in_ok-high.ensures.0 c.in_ok-high.ensures.1 c.in_err-low.ensures)

pub returns : goal.returns
returns c =
    byte_is c.args.text.now c.args.at c.in_ok-high.ensures.0 c.in_ok-high.ensures.1 c.in_ok-low.ensures.0 c.in_ok-low.ensures.1
