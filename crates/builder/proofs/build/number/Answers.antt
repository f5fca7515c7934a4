-- `number` meets its contract: before each digit the number so far goes on to the same number.
use native.Mathlib.Omega.{arith}
use mathlib.Core.Path.{sym, ◌∙◌}
use Rattle.builder.proofs.ReadDigits.{number_step, number_stop, number_out}
use Rattle.builder.proofs.build.number.Goals as goal

pub loop-b-preserved : goal.loop-b-preserved
loop-b-preserved c = (
  rw c.in-Some.ensures.1 (number_step c.args.text.now c.loop-b.b-index c.loop-b.v c.loop-b-test.true c.in-Some.ensures.0)
      ∙ c.loop-b.invariant.0,
  omega arith,
)

-- return v;
pub returns-in_default : goal.returns-in_default
returns-in_default c =
    sym (number_stop c.args.text.now c.loop-b.b-index c.loop-b.v c.in_default.ensures) ∙ c.loop-b.invariant.0

-- v
pub returns : goal.returns
returns c =
    sym (number_out c.args.text.now c.loop-b.b-index c.loop-b.v c.loop-b-test.false) ∙ c.loop-b.invariant.0
