-- `is_dash` meets its contract.
use borrow.Author.Tests.{eq-eqb, ne_eqb}
use Rattle.calls.specs.Words.{is_dash}
use lib.ListN.{length}
use Rattle.calls.proofs.reading.is_dash.Goals as goal

-- return text[0] == b'-';
pub returns-then-text-eq1 : goal.returns-then-text-eq1
unfolding is_dash
returns-then-text-eq1 c =
    simp (eq-eqb (length c.args.text.now) 1 c.if-text-eq1.true)

-- fn is_dash
pub returns : goal.returns
unfolding is_dash
returns c =
    simp (ne_eqb (length c.args.text.now) 1 c.if-text-eq1.false)
