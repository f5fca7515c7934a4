-- `put_joint` meets its contract: kind 2 is an and.
use borrow.Author.Tests.{eq-eqb, ne_eqb}
use Rattle.printer.specs.Printing.{joint}
use Rattle.printer.proofs.spelled.put_joint.Goals as goal

-- return put(room, at, b" and ");
pub put-requires : goal.put-requires
unfolding joint
put-requires c =
    rw (eq-eqb _ _ c.if-k-eq2.true) at c.requires

pub returns-then-k-eq2 : goal.returns-then-k-eq2
unfolding joint
returns-then-k-eq2 c =
    rw (eq-eqb _ _ c.if-k-eq2.true) c.put.ensures

-- put(room, at, b" or ")
pub put-requires-2 : goal.put-requires-2
unfolding joint
put-requires-2 c =
    rw (ne_eqb _ _ c.if-k-eq2.false) at c.requires

-- fn put_joint
pub returns : goal.returns
unfolding joint
returns c =
    rw (ne_eqb _ _ c.if-k-eq2.false) c.put-2.ensures
