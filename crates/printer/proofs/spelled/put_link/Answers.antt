-- `put_link` meets its contract: the test is that of the definition.
use Rattle.printer.specs.Printing.{linked}
use Rattle.letters.proofs.Puts.{puts_none}
use Rattle.printer.proofs.spelled.put_link.Goals as goal

-- return put(room, at, b", ");
pub put-requires : goal.put-requires
unfolding linked
put-requires c =
    rw c.if-code-behind.true at c.requires

pub returns-then-code-behind : goal.returns-then-code-behind
unfolding linked
returns-then-code-behind c =
    rw c.if-code-behind.true c.put.ensures

-- fn put_link
pub returns : goal.returns
unfolding linked
returns c =
    rw c.if-code-behind.false (puts_none c.args.room.now c.args.at)
