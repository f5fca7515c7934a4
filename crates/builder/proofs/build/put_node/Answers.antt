-- `put_node` meets its contract: six bytes in front of the nodes.
use native.Mathlib.Numerals.{towards_suc}
use native.Mathlib.Omega.{arith}
use lib.ListN.{length-set}
use Rattle.builder.proofs.build.put_node.Goals as goal

-- table[at + 1] = 0;
pub bounds-table-at-2 : goal.bounds-table-at-2
bounds-table-at-2 c =
    simp length-set (omega arith)

-- put_word(table, at + 2, argument);
pub put_word-requires : goal.put_word-requires
put_word-requires c =
    simp length-set (omega arith)

-- put_word(table, at + 4, size);
pub put_word-requires-2 : goal.put_word-requires-2
put_word-requires-2 c =
    omega (arith, simp length-set at c.put_word.auto.s)

pub returns : goal.returns
returns c =
    rw (c.put_word-2.ensures, c.put_word.ensures) (simp towards_suc)
