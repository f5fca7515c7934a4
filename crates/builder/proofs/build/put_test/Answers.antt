-- `put_test` meets its contract: four bytes in front of the configurations.
use native.Mathlib.Numerals.{towards_suc}
use native.Mathlib.Omega.{arith}
use lib.ListN.{length-set}
use Rattle.builder.proofs.build.put_test.Goals as goal

-- table[at + 1] = (s % 256) as u8;
pub bounds-table-at-2 : goal.bounds-table-at-2
bounds-table-at-2 c =
    simp length-set (omega arith)

-- put_word(table, at + 2, size);
pub put_word-requires : goal.put_word-requires
put_word-requires c =
    simp length-set (omega arith)

pub returns : goal.returns
returns c =
    rw c.put_word.ensures (simp towards_suc)
