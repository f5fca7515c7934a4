-- `table::nodes::check_whole` meets its contract: the rows are long enough for this table.
use borrow.Author.Rules.{rules}
use native.Mathlib.Omega.{arith}
use Rattle.table.proofs.nodes.check_whole.Goals as goal

-- return check_tests_known(table, n, m, v, &few, &mut short);
pub check_tests_known-requires : goal.check_tests_known-requires
check_tests_known-requires c =
    let find-early = c.find_early in
    let m_is = c.requires.framed.m_is in
    record { sized_whole = c.requires; all_known = record { room = search rules; known = find-early.ensures }; roomy = search rules }

-- return check_tests_known(table, n, m, v, &few, &mut long);
pub check_tests_known-requires-then-m-le64 : goal.check_tests_known-requires-then-m-le64
check_tests_known-requires-then-m-le64 c =
    let find-early = c.find_early in
    let m_is = c.requires.framed.m_is in
    record { sized_whole = c.requires; all_known = record { room = search rules; known = find-early.ensures }; roomy = search rules }

-- check_tests_known(table, n, m, v, &many, &mut long)
pub check_tests_known-requires-2 : goal.check_tests_known-requires-2
check_tests_known-requires-2 c =
    let find-early2 = c.find_early-2 in
    let m_is = c.requires.framed.m_is in
    record { sized_whole = c.requires; all_known = record { room = search rules; known = find-early2.ensures }; roomy = search rules }
