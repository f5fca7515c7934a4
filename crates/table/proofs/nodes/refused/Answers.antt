-- `table::nodes::refused` meets its contract: the lowest record that isn't good, or where all are, the first node that is too deep.
use borrow.Author.Rules.{rules}
use native.Mathlib.Omega.{arith}
use Rattle.table.proofs.Answers.{all_good, bad_answer, deep_answer}
use Rattle.table.proofs.nodes.refused.Goals as goal

pub returns-in-Some : goal.returns-in-Some
returns-in-Some c = let bad = c.in-Some.ensures in bad_answer _ _ bad.1 bad.0

-- None => TableRefusal::TooDeep(first_deep(table, 0, 1)),
pub first_deep-requires : goal.first_deep-requires
first_deep-requires c =
    record { all_good = all_good c.requires.sized_whole c.in-None.ensures; shallow = (omega arith, omega arith) }

pub returns-in-None : goal.returns-in-None
returns-in-None c =
    let g = all_good c.requires.sized_whole c.in-None.ensures in
    deep_answer c.requires.sized_whole g (c.requires.too_deep g) _ c.first_deep.ensures
