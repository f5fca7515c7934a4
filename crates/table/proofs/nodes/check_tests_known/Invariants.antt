-- `table::nodes::check_tests_known` meets its contract: from the last node to i all are good and wait; then height, Loops, figures.
use borrow.Author.Rules.{rules}
use mathlib.Core.Path.{◌≡◌, refl, ◌∙◌}
use native.Mathlib.Omega.{arith}
use lib.ListN.{length, length-set}
use Rattle.table.proofs.Answers.{row_deep, endless_answer, weight_answer}
use Rattle.table.proofs.Swept.{Swept, swept_none, ready, swept_more, all_seen, whole_weighs, lowest_endless}
use Rattle.table.proofs.nodes.check_tests_known.Given as goal

abbrev pub invariant-loop-i : goal.invariant-loop-i
invariant-loop-i l = Swept l.table l.row l.n l.endless l.i l.top × (length l.row ≡ length l.initial.row)
