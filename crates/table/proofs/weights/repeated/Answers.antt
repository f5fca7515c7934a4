-- `table::weights::repeated` meets its contract: each figure c times, the node itself and its level one more.
use borrow.Author.Rules.{rules}
use Rattle.table.proofs.weights.repeated.Goals as goal

-- fn repeated(c: u32, x: Weight, stops: u32) -> Weight
pub returns : goal.returns
returns c =
    let count-times = c.count_times in
    let count-times2 = c.count_times-2 in
    let count-times3 = c.count_times-3 in
    let count-times4 = c.count_times-4 in
    simp (count-times.ensures, count-times2.ensures, count-times3.ensures, count-times4.ensures)
