-- `table::frame::counts_good` meets its contract.
use borrow.Author.Tests.{le-leb, lt-leb}
use Rattle.table.proofs.frame.counts_good.Goals as goal

-- return false;
pub returns-then-m-gt2048 : goal.returns-then-m-gt2048
returns-then-m-gt2048 c =
    let if1 = c.if-n-lt1 in
    let if2 = c.if-n-gt4096 in
    let if3 = c.if-m-gt2048 in
    simp (le-leb _ _ if1.false, le-leb _ _ if2.false, lt-leb _ _ if3.true)

pub returns-then-v-lt1 : goal.returns-then-v-lt1
returns-then-v-lt1 c =
    let if1 = c.if-n-lt1 in
    let if2 = c.if-n-gt4096 in
    let if3 = c.if-m-gt2048 in
    let if4 = c.if-v-lt1 in
    simp (le-leb _ _ if1.false, le-leb _ _ if2.false, le-leb _ _ if3.false, lt-leb _ _ if4.true)

-- fn counts_good
pub returns : goal.returns
returns c =
    let if1 = c.if-n-lt1 in
    let if2 = c.if-n-gt4096 in
    let if3 = c.if-m-gt2048 in
    let if4 = c.if-v-lt1 in
    simp (le-leb _ _ if1.false, le-leb _ _ if2.false, le-leb _ _ if3.false, le-leb _ _ if4.false)

pub returns-then-n-lt1 : goal.returns-then-n-lt1
returns-then-n-lt1 c = simp (lt-leb _ _ c.if-n-lt1.true)

pub returns-then-n-gt4096 : goal.returns-then-n-gt4096
returns-then-n-gt4096 c = simp (le-leb _ _ c.if-n-lt1.false, lt-leb _ _ c.if-n-gt4096.true)
