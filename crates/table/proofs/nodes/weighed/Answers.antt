-- `table::nodes::weighed` meets its contract: refused where a figure is above its most, and else accepted with the three.
use borrow.Author.Rules.{rules}
use borrow.Author.Tests.{le-leb, lt-leb}
use Rattle.table.proofs.nodes.weighed.Goals as goal

-- if x.nodes > 65535 {
pub returns-then-x-gt65535 : goal.returns-then-x-gt65535
returns-then-x-gt65535 c =
    let if1 = c.if-x-gt4094 in
    let if2 = c.if-x-gt4096 in
    let if3 = c.if-x-gt65535 in
    rw (le-leb _ _ if1.false, le-leb _ _ if2.false, lt-leb _ _ if3.true)

-- if x.parked > 16384 {
pub returns-then-x-gt16384 : goal.returns-then-x-gt16384
returns-then-x-gt16384 c =
    let if1 = c.if-x-gt4094 in
    let if2 = c.if-x-gt4096 in
    let if3 = c.if-x-gt65535 in
    let if4 = c.if-x-gt16384 in
    rw (le-leb _ _ if1.false, le-leb _ _ if2.false, le-leb _ _ if3.false, lt-leb _ _ if4.true)

-- fn weighed
pub returns : goal.returns
returns c =
    let if1 = c.if-x-gt4094 in
    let if2 = c.if-x-gt4096 in
    let if3 = c.if-x-gt65535 in
    let if4 = c.if-x-gt16384 in
    rw (le-leb _ _ if1.false, le-leb _ _ if2.false, le-leb _ _ if3.false, le-leb _ _ if4.false)

pub returns-then-x-gt4094 : goal.returns-then-x-gt4094
returns-then-x-gt4094 c = rw (lt-leb _ _ c.if-x-gt4094.true)

pub returns-then-x-gt4096 : goal.returns-then-x-gt4096
returns-then-x-gt4096 c = rw (le-leb _ _ c.if-x-gt4094.false, lt-leb _ _ c.if-x-gt4096.true)
