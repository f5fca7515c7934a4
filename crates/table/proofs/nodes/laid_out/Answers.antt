-- `table::nodes::laid_out` meets its contract: the sizes of the parts, which stand within the table, add up.
use borrow.Author.Rules.{rules}
use Prim.Native.Nat.{◌+◌, ◌<◌}
use mathlib.Core.Path.{◌≡◌}
use native.Mathlib.Omega.{arith}
use Rattle.table.specs.Records.{second_child}
use Rattle.table.proofs.Judged.{laid_none, bad_first, laid_one, bad_second, laid_two}
use Rattle.table.proofs.nodes.laid_out.Goals as goal

-- return size_at(table, i) == first;
pub returns-then-count-eq1 : goal.returns-then-count-eq1
returns-then-count-eq1 c =
    let if2 = c.if-n-i in
    let size-at2 = c.size_at-first in
    let if3 = c.if-count-eq1 in
    let size-at3 = c.size_at-then-count-eq1 in
    rw (size-at3.ensures.0, size-at2.ensures.0) (laid_one _ _ _ _ if3.true if2.false)

-- return false;
pub returns-then-n-second : goal.returns-then-n-second
returns-then-n-second c =
    let if1 = c.if-count-eq0 in
    let if2 = c.if-n-i in
    let if3 = c.if-count-eq1 in
    bad_second _ _ _ _ if1.false if3.false if2.false (omega arith)

-- fn laid_out
pub returns : goal.returns
returns c =
    let if1 = c.if-count-eq0 in
    let if2 = c.if-n-i in
    let size-at2 = c.size_at-first in
    let if3 = c.if-count-eq1 in
    let size-at4 = c.size_at-2 in
    let size-at5 = c.size_at-3 in
    let A = c.args in
    let e = size-at2.ensures.0 in
    let s : A.i + (1 + size-at2.result) ≡ second_child A.table.now A.i = omega arith in
    let there : second_child A.table.now A.i < A.n = omega arith in
    rw
    (size-at4.ensures.0, size-at5.ensures.0, s, e)
    (laid_two _ _ _ _ if1.false if3.false if2.false there)

pub returns-then-count-eq0 : goal.returns-then-count-eq0
returns-then-count-eq0 c = rw c.size_at.ensures.0 (laid_none _ _ _ _ c.if-count-eq0.true)

pub returns-then-n-i : goal.returns-then-n-i
returns-then-n-i c = bad_first _ _ _ _ c.if-count-eq0.false c.if-n-i.true
