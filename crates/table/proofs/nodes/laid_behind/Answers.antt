-- `table::nodes::laid_behind` meets its contract: where none stands, or one alone, there are no more children.
use Prim.Native.Nat.{◌+◌}
use mathlib.Core.Path.{◌≡◌, refl}
use native.Mathlib.Omega.{arith}
use borrow.Author.Tests.{le-ltb}
use Rattle.table.specs.Records.{second_child}
use Rattle.table.proofs.Judged.{laid_none}
use Rattle.table.proofs.Standing.{row_second, none_behind, one_behind, less_than_two, two_behind}
use Rattle.table.proofs.nodes.laid_behind.Goals as goal

-- return size_at(table, i) == 1;
pub returns-then-count-eq0 : goal.returns-then-count-eq0
returns-then-count-eq0 c = rw c.size_at.ensures.0 (laid_none _ _ _ _ c.if-count-eq0.true)

-- return top > 0 && size_at(table, i) == 1 + size_at(table, i + 1);
pub returns-then-top-gt0 : goal.returns-then-top-gt0
returns-then-top-gt0 c =
    rw (c.size_at-then-top-gt0.ensures.0, c.size_at-then-top-gt0-2.ensures.0)
    (one_behind _ _ _ _ _ refl c.requires.row c.if-count-eq1.true c.if-top-gt0.true)

pub returns-else-top-gt0 : goal.returns-else-top-gt0
returns-else-top-gt0 c =
    let none = none_behind _ _ _ _ _ refl c.requires.row c.if-count-eq0.false (omega (arith, c.if-top-gt0.false)) in
    rw (le-ltb 0 c.args.top (omega (arith, c.if-top-gt0.false))) none

-- if top < 2 {
pub returns-then-top-lt2 : goal.returns-then-top-lt2
returns-then-top-lt2 c =
    less_than_two _ _ _ _ _ refl c.requires.row c.if-count-eq0.false c.if-count-eq1.false c.if-top-lt2.true

-- size_at(table, i) == first + size_at(table, i + first)
pub size_at-requires-3 : goal.size_at-requires-3
size_at-requires-3 c =
    let there = row_second _ _ _ c.if-top-lt2.false c.requires.row in
    omega (arith, c.size_at-first.ensures.0, c.requires.within.long)

pub returns : goal.returns
returns c =
    let A = c.args in
    let e = c.size_at-first.ensures.0 in
    let s : A.i + (1 + c.size_at-first.result) ≡ second_child A.table.now A.i = omega arith in
    rw
    (c.size_at-2.ensures.0, c.size_at-3.ensures.0, s, e)
    (two_behind _ _ _ _ _ refl c.requires.row c.if-count-eq0.false c.if-count-eq1.false c.if-top-lt2.false)
