-- `table::configurations::low` meets its contract: the record at hand and what is to come along the way decide the whole.
use borrow.Author.Rules.{rules}
use mathlib.Core.Path.{refl}
use native.Mathlib.Omega.{arith}
use Rattle.table.proofs.Heights.{few_parts}
use Rattle.table.proofs.LowWays.{look_first, own_inside, way_least, look_end, look_on, look_less, look_down, look_high}
use Rattle.table.proofs.configurations.low.Goals as goal

-- match parts_good(table, at) {
pub parts_good-requires : goal.parts_good-requires
parts_good-requires c = (_, (c.loop-next.invariant _ c.requires.1).begins)

-- let next = closed(way);
pub closed-next-requires : goal.closed-next-requires
closed-next-requires c = way_least (c.loop-next.invariant _ c.requires.1)

-- return true;
pub returns-then-next-eq1 : goal.returns-then-next-eq1
returns-then-next-eq1 c j b =
    let h = c.loop-next.invariant j b in
    look_end h _ (c.in-None.ensures _ h.begins) refl _ (c.closed-next.ensures _ h.number) c.if-next-eq1.true

-- at += 4 * part_size(table, at);
pub part_size-requires : goal.part_size-requires
part_size-requires c = omega (arith, own_inside (c.loop-next.invariant _ c.requires.1))

pub overflow_add-at : goal.overflow_add-at
overflow_add-at c =
    let own = own_inside (c.loop-next.invariant _ c.requires.1) in
    let few = c.part_size.ensures.1 in
    search rules

-- way = 2 * way + (parts - 1);
pub overflow_mul-way : goal.overflow_mul-way
overflow_mul-way c =
    let s = (c.loop-next.invariant _ c.requires.1).short in
    record { fits = omega arith }

pub overflow_sub-way : goal.overflow_sub-way
overflow_sub-way c =
    let h = c.loop-next.invariant _ c.requires.1 in
    omega (arith, (c.in-Some.ensures _ h.begins).1)

pub overflow_add-way : goal.overflow_add-way
overflow_add-way c =
    let h = c.loop-next.invariant _ c.requires.1 in
    let s = h.short in
    let f = few_parts h.begins (c.in-Some.ensures _ h.begins).0 in
    record { fits = omega arith }

-- return false;
pub returns-then-way-ge65536 : goal.returns-then-way-ge65536
returns-then-way-ge65536 c j b =
    let h = c.loop-next.invariant j b in
    let some = c.in-Some.ensures _ h.begins in
    look_high h _ some.0 some.1 c.if-way-ge65536.true

-- loop {
pub loop-next-init : goal.loop-next-init
loop-next-init c j b = look_first b

pub loop-next-smaller-in-None : goal.loop-next-smaller-in-None
loop-next-smaller-in-None c =
    let h = c.loop-next.invariant _ c.requires.1 in
    omega (arith, look_less h _ (c.in-None.ensures _ h.begins) refl _ (c.closed-next.ensures _ h.number) c.if-next-eq1.false)

pub loop-next-preserved-in-None : goal.loop-next-preserved-in-None
loop-next-preserved-in-None c j b =
    let h = c.loop-next.invariant j b in
    rw
    c.part_size.ensures.0
    (look_on h _ (c.in-None.ensures _ h.begins) refl _ (c.closed-next.ensures _ h.number) c.if-next-eq1.false)

-- at += 4;
pub overflow_add-at-in-Some : goal.overflow_add-at-in-Some
overflow_add-at-in-Some c =
    let own = own_inside (c.loop-next.invariant _ c.requires.1) in
    search rules

pub loop-next-smaller : goal.loop-next-smaller
loop-next-smaller c =
    let short = c.if-way-ge65536.false in
    omega (arith, own_inside (c.loop-next.invariant _ c.requires.1))

pub loop-next-preserved : goal.loop-next-preserved
loop-next-preserved c j b =
    let h = c.loop-next.invariant j b in
    let some = c.in-Some.ensures _ h.begins in
    look_down h _ some.0 some.1 c.if-way-ge65536.false
