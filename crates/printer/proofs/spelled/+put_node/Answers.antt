-- `put_node` meets its contract: the head, the parts with a comma between, and the closing bracket.
use mathlib.Core.Path.{sym, ap, ◌∙◌}
use native.Mathlib.Omega.{arith}
use Rattle.table.specs.Good.{children}
use Rattle.table.proofs.Tree.{size_pos}
use Rattle.table.proofs.Loaded.{own_node, own_known, in_table}
use Rattle.printer.proofs.NodesIn.{head_fits, none_closes, first_less, first_part, one_closes, second_inside}
use Rattle.printer.proofs.NodesIn.{second_less, comma_fits, second_part_lem, two_closes, puts_leaf, puts_one, puts_two}
use Rattle.printer.proofs.spelled.+put_node.Goals as goal

-- let begun = put_head(names, table, i, room, at);
pub put_head-begun-requires : goal.put_head-begun-requires
put_head-begun-requires t c =
    head_fits c.requires

-- let count = kind_of(table, i).children();
pub kind_of-requires-clause-inside : goal.kind_of-requires-clause-inside
kind_of-requires-clause-inside t c =
    omega (arith, in_table c.requires.placed 0 (size_pos c.requires.program))

pub kind_of-requires-clause-known_kind : goal.kind_of-requires-clause-known_kind
kind_of-requires-clause-known_kind t c = own_known c.requires.placed

-- return put(room, begun, b")");
pub put-requires : goal.put-requires
put-requires t c =
    let count = ap children (sym c.kind_of.ensures) ∙ c.children-count.ensures in
    none_closes c.requires c.put_head-begun.ensures (count ∙ c.if-count-eq0.true)

pub returns-then-count-eq0 : goal.returns-then-count-eq0
returns-then-count-eq0 t c =
    let count = ap children (sym c.kind_of.ensures) ∙ c.children-count.ensures in
    puts_leaf c.put_head-begun.ensures (count ∙ c.if-count-eq0.true) c.put.ensures

-- let first = put_node(names, table, i + 1, room, begun);
pub overflow_add-i : goal.overflow_add-i
overflow_add-i t c =
    omega (arith, own_node c.requires.placed, c.requires.placed.loaded.framed.n_most)

pub put_node-first-requires : goal.put_node-first-requires
put_node-first-requires t c =
    let count = ap children (sym c.kind_of.ensures) ∙ c.children-count.ensures in (
      omega (arith, first_less c.requires (λ z. c.if-count-eq0.false (sym count ∙ z))),
      first_part c.requires c.put_head-begun.ensures (λ z. c.if-count-eq0.false (sym count ∙ z)),
    )

-- return put(room, first, b")");
pub put-requires-then-count-eq1 : goal.put-requires-then-count-eq1
put-requires-then-count-eq1 t c =
    let count = ap children (sym c.kind_of.ensures) ∙ c.children-count.ensures in
    one_closes c.requires c.put_head-begun.ensures (count ∙ c.if-count-eq1.true) c.put_node-first.ensures

pub returns-then-count-eq1 : goal.returns-then-count-eq1
returns-then-count-eq1 t c =
    let count = ap children (sym c.kind_of.ensures) ∙ c.children-count.ensures in
    puts_one c.put_head-begun.ensures (count ∙ c.if-count-eq1.true) c.put_node-first.ensures c.put-then-count-eq1.ensures

-- let between = put(room, first, b", ");
pub put-between-requires : goal.put-between-requires
put-between-requires t c =
    let count = ap children (sym c.kind_of.ensures) ∙ c.children-count.ensures in
    comma_fits c.requires (λ z. c.if-count-eq0.false (sym count ∙ z)) (λ z. c.if-count-eq1.false (sym count ∙ z)) c.put_head-begun.ensures c.put_node-first.ensures

-- let second = put_node(names, table, second_at(table, i), room, between);
pub second_at-requires : goal.second_at-requires
second_at-requires t c =
    let count = ap children (sym c.kind_of.ensures) ∙ c.children-count.ensures in
    second_inside c.requires (λ z. c.if-count-eq0.false (sym count ∙ z)) (λ z. c.if-count-eq1.false (sym count ∙ z))

pub put_node-second-requires : goal.put_node-second-requires
put_node-second-requires t c =
    let count = ap children (sym c.kind_of.ensures) ∙ c.children-count.ensures in
    let there = second_part_lem c.requires (λ z. c.if-count-eq0.false (sym count ∙ z)) (λ z. c.if-count-eq1.false (sym count ∙ z)) c.put_head-begun.ensures
    c.put_node-first.ensures c.put-between.ensures in
    rw c.second_at.ensures (
      omega (arith, second_less c.requires (λ z. c.if-count-eq0.false (sym count ∙ z)) (λ z. c.if-count-eq1.false (sym count ∙ z))),
      there,
    )

-- put(room, second, b")")
pub put-requires-2 : goal.put-requires-2
put-requires-2 t c =
    let count = ap children (sym c.kind_of.ensures) ∙ c.children-count.ensures in
    let second = rw c.second_at.ensures at c.put_node-second.ensures in
    two_closes c.requires (λ z. c.if-count-eq0.false (sym count ∙ z)) (λ z. c.if-count-eq1.false (sym count ∙ z)) c.put_head-begun.ensures c.put_node-first.ensures
    c.put-between.ensures second

-- pub fn put_node
pub returns : goal.returns
returns t c =
    let count = ap children (sym c.kind_of.ensures) ∙ c.children-count.ensures in
    let second = rw c.second_at.ensures at c.put_node-second.ensures in
    puts_two c.put_head-begun.ensures (λ z. c.if-count-eq0.false (sym count ∙ z)) (λ z. c.if-count-eq1.false (sym count ∙ z)) c.put_node-first.ensures c.put-between.ensures second c.put-2.ensures
