-- `table::nodes::place_as` meets its contract: a node that is good takes up its parts and waits.
use mathlib.Core.Path.{refl, sym, ◌∙◌}
use native.Mathlib.Omega.{arith}
use Rattle.table.proofs.Judged.{own_kind}
use Rattle.table.proofs.Placing.{tested_among, leaf_full, leaf_placed, few_nodes, first_taken, first_small, body_placed}
use Rattle.table.proofs.Placing.{is_two, two_wait, both_small, pair_placed}
use Rattle.table.proofs.Waits.{waiting_row}
use Rattle.table.proofs.nodes.place_as.Goals as goal

-- if !good_as(table, m, v, i, k, laid_behind(table, i, count, top)) {
pub laid_behind-requires-clause-row : goal.laid_behind-requires-clause-row
laid_behind-requires-clause-row c = waiting_row _ _ _ _ c.requires.to_place.waits

-- return None;
pub returns-then-top-eq64 : goal.returns-then-top-eq64
returns-then-top-eq64 c fine =
    let good = sym c.good_as.ensures ∙ c.if-not-good_as.false in
    let own = own_kind c.args.table.now c.args.i c.args.k c.requires.head_is in
    leaf_full c.requires.to_place good own (c.children-count.ensures ∙ c.in-0.is) refl c.if-top-eq64.true

-- row[top] = single(k, early_for(table, i, k, early));
pub early_for-requires-clause-among : goal.early_for-requires-clause-among
early_for-requires-clause-among c = let good = sym c.good_as.ensures ∙ c.if-not-good_as.false in
    let own = own_kind c.args.table.now c.args.i c.args.k c.requires.head_is in tested_among _ _ _ good own

pub returns-else-top-eq64 : goal.returns-else-top-eq64
returns-else-top-eq64 c =
    let good = sym c.good_as.ensures ∙ c.if-not-good_as.false in
    let own = own_kind c.args.table.now c.args.i c.args.k c.requires.head_is in
    let R = c.requires.to_place in
    let room = R.room in
    leaf_placed R good own (c.children-count.ensures ∙ c.in-0.is) _ refl (omega arith) _ c.early_for.ensures _ c.single.ensures

-- let x = row[top - 1];
pub overflow_sub-x : goal.overflow_sub-x
overflow_sub-x c =
    let good = sym c.good_as.ensures ∙ c.if-not-good_as.false in
    let own = own_kind c.args.table.now c.args.i c.args.k c.requires.head_is in
    (first_taken c.requires.to_place good own (c.children-count.ensures ∙ c.in-1.is) (λ e. omega arith)).some

-- row[top - 1] = wrapped(k, argument_at(table, i), size_at(table, i), x);
pub wrapped-requires : goal.wrapped-requires
wrapped-requires c =
    let good = sym c.good_as.ensures ∙ c.if-not-good_as.false in
    let own = own_kind c.args.table.now c.args.i c.args.k c.requires.head_is in
    let R = c.requires.to_place in
    let counted = c.children-count.ensures ∙ c.in-1.is in (
      c.argument_at.ensures.1,
      rw c.size_at.ensures.0 (few_nodes R good own counted),
      first_small R good own counted (λ e. omega arith),
    )

pub overflow_sub-top : goal.overflow_sub-top
overflow_sub-top c =
    let good = sym c.good_as.ensures ∙ c.if-not-good_as.false in
    let own = own_kind c.args.table.now c.args.i c.args.k c.requires.head_is in
    (first_taken c.requires.to_place good own (c.children-count.ensures ∙ c.in-1.is) (λ e. omega arith)).some

pub returns-in-1 : goal.returns-in-1
returns-in-1 c =
    let good = sym c.good_as.ensures ∙ c.if-not-good_as.false in
    let own = own_kind c.args.table.now c.args.i c.args.k c.requires.head_is in
    let weighs = rw (c.argument_at.ensures.0, c.size_at.ensures.0) at c.wrapped.ensures in
    body_placed c.requires.to_place good own (c.children-count.ensures ∙ c.in-1.is) _ _ refl c.keep_endless.ensures _ weighs

-- let e = early_for(table, i, k, early);
pub early_for-e-requires-clause-among : goal.early_for-e-requires-clause-among
early_for-e-requires-clause-among c = let good = sym c.good_as.ensures ∙ c.if-not-good_as.false in
    let own = own_kind c.args.table.now c.args.i c.args.k c.requires.head_is in tested_among _ _ _ good own

-- row[top - 2] = joined(k, e, row[top - 1], row[top - 2]);
pub overflow_sub-top-in_default : goal.overflow_sub-top-in_default
overflow_sub-top-in_default c =
    let good = sym c.good_as.ensures ∙ c.if-not-good_as.false in
    let own = own_kind c.args.table.now c.args.i c.args.k c.requires.head_is in
    let two = is_two c.requires.to_place good own c.children-count.ensures (λ e. omega arith) (λ e. omega arith) in
    omega (arith, two_wait c.requires.to_place good own c.children-count.ensures two)

pub overflow_sub-top-in_default-2 : goal.overflow_sub-top-in_default-2
overflow_sub-top-in_default-2 c =
    let good = sym c.good_as.ensures ∙ c.if-not-good_as.false in
    let own = own_kind c.args.table.now c.args.i c.args.k c.requires.head_is in
    let two = is_two c.requires.to_place good own c.children-count.ensures (λ e. omega arith) (λ e. omega arith) in
    two_wait c.requires.to_place good own c.children-count.ensures two

pub joined-requires : goal.joined-requires
joined-requires c =
    let good = sym c.good_as.ensures ∙ c.if-not-good_as.false in
    let own = own_kind c.args.table.now c.args.i c.args.k c.requires.head_is in
    let two = is_two c.requires.to_place good own c.children-count.ensures (λ e. omega arith) (λ e. omega arith) in
    both_small c.requires.to_place good own c.children-count.ensures two

pub overflow_sub-top-in_default-3 : goal.overflow_sub-top-in_default-3
overflow_sub-top-in_default-3 c =
    let good = sym c.good_as.ensures ∙ c.if-not-good_as.false in
    let own = own_kind c.args.table.now c.args.i c.args.k c.requires.head_is in
    let two = is_two c.requires.to_place good own c.children-count.ensures (λ e. omega arith) (λ e. omega arith) in
    two_wait c.requires.to_place good own c.children-count.ensures two

-- Some(top - 1)
pub overflow_sub-result : goal.overflow_sub-result
overflow_sub-result c =
    let good = sym c.good_as.ensures ∙ c.if-not-good_as.false in
    let own = own_kind c.args.table.now c.args.i c.args.k c.requires.head_is in
    let two = is_two c.requires.to_place good own c.children-count.ensures (λ e. omega arith) (λ e. omega arith) in
    omega (arith, two_wait c.requires.to_place good own c.children-count.ensures two)

pub returns-in_default : goal.returns-in_default
returns-in_default c =
    let good = sym c.good_as.ensures ∙ c.if-not-good_as.false in
    let own = own_kind c.args.table.now c.args.i c.args.k c.requires.head_is in
    let two = is_two c.requires.to_place good own c.children-count.ensures (λ e. omega arith) (λ e. omega arith) in
    pair_placed c.requires.to_place good own c.children-count.ensures _ two _ c.early_for-e.ensures _ c.joined.ensures
