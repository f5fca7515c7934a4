-- `waiting::next_node` meets its contract.
use mathlib.Core.Path.{sym, ◌∙◌}
use native.Mathlib.Omega.{arith}
use borrow.Author.Tests.{eq-eqb, ne_eqb}
use Rattle.waiting.proofs.Standing.{own_bytes, own_record}
use Rattle.waiting.proofs.next_node.Goals as goal

-- if kind_at(table, i) == kinds::PAR {
pub kind_at-requires : goal.kind_at-requires
kind_at-requires c = omega (arith, (own_record c.requires.1).0)

-- if state[4 * i + FLAGS] % 4 == 0 {
pub overflow_mul-i : goal.overflow_mul-i
overflow_mul-i c = omega (arith, (own_record c.requires.1).1)

pub overflow_add-i : goal.overflow_add-i
overflow_add-i c = omega (arith, (own_record c.requires.1).1)

pub bounds-state-i : goal.bounds-state-i
bounds-state-i c = let l = own_bytes c.requires.1 in omega arith

-- return i + 1;
pub overflow_add-result : goal.overflow_add-result
overflow_add-result c = omega (arith, (own_record c.requires.1).1)

pub returns-then-state-i-eq0 : goal.returns-then-state-i-eq0
returns-then-state-i-eq0 c =
    rw (eq-eqb _ 4 (sym c.kind_at.ensures.0 ∙ c.if-kind_at-eq-PAR.true), eq-eqb _ 0 c.if-state-i-eq0.true)

-- return second_at(table, i);
pub second_at-requires : goal.second_at-requires
second_at-requires c = omega (arith, (own_record c.requires.1).0)

pub returns-then-kind_at-eq-PAR : goal.returns-then-kind_at-eq-PAR
returns-then-kind_at-eq-PAR c =
    rw (eq-eqb _ 4 (sym c.kind_at.ensures.0 ∙ c.if-kind_at-eq-PAR.true), ne_eqb _ 0 c.if-state-i-eq0.false) c.second_at.ensures

-- if state[4 * i] == SECOND {
pub overflow_mul-i-2 : goal.overflow_mul-i-2
overflow_mul-i-2 c = omega (arith, (own_record c.requires.1).1)

pub bounds-state-i-2 : goal.bounds-state-i-2
bounds-state-i-2 c = let l = own_bytes c.requires.1 in omega arith

-- return second_at(table, i);
pub second_at-requires-then-state-i-eq-SECOND : goal.second_at-requires-then-state-i-eq-SECOND
second_at-requires-then-state-i-eq-SECOND c = omega (arith, (own_record c.requires.1).0)

pub returns-then-state-i-eq-SECOND : goal.returns-then-state-i-eq-SECOND
returns-then-state-i-eq-SECOND c =
    rw (ne_eqb _ 4 (λ e. c.if-kind_at-eq-PAR.false (c.kind_at.ensures.0 ∙ e)), eq-eqb _ 2 c.if-state-i-eq-SECOND.true) c.second_at-then-state-i-eq-SECOND.ensures

-- i + 1
pub overflow_add-result-2 : goal.overflow_add-result-2
overflow_add-result-2 c = omega (arith, (own_record c.requires.1).1)

pub returns : goal.returns
returns c =
    rw (ne_eqb _ 4 (λ e. c.if-kind_at-eq-PAR.false (c.kind_at.ensures.0 ∙ e)), ne_eqb _ 2 c.if-state-i-eq-SECOND.false)
