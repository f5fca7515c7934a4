-- `waiting::enter` meets its contract, by that of `mark`: the words have all the places.
use mathlib.Core.Path.{sym, ◌∙◌}
use native.Mathlib.Omega.{arith}
use borrow.Author.Tests.{ne_eqb}
use Rattle.waiting.proofs.Standing.{own_bytes, own_record}
use Rattle.waiting.proofs.enter.Goals as goal

-- if kind_at(table, i) == kinds::LOCAL {
pub kind_at-requires : goal.kind_at-requires
kind_at-requires c = omega (arith, (own_record c.requires.some_stands.1).0)

-- mark(words, argument_at(table, i), state[4 * i] == PLUS);
pub argument_at-requires : goal.argument_at-requires
argument_at-requires c = omega (arith, (own_record c.requires.some_stands.1).0)

pub overflow_mul-i : goal.overflow_mul-i
overflow_mul-i c = omega (arith, (own_record c.requires.some_stands.1).1)

pub bounds-state-i : goal.bounds-state-i
bounds-state-i c =
    let l = own_bytes c.requires.some_stands.1 in omega arith

-- fn enter
pub returns-then-kind_at-eq-LOCAL : goal.returns-then-kind_at-eq-LOCAL
returns-then-kind_at-eq-LOCAL c =
    rw (sym c.kind_at.ensures.0 ∙ c.if-kind_at-eq-LOCAL.true, sym c.argument_at.ensures.0) (rw c.requires.words_long at c.mark.ensures)

pub returns-else-kind_at-eq-LOCAL : goal.returns-else-kind_at-eq-LOCAL
returns-else-kind_at-eq-LOCAL c =
    rw (ne_eqb _ 12 (λ e. c.if-kind_at-eq-LOCAL.false (c.kind_at.ensures.0 ∙ e)))
