-- `table::weights::wrapped` meets its contract: a Loop, a Repeat and a RepeatExt count their part as often as their figure does, any other once.
use mathlib.Core.Path.{sym, ◌∙◌}
use native.Mathlib.Omega.{arith}
use Rattle.table.specs.declared.kinds.Kind.TheVariants.{Loop, Repeat, Freezable, RepeatExt}
use Rattle.table.proofs.ByNumber.{same_kind}
use Rattle.table.proofs.Weighed.{loop_weighs, never_weighs, repeat_weighs, capped_weighs, freezable_weighs, under_weighs}
use borrow.Author.Rules.{rules}
use Rattle.table.proofs.weights.wrapped.Goals as goal

pub returns-in-Loop : goal.returns-in-Loop
returns-in-Loop c p q v n e s w = rw c.twice.ensures (loop_weighs v n (sym (rw c.in-Loop.is at e)) w)

-- Kind::Repeat if count == 0 => repeated(0, x, 0),
pub returns-in-Repeat : goal.returns-in-Repeat
returns-in-Repeat c p q v n e s w =
    rw c.repeated.ensures (never_weighs v n (sym (rw c.in-Repeat.is at e)) c.if-count-eq0.true w)

pub returns-in-Repeat-2 : goal.returns-in-Repeat-2
returns-in-Repeat-2 c p q v n e s w =
    rw
    c.repeated-in-Repeat-2.ensures
    (repeat_weighs v n (sym (rw c.in-Repeat-2.is at e)) c.if-count-eq0.false _ c.times_of.ensures.0 w)

pub returns-in-RepeatExt : goal.returns-in-RepeatExt
returns-in-RepeatExt c p q v n e s w =
    rw
    c.repeated-in-RepeatExt.ensures
    (capped_weighs v n (sym (rw c.in-RepeatExt.is at e)) _ c.times_of-in-RepeatExt.ensures.0 w)

pub returns-in-Freezable : goal.returns-in-Freezable
returns-in-Freezable c p q v n e s w =
    rw c.once.ensures (freezable_weighs v n (sym (rw c.in-Freezable.is at e)) _ (rw s) (omega arith) w)

-- _ => once(x, 0, x.stops),
pub returns-in_default : goal.returns-in_default
returns-in_default c p q v n e s w =
    let other = c.in_default in
    rw
    c.once-in_default.ensures
    (under_weighs v n
    (λ z. other.not-Loop (same_kind _ Loop (e ∙ z)))
    (λ z. other.not-Repeat (same_kind _ Repeat (e ∙ z)))
    (λ z. other.not-RepeatExt (same_kind _ RepeatExt (e ∙ z)))
    (λ z. other.not-Freezable (same_kind _ Freezable (e ∙ z)))
    w)
