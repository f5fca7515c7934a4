-- How often a repetition's body is run: by its count, or by the lesser of its cap and its value.
use borrow.Author.Tests.{eq-eqb, ne_eqb}
use mathlib.Core.Path.{sym, ◌∙◌}
use Rattle.steps.proofs.progress.Progress.times_at.Goals as goal

-- return argument;
pub returns-then-kind_at-eq-REPEAT : goal.returns-then-kind_at-eq-REPEAT
returns-then-kind_at-eq-REPEAT c =
    rw (eq-eqb _ _ (sym c.kind_at.ensures.0 ∙ c.if-kind_at-eq-REPEAT.true)) c.argument_at-argument.ensures.0

-- pub fn times_at
pub returns : goal.returns
returns c =
    rw (ne_eqb _ _ (λ e. c.if-kind_at-eq-REPEAT.false (c.kind_at.ensures.0 ∙ e)), ← c.argument_at-argument.ensures.0) c.times_asked.ensures
