-- `waits_after` meets its contract: by the way down where nothing moved.
use mathlib.Core.Bool.{true≢false}
use mathlib.Core.Path.{refl, sym, ◌∙◌}
use Rattle.kernel.proofs.passes.waits_after.Goals as goal

pub returns-then-pass : goal.returns-then-pass
returns-then-pass c = record { still = λ z. absurd (true≢false (sym c.if-pass.true ∙ z)); moved = λ n. refl }

-- waiting(pass.table, pass.state, pass.progress.events)
pub waiting-requires : goal.waiting-requires
waiting-requires c = c.requires c.if-pass.false

-- fn waits_after
pub returns : goal.returns
returns c = record { still = λ z. c.waiting.ensures; moved = λ n. absurd (true≢false (sym n ∙ c.if-pass.false)) }
