-- Two tests.
use borrow.Author.Tests.{lt-ltb, le-ltb}
use Rattle.state.proofs.resting.counted.Goals as goal

pub returns-then-own-gt-PHASE : goal.returns-then-own-gt-PHASE
returns-then-own-gt-PHASE c = rw (lt-ltb _ _ c.if-own-gt-PHASE.true)

pub returns-else-own-gt-PHASE : goal.returns-else-own-gt-PHASE
returns-else-own-gt-PHASE c = rw (le-ltb _ _ c.if-own-gt-PHASE.false)
