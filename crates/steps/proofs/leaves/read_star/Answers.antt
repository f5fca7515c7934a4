-- An Until* whose test has been read: a rule for each way through it.
use Rattle.steps.specs.Tests.{waits, refused, satisfied_late, satisfied}
use Rattle.steps.proofs.leaves.read_star.Goals as goal

pub returns-in-Unknown : goal.returns-in-Unknown
returns-in-Unknown c = waits c.in-Unknown.is

pub returns-in-Unsat : goal.returns-in-Unsat
returns-in-Unsat c = refused c.in-Unsat.is

pub returns-then-ended : goal.returns-then-ended
returns-then-ended c = rw c.clear_part.ensures (satisfied_late c.in-Sat.is c.if-ended.true)

pub returns-else-ended : goal.returns-else-ended
returns-else-ended c = rw c.clear_part.ensures (satisfied c.in-Sat.is c.if-ended.false)
