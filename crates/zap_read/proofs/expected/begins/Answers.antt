-- `begins` meets its contract.
use Rattle.zap_read.proofs.Expecting.{fails_begins}
use Rattle.zap_read.proofs.expected.begins.Goals as goal

pub returns-in-Some : goal.returns-in-Some
returns-in-Some c = fails_begins c.in-Some.ensures
