use Rattle.table.specs.Records.{size_at}
use Rattle.printer.proofs.spelled.+put_node.Given as goal

abbrev pub decreases-put_node : goal.decreases-put_node
decreases-put_node l = size_at l.table.now l.i
