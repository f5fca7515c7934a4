use Rattle.table.specs.Records.{part_size}
use Rattle.printer.proofs.spelled.+put_test.Given as goal

abbrev pub decreases-put_test : goal.decreases-put_test
decreases-put_test l = part_size l.table.now l.c
