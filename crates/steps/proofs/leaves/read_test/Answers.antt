-- What a node's test is read as is what the configuration that it names is read as.
use mathlib.Core.Path.{refl}
use Rattle.steps.proofs.TestsRead.{test_here, test_stands, table_short, test_ranked}
use Rattle.steps.proofs.leaves.read_test.Goals as goal

-- read_configuration(table, c, &progress.events.words, progress.ended)
pub read_configuration-requires : goal.read_configuration-requires
read_configuration-requires c =
    record { configuration_at = rw (test_here c.requires _ c.argument_at.ensures.0) (test_stands c.requires); table_short = table_short c.requires }

-- fn read_test
pub returns : goal.returns
returns c =
    let at = test_here c.requires _ c.argument_at.ensures.0 in
    test_ranked c.requires at c.read_configuration.ensures refl
