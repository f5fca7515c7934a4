-- Whether a node tests a lone event.
use Rattle.steps.proofs.TestsRead.{test_here, lone_found}
use Rattle.steps.proofs.leaves.lone_event.Goals as goal

-- fn lone_event
pub returns : goal.returns
returns c =
    lone_found c.requires (test_here c.requires _ c.argument_at.ensures.0) c.part_kind.ensures.0
