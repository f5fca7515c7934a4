-- Whether an event is present, by its digit in its word.
use mathlib.Core.Path.{refl}
use Rattle.events.specs.Members.{marks}
use Rattle.steps.proofs.progress.Progress.has_event.Goals as goal

pub returns : goal.returns
unfolding marks
returns c = refl
