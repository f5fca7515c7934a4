-- A value of the box, by its eight digits in its number.
use Rattle.steps.proofs.Kept.{value_at}
use Rattle.steps.proofs.progress.Progress.value_of.Goals as goal

pub returns : goal.returns
returns c = value_at c.args.self.now c.args.v c.requires
