-- What a repetition's body runs at most fits.
use Rattle.state.proofs.resting.Node.count_rests.Goals as goal

pub counted-requires : goal.counted-requires
counted-requires c = c.in-Some.ensures.2
