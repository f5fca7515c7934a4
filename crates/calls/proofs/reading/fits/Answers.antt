-- `fits` meets its contract: the three tests are the definition's.
use borrow.Author.Rules.{rules}
use Rattle.calls.specs.Inside.{fitting}
use Rattle.calls.proofs.reading.fits.Goals as goal

pub returns : goal.returns
unfolding fitting
returns c = search rules
