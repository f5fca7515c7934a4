-- `joined_words` meets its contract: those so far, with those left, are all.
use mathlib.Core.Path.{◌≡◌}
use lib.ListN.{drop}
use Rattle.kernel.specs.Lowest.{joined}
use Rattle.kernel.proofs.joined_words.Given as goal

abbrev pub invariant-loop-word : goal.invariant-loop-word
invariant-loop-word l = joined l.all (drop l.word-index l.words) ≡ joined 0 l.words
