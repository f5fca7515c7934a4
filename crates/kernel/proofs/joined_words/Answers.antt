-- `joined_words` meets its contract: those so far, with those left, are all.
use mathlib.Core.Path.{refl, sym, ◌∙◌}
use native.Mathlib.Omega.{arith}
use Rattle.kernel.proofs.Unlisted.{join_more, join_all}
use Rattle.kernel.proofs.joined_words.Goals as goal

pub loop-word-init : goal.loop-word-init
loop-word-init c = refl

pub loop-word-preserved : goal.loop-word-preserved
loop-word-preserved c = join_more c.loop-word.all c.args.words.now c.loop-word.word-index (omega arith) ∙ c.loop-word.invariant

pub returns : goal.returns
returns c = sym (join_all c.loop-word.all c.args.words.now c.loop-word.word-index (omega arith)) ∙ c.loop-word.invariant
