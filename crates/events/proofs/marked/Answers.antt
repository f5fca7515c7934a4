-- `marked` meets its contract: the code reads the event's digit, and past the words nothing is marked.
use mathlib.Core.Path.{refl, sym}
use native.Mathlib.Omega.{arith}
use borrow.Author.Rules.{rules}
use Rattle.events.specs.Members.{marks}
use Rattle.events.proofs.Words.{marks_past}
use Rattle.events.proofs.marked.Goals as goal

-- return (words[at] >> (event % 64)) % 2 == 1;
pub returns-then-at-words : goal.returns-then-at-words
unfolding marks
returns-then-at-words c = refl

-- pub fn marked
pub returns : goal.returns
returns c =
    sym (marks_past c.args.words.now c.args.event (omega arith))
