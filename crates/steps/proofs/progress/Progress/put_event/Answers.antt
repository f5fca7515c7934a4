-- An event is put into its word: E+S or E-S, all else kept.
use borrow.Author.Rules.{rules}
use mathlib.Core.Path.{◌≡◌}
use lib.ListN.{length}
use Rattle.table.specs.Reading.{event_words}
use Rattle.steps.specs.Progress.{words_of}
use Rattle.steps.proofs.Kept.{puts}
use Rattle.steps.proofs.progress.Progress.put_event.Goals as goal

-- pub fn put_event
pub returns : goal.returns
returns c =
    let long : length (words_of c.args.self.now) ≡ event_words = search rules in
    puts _ _ long c.requires _ _ c.put_digit.ensures
