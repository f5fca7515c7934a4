-- `EventSet::forced` meets its contract: what `by` holds has a place.
use mathlib.Core.Path.{◌≡◌}
use Prim.Native.Nat.{◌/◌}
use borrow.Author.Rules.{rules}
use lib.ListN.{length}
use Rattle.events.specs.Members.{places}
use Rattle.events.proofs.Words.{marks_placed}
use Rattle.events.proofs.EventSet.forced.Goals as goal

-- pub fn forced
pub returns : goal.returns
returns c =
    let holds = c.holds in
    let put = c.put in
    let long : length c.args.by.words ≡ places / 64 = search rules in
    rw (holds.ensures, rw long at (marks_placed c.args.by.words c.args.event)) at put.ensures
