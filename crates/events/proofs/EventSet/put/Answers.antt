-- `EventSet::put` meets its contract, by that of `mark`: a set's words have all the places.
use mathlib.Core.Path.{◌≡◌}
use Prim.Native.Nat.{◌*◌}
use borrow.Author.Rules.{rules}
use lib.ListN.{length}
use Rattle.events.specs.Members.{places}
use Rattle.events.proofs.EventSet.put.Goals as goal

-- fn put
pub returns : goal.returns
returns c =
    let mark = c.mark in
    let long : 64 * length c.args.self.words ≡ places = search rules in
    rw long at mark.ensures
