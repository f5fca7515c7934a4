-- `put_events` meets its contract: the events in the first i words are written, a comma behind each.
use mathlib.Core.Path.{◌≡◌, refl}
use Prim.Native.Nat.{◌*◌}
use native.Mathlib.Omega.{arith}
use lib.ListN.{get_or}
use Rattle.events.specs.Members.{places, members}
use Rattle.letters.proofs.Writes.{writes_none, writes_then}
use Rattle.listing.specs.Output.{rising}
use Rattle.listing.specs.Inside.{items, events_of}
use Rattle.listing.proofs.Lists.{items_append}
use Rattle.listing.proofs.Rising.{rising_word}
use Rattle.listing.proofs.output.put_events.Goals as goal

pub loop-i-init : goal.loop-i-init
unfolding items rising
loop-i-init c = (omega arith, writes_none c.args.out.now)

pub loop-i-preserved : goal.loop-i-preserved
loop-i-preserved c =
    let words = c.args.events.words in
    let i = c.loop-i.i in (
      omega (arith, c.put_word.ensures.short),
      rw (rising_word words i, items_append (rising (64 * i) (members c.args.events)) (events_of (64 * i) (get_or words i 0)))
          (writes_then c.loop-i.invariant.1 c.put_word.ensures.written),
    )
