-- `put` meets its contract: before byte k the first k bytes are in the room.
use mathlib.Core.Path.{◌≡◌, refl, sym}
use native.Mathlib.Omega.{arith}
use native.Mathlib.Nat.{add-zero}
use lib.ListN.{length}
use lib.Seq.{take-length}
use Rattle.letters.proofs.Rooms.{sets_past}
use Rattle.letters.proofs.Puts.{puts_none, puts_byte}
use Rattle.printer.proofs.room.put.Goals as goal

-- return at + w.len();
pub returns-then-room-at : goal.returns-then-room-at
returns-then-room-at c = record { next = refl; room = sym (sets_past c.args.room.now c.args.w.now c.args.at c.if-room-at.true) }

pub loop-k-init : goal.loop-k-init
loop-k-init c = rw (add-zero c.args.at) (puts_none c.args.room.now c.args.at)

pub loop-k-preserved : goal.loop-k-preserved
loop-k-preserved c = puts_byte c.args.w.now c.loop-k.k c.loop-k-test.true c.loop-k.invariant c.store.ensures

pub returns : goal.returns
returns c =
    let e : c.loop-k.k ≡ length c.args.w.now = omega arith in
    rw (e, take-length c.args.w.now) at c.loop-k.invariant
