-- `Writer::text` meets its contract: the text's bytes stand in their part of the room.
use Prim.Native.Nat.{◌+◌, ◌-◌}
use mathlib.Core.Path.{◌≡◌, refl, ap, ◌∙◌}
use native.Mathlib.Omega.{arith}
use lib.ListN.{length}
use borrow.Rule.Slice.PartMut.{put_mid}
use lib.Seq.{length-sets}
use Rattle.letters.proofs.Rooms.{sets_part}
use Rattle.letters.proofs.Writer.text.Goals as goal

pub returns : goal.returns
returns c =
    let at = c.args.self.now.at in
    let room = c.args.self.now.room.now in
    let text = c.args.text.now in
    let k = at + length text - at in
    let n : k ≡ length text = omega arith in
    let put = ap (put_mid at k room) c.copy_from_slice.ensures.after ∙ sets_part room text at k n c.requires in
    record { same_room = refl; long = ap length put ∙ length-sets room at text; puts = record { next = refl; room = put } }
