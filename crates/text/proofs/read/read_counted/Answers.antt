-- `read_counted` meets its contract: the part of the longest room that it lends is as long as the table.
use mathlib.Core.Path.{sym}
use native.Mathlib.Omega.{arith}
use lib.Seq.{length-take-le}
use Rattle.text.proofs.read.read_counted.Goals as goal

-- read_through(text, sizes, &mut made[..long], table)
pub slice_bounds-read_through-end : goal.slice_bounds-read_through-end
slice_bounds-read_through-end c =
    let (p, h) = c.requires.buildable in
    sym (length-take-le c.args.long c.zeros-made.result (omega (arith, h.long, h.small, c.zeros-made.ensures.long)))

pub read_through-requires : goal.read_through-requires
read_through-requires c =
    let (p, h) = c.requires.buildable in
    rw (length-take-le c.args.long c.zeros-made.result (omega (arith, h.long, h.small, c.zeros-made.ensures.long)))
    (record { buildable = c.requires.buildable; room_enough = c.requires.room_enough })
