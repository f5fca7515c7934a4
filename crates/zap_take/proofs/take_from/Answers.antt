-- `take_from` is safe and ends: what was taken is within its rooms.
use Rattle.std.proofs.Common.{arith, sym}
use Rattle.std.proofs.Math.Seq.{length-take-le}
use Rattle.zap_take.proofs.Within.{taken_within}
use Rattle.zap_take.proofs.take_from.Goals as goal

-- &piece_table[..table_length],
pub slice_bounds-piece_table-end : goal.slice_bounds-piece_table-end
slice_bounds-piece_table-end g c =
    omega (arith, taken_within (rw c.in-Ok.is at c.take-taken.ensures), c.take-taken.auto.table_room)

pub slice_bounds-write_piece-end : goal.slice_bounds-write_piece-end
slice_bounds-write_piece-end g c =
    let take = c.take-taken in
    sym (length-take-le _ _ (omega (arith, taken_within (rw c.in-Ok.is at take.ensures), take.auto.table_room)))

-- &piece_state[..state_length],
pub slice_bounds-piece_state-end : goal.slice_bounds-piece_state-end
slice_bounds-piece_state-end g c =
    omega (arith, taken_within (rw c.in-Ok.is at c.take-taken.ensures), c.take-taken.auto.state_room)

pub slice_bounds-write_piece-end-in-Ok : goal.slice_bounds-write_piece-end-in-Ok
slice_bounds-write_piece-end-in-Ok g c =
    let take = c.take-taken in
    sym (length-take-le _ _ (omega (arith, taken_within (rw c.in-Ok.is at take.ensures), take.auto.state_room)))
