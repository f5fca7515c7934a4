-- `start` meets its contract: the verdict, the room, and the state's bytes all zero.
use Prim.Native.Nat.{◌*◌}
use mathlib.Core.Path.{refl, sym, ap}
use mathlib.Core.List.{◌++◌}
use native.Mathlib.Omega.{arith}
use lib.ListN.{drop}
use lib.Seq.{length-take-le}
use Rattle.std.proofs.lemmas.Result.{err_from_is_err_and}
use Rattle.table.specs.Records.{nodes}
use Rattle.kernel.specs.Answer.{started_room}
use Rattle.kernel.proofs.Accepted.{admitted}
use Rattle.kernel.proofs.Outcomes.{start_refused, start_short, start_ran}
use Rattle.kernel.proofs.start.Goals as goal

-- let n = word_at(table, table.len() - 10);
pub overflow_sub-table : goal.overflow_sub-table
overflow_sub-table c =
    let frame = (admitted c.args.table.now (sym c.in_ok-check.ensures)).loaded.framed in
    omega arith

pub word_at-n-requires : goal.word_at-n-requires
word_at-n-requires c =
    let frame = (admitted c.args.table.now (sym c.in_ok-check.ensures)).loaded.framed in
    omega arith

-- return Err(Refusal::StateRoom);
pub returns-then-state-n : goal.returns-then-state-n
unfolding started_room
returns-then-state-n c =
    let told = sym c.in_ok-check.ensures in
    record {
      outcome_is = start_short c.args.table.now c.args.state.now told (rw c.word_at-n.ensures.0 at c.if-state-n.true);
      room_is = refl;
    }

-- clear(&mut state[..4 * n]);
pub slice_bounds-clear-end-2 : goal.slice_bounds-clear-end-2
slice_bounds-clear-end-2 c =
    sym (length-take-le _ c.args.state.now c.if-state-n.false)

-- pub fn start
pub returns : goal.returns
unfolding started_room
returns c =
    let s = c.args.state.now in
    let room = rw c.word_at-n.ensures.0 at c.if-state-n.false in
    let zeros = rw (length-take-le _ s c.if-state-n.false, c.word_at-n.ensures.0) at c.clear.ensures in
    record {
      outcome_is = start_ran c.args.table.now s (sym c.in_ok-check.ensures) room;
      room_is = rw c.word_at-n.ensures.0 (ap (λ l. l ++ drop (4 * nodes c.args.table.now) s) zeros);
    }

-- check(table)?;
pub returns-in_err-check : goal.returns-in_err-check
unfolding started_room
returns-in_err-check c =
    let (why, is_err, same) = err_from_is_err_and c.from_residual.result c.from_residual.ensures.1 in
    rw (is_err, same) (record { outcome_is = start_refused c.args.table.now c.args.state.now c.in_err-check.ensures; room_is = refl })
