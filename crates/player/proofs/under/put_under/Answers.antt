-- `put_under` meets its contract: nobody asks, the end was never declared, or the line is put.
use native.Mathlib.Omega.{arith}
use Rattle.player.proofs.WaitLine.{small}
use Rattle.player.proofs.StandsUnder.{nobody_asks, not_declared, can_be_shown, wait_under}
use Rattle.player.proofs.under.put_under.Goals as goal

-- return at;
pub returns-then-not-why : goal.returns-then-not-why
returns-then-not-why c =
    nobody_asks c.args.why c.args.room.now c.args.at c.requires.room_enough c.if-not-why.true

pub returns-then-waits-eq-NO_NODE : goal.returns-then-waits-eq-NO_NODE
returns-then-waits-eq-NO_NODE c =
    not_declared c.args.why c.args.room.now c.args.at c.requires.room_enough c.if-not-why.false c.if-waits-eq-NO_NODE.true

-- put_wait(table, waits, room, at)
pub put_wait-requires : goal.put_wait-requires
put_wait-requires c =
    can_be_shown c.requires.one_of_its_nodes c.if-waits-eq-NO_NODE.false (omega (arith, c.requires.room_enough))

-- pub fn put_under
pub returns : goal.returns
returns c =
    let event = small c.args.waits _ c.well_formed.1.0 in
    wait_under c.requires.one_of_its_nodes c.if-waits-eq-NO_NODE.false c.args.why c.if-not-why.false event c.requires.room_enough c.put_wait.ensures
