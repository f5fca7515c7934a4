-- `put_wait` meets its contract: word by word, every place a number of 64 bits.
use native.Mathlib.Omega.{arith}
use Rattle.player.proofs.WaitLine.{small, few, shows_wait}
use Rattle.player.proofs.under.put_wait.Goals as goal

-- let node = put_number(room, begun, waits.node);
pub put_number-node-requires : goal.put_number-node-requires
put_number-node-requires c =
    let lengths = few c.requires.placed (small c.args.waits _ c.well_formed.1.0) in
    record { below = omega (arith, c.requires.below, lengths, c.put-begun.ensures.next) }

-- let inside = put(room, node, b" in ");
pub put-inside-requires : goal.put-inside-requires
put-inside-requires c =
    let lengths = few c.requires.placed (small c.args.waits _ c.well_formed.1.0) in
    record { below = omega (arith, c.requires.below, lengths, c.put-begun.ensures.next, c.put_number-node.ensures.next) }

-- let test = put_outline(table, waits.node, room, inside);
pub put_outline-test-requires : goal.put_outline-test-requires
put_outline-test-requires c =
    let lengths = few c.requires.placed (small c.args.waits _ c.well_formed.1.0) in
    record {
      program = c.requires.test;
      placed = c.requires.placed;
      fits = record { below = omega (arith, c.requires.below, lengths, c.put-begun.ensures.next, c.put_number-node.ensures.next, c.put-inside.ensures.next) };
    }

-- let lacking = put(room, test, b" for event ");
pub put-lacking-requires : goal.put-lacking-requires
put-lacking-requires c =
    let lengths = few c.requires.placed (small c.args.waits _ c.well_formed.1.0) in
    let shown = (c.put_outline-test.ensures.puts c.requires.test c.requires.placed.spelled).next in
    record { below = omega (arith, c.requires.below, lengths, c.put-begun.ensures.next, c.put_number-node.ensures.next, c.put-inside.ensures.next, shown) }

-- let event = put_number(room, lacking, waits.event);
pub put_number-event-requires : goal.put_number-event-requires
put_number-event-requires c =
    let lengths = few c.requires.placed (small c.args.waits _ c.well_formed.1.0) in
    let shown = (c.put_outline-test.ensures.puts c.requires.test c.requires.placed.spelled).next in
    record {
      below = omega (arith, c.requires.below, lengths, c.put-begun.ensures.next, c.put_number-node.ensures.next, c.put-inside.ensures.next, shown, c.put-lacking.ensures.next);
    }

-- put(room, event, b"\n")
pub put-requires : goal.put-requires
put-requires c =
    let lengths = few c.requires.placed (small c.args.waits _ c.well_formed.1.0) in
    let shown = (c.put_outline-test.ensures.puts c.requires.test c.requires.placed.spelled).next in
    record {
      below = omega (
        arith,
        c.requires.below,
        lengths,
        c.put-begun.ensures.next,
        c.put_number-node.ensures.next,
        c.put-inside.ensures.next,
        shown,
        c.put-lacking.ensures.next,
        c.put_number-event.ensures.next,
      );
    }

-- fn put_wait
pub returns : goal.returns
returns c =
    shows_wait c.put-begun.ensures c.put_number-node.ensures c.put-inside.ensures c.put_outline-test.ensures c.put-lacking.ensures c.put_number-event.ensures
    c.put.ensures
