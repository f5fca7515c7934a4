-- `place_await` meets its contract: its test, and a node with the test's number.
use Rattle.builder.proofs.PlacedByFunctions.{await_first, await_second, await_done}
use Rattle.builder.proofs.build.Front.place_await.Goals as goal

-- self.place_event(text, table);
pub place_event-requires : goal.place_event-requires
place_event-requires c =
    await_first c.args.kind c.args.text.now c.requires

-- self.place_node(table, kind, self.left, 1);
pub place_node-requires : goal.place_node-requires
place_node-requires c =
    await_second c.args.kind c.args.text.now c.requires c.place_event.ensures

-- fn place_await
pub returns : goal.returns
returns c =
    await_done c.args.kind c.args.text.now c.place_event.ensures c.place_node.ensures
