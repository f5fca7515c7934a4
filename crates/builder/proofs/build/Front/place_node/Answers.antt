-- `place_node` meets its contract: a node in front of those that are placed.
use Rattle.builder.proofs.TableHolds.{node_fits, node_placed}
use mathlib.Core.Path.{refl}
use Rattle.builder.proofs.build.Front.place_node.Goals as goal

-- put_node(table, self.node, kind, argument, size);
pub put_node-requires : goal.put_node-requires
put_node-requires c =
    node_fits c.requires.3 c.args.kind c.args.argument c.args.size c.requires.4

-- fn place_node
pub returns : goal.returns
returns c =
    λ n m s h r. node_placed h c.args.kind c.args.argument c.args.size r _ refl _ c.put_node.ensures
