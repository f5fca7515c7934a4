-- `place_joint` meets its contract: a node over the two in front, of a kind that is not known yet.
use Rattle.builder.proofs.TableHolds.{ready_in, places_in}
use Rattle.builder.proofs.PlacedByFunctions.{joint_here}
use Rattle.builder.proofs.build.Front.place_joint.Goals as goal

-- self.place_node(table, UNKNOWN, 0, size);
pub place_node-requires : goal.place_node-requires
place_node-requires c =
    ready_in {t = c.args.table.now} {f = c.args.self.now} (λ n m s h. joint_here h c.joined_size-size.result c.joined_size-size.ensures) c.requires

-- fn place_joint
pub returns : goal.returns
returns c =
    places_in (λ n m s h. joint_here h c.joined_size-size.result c.joined_size-size.ensures) c.place_node.ensures
