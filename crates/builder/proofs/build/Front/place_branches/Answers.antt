-- `place_branches` meets its contract: the label and the argument of the node in front.
use Rattle.builder.proofs.TableHolds.{nodes_start, nodes_small}
use Rattle.builder.proofs.PlacedByFunctions.{branches_done}
use Rattle.builder.proofs.build.Front.place_branches.Goals as goal

-- label(&mut table[self.node..self.middle], kind, argument);
pub slice_bounds-label-count : goal.slice_bounds-label-count
slice_bounds-label-count c =
    nodes_start c.requires.3

pub label-requires : goal.label-requires
label-requires c =
    nodes_small c.requires.3

-- fn place_branches
pub returns : goal.returns
returns c =
    branches_done c.args.kind c.args.argument _ c.label.ensures
