-- `place_row` meets its contract: a node over two, and its kind for all that follow one another.
use Rattle.builder.proofs.TableHolds.{nodes_start, nodes_end, nodes_small}
use Rattle.builder.proofs.PlacedByFunctions.{row_first, row_held, row_done}
use Rattle.builder.proofs.build.Front.place_row.Goals as goal

-- self.place_joint(table);
pub place_joint-requires : goal.place_joint-requires
place_joint-requires c =
    row_first c.args.kind c.requires

-- spread(&mut table[self.node..self.middle], kind);
pub slice_bounds-spread-count : goal.slice_bounds-spread-count
slice_bounds-spread-count c =
    let g = row_held c.args.kind c.requires c.place_joint.ensures in
    nodes_start g

pub slice_bounds-spread-start : goal.slice_bounds-spread-start
slice_bounds-spread-start c =
    let g = row_held c.args.kind c.requires c.place_joint.ensures in
    nodes_start g

pub slice_bounds-spread-end : goal.slice_bounds-spread-end
slice_bounds-spread-end c =
    let g = row_held c.args.kind c.requires c.place_joint.ensures in
    nodes_end g

pub spread-requires : goal.spread-requires
spread-requires c =
    let g = row_held c.args.kind c.requires c.place_joint.ensures in
    nodes_small g

-- fn place_row
pub returns : goal.returns
returns c =
    row_done c.args.kind _ c.place_joint.ensures c.spread.ensures
