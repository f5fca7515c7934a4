-- `put_table` meets its contract: the nodes, then what stands behind them.
use native.Mathlib.Omega.{arith}
use Rattle.taking.proofs.Written.{part_ends, table_written}
use Rattle.taking.proofs.pieces.put_table.Goals as goal

-- copy(&table[6 * j..6 * (j + n)], room);
pub slice_bounds-copy-end : goal.slice_bounds-copy-end
slice_bounds-copy-end c =
    let frame = c.requires.loaded.0.framed in
    let inside = part_ends c.requires.loaded.0 c.args.j c.requires.loaded.1 in
    let sized = c.size_at-n.ensures.0 in
    omega arith

-- put_rest(table, n, &mut room[6 * n..]);
pub put_rest-requires-clause-loaded : goal.put_rest-requires-clause-loaded
put_rest-requires-clause-loaded c =
    let sized = c.size_at-n.ensures.0 in
    let inside = part_ends c.requires.loaded.0 c.args.j c.requires.loaded.1 in
    (c.requires.loaded.0, omega arith)

-- pub fn put_table
pub returns : goal.returns
returns c =
    let A = c.args in
    table_written c.requires.loaded.0 A.j _ c.requires.loaded.1 c.size_at-n.ensures.0 A.room.now _ _ c.requires.room_long c.copy.ensures c.put_rest.ensures
