-- `place_capped` meets its contract: a node over one part, with its two numbers.
use Rattle.builder.proofs.TableHolds.{ready_in, places_in}
use Rattle.builder.proofs.PlacedByFunctions.{capped_here}
use Rattle.builder.proofs.build.Front.place_capped.Goals as goal

-- self.place_node(table, kind, argument, size);
pub place_node-requires : goal.place_node-requires
place_node-requires c =
    ready_in {t = c.args.table.now} {f = c.args.self.now} (λ n m s h. capped_here h c.own_size-size.result c.args.kind c.capped_number-argument.result c.args.text.now
    c.own_size-size.ensures c.capped_number-argument.ensures) c.requires

-- fn place_capped
pub returns : goal.returns
returns c =
    places_in (λ n m s h. capped_here h c.own_size-size.result c.args.kind c.capped_number-argument.result c.args.text.now
    c.own_size-size.ensures c.capped_number-argument.ensures) c.place_node.ensures
