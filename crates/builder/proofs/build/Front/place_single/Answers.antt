-- `place_single` meets its contract: a node over one part or none, with its number.
use mathlib.Core.List.{[]}
use Rattle.builder.proofs.TableHolds.{ready_in, places_in}
use Rattle.builder.proofs.PlacedByFunctions.{single_here, part_is}
use Rattle.builder.proofs.build.Front.place_single.Goals as goal

-- self.place_node(table, kind, argument, size);
pub place_node-requires : goal.place_node-requires
place_node-requires c =
    ready_in {t = c.args.table.now} {f = c.args.self.now} (λ n m s h. single_here h c.own_size-size.result c.args.kind c.number-argument.result c.args.text.now
    (part_is c.args.kind c.args.end c.requires.name_ends.0 [] s c.has_part-part.ensures) c.own_size-size.ensures c.number-argument.ensures) c.requires.can_place

-- fn place_single
pub returns : goal.returns
returns c =
    places_in (λ n m s h. single_here h c.own_size-size.result c.args.kind c.number-argument.result c.args.text.now
    (part_is c.args.kind c.args.end c.requires.name_ends.0 [] s c.has_part-part.ensures) c.own_size-size.ensures c.number-argument.ensures)
    c.place_node.ensures
