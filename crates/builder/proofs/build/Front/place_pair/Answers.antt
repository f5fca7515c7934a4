-- `place_pair` meets its contract: an `and` or an `or` over the two in front.
use Rattle.builder.proofs.TableHolds.{ready_in, places_in}
use Rattle.builder.proofs.PlacedByFunctions.{pair_here}
use Rattle.builder.proofs.build.Front.place_pair.Goals as goal

-- self.place_test(table, kind, 0, size);
pub place_test-requires : goal.place_test-requires
place_test-requires c =
    ready_in {t = c.args.table.now} {f = c.args.self.now} (λ n m s h. pair_here h c.joined_size-size.result c.args.kind c.joined_size-size.ensures) c.requires

-- fn place_pair
pub returns : goal.returns
returns c =
    places_in (λ n m s h. pair_here h c.joined_size-size.result c.args.kind c.joined_size-size.ensures) c.place_test.ensures
