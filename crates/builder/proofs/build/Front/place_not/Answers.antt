-- `place_not` meets its contract: a `not` over the configuration in front.
use Rattle.builder.proofs.TableHolds.{ready_in, places_in}
use Rattle.builder.proofs.PlacedByFunctions.{negation_here}
use Rattle.builder.proofs.build.Front.place_not.Goals as goal

-- self.place_test(table, 1, 0, size);
pub place_test-requires : goal.place_test-requires
place_test-requires c =
    ready_in {t = c.args.table.now} {f = c.args.self.now} (λ n m s h. negation_here h c.word_in-size.result c.word_in-size.ensures.0) c.requires

-- fn place_not
pub returns : goal.returns
returns c =
    places_in (λ n m s h. negation_here h c.word_in-size.result c.word_in-size.ensures.0) c.place_test.ensures
