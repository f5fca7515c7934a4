-- `place_test` meets its contract: a configuration in front of those that are placed.
use Rattle.builder.proofs.TableHolds.{test_fits, test_placed}
use mathlib.Core.Path.{refl}
use Rattle.builder.proofs.build.Front.place_test.Goals as goal

-- put_test(table, self.part, kind, e, size);
pub put_test-requires : goal.put_test-requires
put_test-requires c =
    test_fits c.requires.3 c.args.kind c.args.e c.args.size c.requires.4

-- fn place_test
pub returns : goal.returns
returns c =
    λ n m s h r. test_placed h c.args.kind c.args.e c.args.size r _ refl _ c.put_test.ensures
