-- `place_comma` meets its contract: a node over two, or nothing.
use Rattle.builder.proofs.TableHolds.{ready_in, places_in, places_none}
use Rattle.builder.proofs.PlacedByFunctions.{comma_joint, comma_none}
use Rattle.builder.proofs.build.Front.place_comma.Goals as goal

pub place_joint-requires : goal.place_joint-requires
place_joint-requires c =
    let e = rw c.byte_at.ensures at c.if-level-byte_at.true in
    ready_in (λ n m s h. comma_joint c.args.level c.args.text.now s e) c.requires

pub returns-then-level-byte_at : goal.returns-then-level-byte_at
returns-then-level-byte_at c =
    let e = rw c.byte_at.ensures at c.if-level-byte_at.true in
    places_in (λ n m s h. comma_joint c.args.level c.args.text.now s e) c.place_joint.ensures

pub returns-else-level-byte_at : goal.returns-else-level-byte_at
returns-else-level-byte_at c =
    let e = rw c.byte_at.ensures at c.if-level-byte_at.false in
    places_none (λ s. comma_none c.args.level c.args.text.now s e)
