-- `table::weights::single` meets its contract: a Generate has one generation, an Atom one atom, and each is one node of height 1.
use Rattle.table.specs.declared.kinds.Kind.TheVariants.{Stop, Atom, Generate, Await}
use Rattle.table.proofs.ByNumber.{other_kind}
use Rattle.table.proofs.Weighed.{single_stops, single_weighs}
use Rattle.table.proofs.weights.single.Goals as goal

pub returns-in-Stop : goal.returns-in-Stop
returns-in-Stop c p v e h =
    let same = rw c.in-Stop.is at e in
    single_weighs 1 1 v same (single_stops 1 _ v same h)

pub returns-in-Atom : goal.returns-in-Atom
returns-in-Atom c p v e h =
    let same = rw c.in-Atom.is at e in
    single_weighs 2 0 v same (single_stops 2 _ v same h)

pub returns-in-Generate : goal.returns-in-Generate
returns-in-Generate c p v e h =
    let same = rw c.in-Generate.is at e in
    single_weighs 7 0 v same (single_stops 7 _ v same h)

pub returns-in-Await : goal.returns-in-Await
returns-in-Await c p v e h =
    let same = rw c.in-Await.is at e in
    rw c.from.ensures (single_weighs 8 _ v same (single_stops 8 _ v same h))

-- _ => node,
pub returns-in_default : goal.returns-in_default
returns-in_default c p v e h =
    let other = c.in_default in
    let stops = rw (other_kind _ Await other.not-Await, other_kind _ Stop other.not-Stop) at (single_stops _ _ v e h) in
    rw
    (other_kind _ Generate other.not-Generate, other_kind _ Atom other.not-Atom)
    at
    (single_weighs _ 0 v e stops)
