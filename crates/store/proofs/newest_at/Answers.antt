-- A good store has all the bytes in use.
use native.Mathlib.Omega.{arith}
use Rattle.store.proofs.Tests.{store_is}
use Rattle.store.proofs.newest_at.Goals as goal

-- end: 2 + word_at(store, 0),
pub word_at-requires : goal.word_at-requires
word_at-requires c =
    let u = (store_is c.args.table.now c.args.store.now c.requires.good).0 in
    omega arith

pub invariant_of-pieces-clause-inside : goal.invariant_of-pieces-clause-inside
invariant_of-pieces-clause-inside c =
    let u = (store_is c.args.table.now c.args.store.now c.requires.good).0 in
    omega (arith, c.word_at.ensures.0)
