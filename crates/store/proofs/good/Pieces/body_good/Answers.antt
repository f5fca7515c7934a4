-- A body that is short of bytes, or judged where it stands.
use Prim.Native.Nat.{◌+◌, ◌*◌, ◌≤◌}
use mathlib.Core.Path.{◌∙◌}
use native.Mathlib.Omega.{arith}
use borrow.Author.Tests.{le-leb}
use Rattle.table.specs.Records.{size_at}
use Rattle.store.proofs.Tests.{rooted_here, judged_here, none_to_blame}
use Rattle.store.proofs.good.Pieces.body_good.Goals as goal

-- first_blamed(&table[6 * j..], n, &store[at..]) == n
pub first_blamed-requires-clause-rooted : goal.first_blamed-requires-clause-rooted
first_blamed-requires-clause-rooted c =
    rooted_here c.args.self.now.loaded c.args.j c.requires.0 c.size_at-n.ensures.0

-- first_blamed(&table[6 * j..], n, &store[at..]).is_none()
pub returns : goal.returns
returns c =
    let A = c.args in
    let n = c.size_at-n.ensures.0 in
    let d : A.at + 4 * size_at A.self.now.table.now A.j ≤ A.self.now.end = omega (arith, n) in
    let here = judged_here c.args.self.now.loaded A.j c.requires.0 A.self.now.store.now A.at c.size_at-n.result n in
    let none = none_to_blame c.first_blamed.result _ _ (rw here at c.first_blamed.ensures) c.is_none.result c.is_none.ensures in
    rw (le-leb _ _ d) (none ∙ rw n)
