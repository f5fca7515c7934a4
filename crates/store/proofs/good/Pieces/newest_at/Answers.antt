-- The pieces still to look at, and the one found, say which is the newest.
use Prim.Native.Nat.{◌+◌, ◌-◌}
use mathlib.Core.Path.{◌≡◌}
use native.Mathlib.Omega.{arith}
use lib.Dec.{eqb}
use Rattle.store.specs.Store.{in_use, event_at}
use Rattle.store.proofs.Tests.{body_is, good_is, store_is}
use Rattle.store.proofs.Turns.{seek_first, seek_good, seek_next, seek_end, newest_found, place_more, behind0_more, found_is}
use borrow.Author.Rules.{rules}
use Rattle.store.proofs.good.Pieces.newest_at.Goals as goal

-- while at < self.end {
pub loop-at-init : goal.loop-at-init
loop-at-init c =
    let P = c.args.self.now in
    let s = P.store.now in
    let d : 2 + in_use s - 2 ≡ in_use s = omega arith in
    let first = seek_first P.table.now s c.args.event (2 + in_use s) (omega arith) (rw d (store_is P.table.now s c.requires.good).1) in
    (omega (arith, c.requires.all), rw c.requires.all first, omega arith, tt)

-- found = later_of(self.store, event, at, found);
pub later_of-found-requires : goal.later_of-found-requires
later_of-found-requires c =
    let P = c.args.self.now in
    let g = good_is (seek_good P.table.now P.store.now c.args.event _ c.loop-at.invariant.1 (search rules)) in
    omega (arith, g.ends, P.inside)

-- at = self.behind(at);
pub behind-at-requires : goal.behind-at-requires
behind-at-requires c =
    let P = c.args.self.now in
    let g = good_is (seek_good P.table.now P.store.now c.args.event _ c.loop-at.invariant.1 (search rules)) in
    (omega (arith, g.ends, P.inside), (body_is g.body).among)

-- while at < self.end {
pub loop-at-preserved : goal.loop-at-preserved
loop-at-preserved c =
    let P = c.args.self.now in
    let e = c.args.event in
    let next = seek_next P.table.now P.store.now e _ c.loop-at.invariant.1 (search rules) in
    let good = seek_good P.table.now P.store.now e _ c.loop-at.invariant.1 (search rules) in
    let test = eqb (event_at P.store.now c.loop-at.at) e in
    rw (c.behind-at.ensures, c.later_of-found.ensures, place_more test c.loop-at.at c.loop-at.found)
    ((good_is good).ends, next, omega arith, behind0_more test c.loop-at.found c.loop-at.invariant.2 c.loop-at.invariant.3)

-- found
pub returns : goal.returns
returns c =
    let P = c.args.self.now in
    let e : c.loop-at.at ≡ P.end = omega (arith, c.loop-at.invariant.0) in
    let is = newest_found P.table.now P.store.now c.args.event P.end c.requires.all
    (seek_end P.table.now P.store.now c.args.event _ c.loop-at.invariant.1 e)
    in
    found_is c.loop-at.found c.loop-at.invariant.3 is
