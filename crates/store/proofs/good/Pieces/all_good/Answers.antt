-- The pieces still to look at say whether all are good.
use mathlib.Core.Path.{◌≡◌, sym, ◌∙◌}
use native.Mathlib.Omega.{arith}
use Rattle.store.proofs.Tests.{body_is, good_is}
use Rattle.store.proofs.Turns.{still_first, still_next, still_bad, still_all}
use borrow.Author.Rules.{rules}
use Rattle.store.proofs.good.Pieces.all_good.Goals as goal

-- while at < self.end {
pub loop-at-init : goal.loop-at-init
loop-at-init c =
    let A = c.args in
    (c.requires, still_first A.self.now.table.now A.self.now.store.now A.self.now.end c.requires, search rules)

-- return false;
pub returns-then-not-is_good : goal.returns-then-not-is_good
returns-then-not-is_good c =
    let A = c.args in
    let bad = sym c.is_good.ensures ∙ c.if-not-is_good.true in
    sym (still_bad A.self.now.table.now A.self.now.store.now A.self.now.end c.loop-at.invariant.1 (search rules) bad)

-- at = self.behind(at);
pub behind-at-requires : goal.behind-at-requires
behind-at-requires c =
    let g = good_is (sym c.is_good.ensures ∙ c.if-not-is_good.false) in
    (omega (arith, g.ends, c.args.self.now.inside), (body_is g.body).among)

-- while at < self.end {
pub loop-at-preserved : goal.loop-at-preserved
loop-at-preserved c =
    let A = c.args in
    let so = sym c.is_good.ensures ∙ c.if-not-is_good.false in
    rw c.behind-at.ensures
    ((good_is so).ends, still_next A.self.now.table.now A.self.now.store.now A.self.now.end c.loop-at.invariant.1 (search rules) so, c.next_ways-ways.ensures)

-- true
pub returns : goal.returns
returns c =
    let A = c.args in
    let e : c.loop-at.at ≡ A.self.now.end = omega (arith, c.loop-at.invariant.0) in
    sym (still_all A.self.now.table.now A.self.now.store.now A.self.now.end c.loop-at.invariant.1 e)
