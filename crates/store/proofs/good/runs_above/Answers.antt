-- All nodes above node j are met on the way down to it.
use mathlib.Core.Path.{◌≡◌, sym, ◌∙◌}
use native.Mathlib.Omega.{arith}
use Rattle.store.proofs.Ways.{from_root, none_before, free_way, blocked}
use borrow.Author.Rules.{rules}
use Rattle.store.proofs.good.runs_above.Goals as goal

-- while i < j {
pub loop-i-init : goal.loop-i-init
loop-i-init c =
    let A = c.args in
    (from_root A.table.now A.j c.requires.0 c.requires.1, none_before A.table.now A.j)

-- return false;
pub returns-then-never_runs : goal.returns-then-never_runs
returns-then-never_runs c =
    let A = c.args in
    sym (blocked A.table.now A.j c.loop-i.i c.loop-i.invariant.0 (search rules) (sym c.never_runs.ensures ∙ c.if-never_runs.true))

-- true
pub returns : goal.returns
returns c =
    let A = c.args in
    let e : c.loop-i.i ≡ A.j = omega (arith, c.loop-i.invariant.0.from) in
    sym (free_way A.table.now A.j (rw e at c.loop-i.invariant.1))
