-- `table::reading::leave_unknown` meets its contract: the levels still there leave what all do.
use native.Mathlib.Omega.{arith}
use Rattle.table.proofs.OpenLevels.{leaves_first, leaves_fewer, leaves_last, levelled_least}
use Rattle.table.proofs.reading.leave_unknown.Goals as goal

-- while levels % 4 < 2 {
pub loop-levels-smaller : goal.loop-levels-smaller
loop-levels-smaller c =
    let loop = c.loop-levels in
    let still = loop.invariant c.requires.0 c.requires.1 in
    omega (arith, still.number, levelled_least still.still)

pub loop-levels-init : goal.loop-levels-init
loop-levels-init c o e = leaves_first o e

pub loop-levels-preserved : goal.loop-levels-preserved
loop-levels-preserved c o e = leaves_fewer (c.loop-levels.invariant o e) c.loop-levels-test.true

pub returns : goal.returns
returns c o e = leaves_last (c.loop-levels.invariant o e) c.loop-levels-test.false
