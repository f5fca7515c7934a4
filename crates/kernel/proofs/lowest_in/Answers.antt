-- `lowest_in` meets its contract: no event of the words before word `at` is marked.
use Prim.Native.Nat.{◌*◌}
use mathlib.Core.Path.{sym}
use native.Mathlib.Omega.{arith}
use lib.Count.{trailing_le}
use lib.ListN.{get_or}
use Rattle.kernel.proofs.Unlisted.{over_whole, found_whole, none_found}
use Rattle.kernel.proofs.lowest_in.Goals as goal

-- for at in from..words.len() {
pub loop-at-init : goal.loop-at-init
loop-at-init c = (omega arith, λ k h l. absurd (omega arith))

-- let low = words[at].trailing_zeros() as usize;
pub overflow_cast-low : goal.overflow_cast-low
overflow_cast-low c =
    omega (arith, trailing_le 64 (get_or c.args.words.now c.loop-at.at 0))

-- return Some(64 * at + low);
pub returns-then-low-lt64 : goal.returns-then-low-lt64
returns-then-low-lt64 c =
    let words = c.args.words.now in
    let fits = (c.shared_slice_known-1.given c.loop-at.at).fits in
    (found_whole words c.loop-at.at (64 * c.args.from) c.loop-at.invariant.1 fits c.if-low-lt64.true c.loop-at.invariant.0 (omega arith), omega arith)

-- for at in from..words.len() {
pub loop-at-preserved : goal.loop-at-preserved
loop-at-preserved c =
    (omega (arith, c.loop-at.invariant.0), over_whole c.args.words.now c.loop-at.at (64 * c.args.from) c.loop-at.invariant.1 c.if-low-lt64.false)

-- fn lowest_in
pub returns : goal.returns
returns c =
    sym (none_found c.args.words.now (64 * c.loop-at.at) (64 * c.args.from) c.loop-at.invariant.1 (omega arith))
