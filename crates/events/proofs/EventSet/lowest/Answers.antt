-- `EventSet::lowest` meets its contract: no event in the words before word `at` is present.
use mathlib.Core.Path.{◌≡◌}
use mathlib.Core.Bool.{false}
use Prim.Native.Nat.{ℕ, ◌-◌, ◌*◌, ◌≤◌, ◌<◌}
use native.Mathlib.Omega.{arith}
use borrow.Author.Rules.{rules}
use borrow.Author.Count.{below_none}
use lib.ListN.{get_or}
use lib.Count.{trailing_le}
use Rattle.events.specs.Members.{places, members}
use Rattle.events.proofs.Events.{lowest_is}
use Rattle.events.proofs.Words.{none_before, marks_lowest}
use Rattle.events.proofs.EventSet.lowest.Goals as goal

-- for (at, word) in self.words.iter().enumerate() {
pub loop-at-init : goal.loop-at-init
loop-at-init c = below_none _

-- let low = word.trailing_zeros() as usize;
pub overflow_cast-low : goal.overflow_cast-low
overflow_cast-low c =
    let loop = c.loop-at in
    omega (arith, trailing_le 64 (get_or c.args.self.words loop.at 0))

-- return 64 * at + low;
pub returns-then-low-lt64 : goal.returns-then-low-lt64
returns-then-low-lt64 c =
    let loop = c.loop-at in
    let if1 = c.if-low-lt64 in
    let l = c.args.self.words in
    lowest_is places _ (members c.args.self) (omega arith) (none_before l loop.at loop.invariant) (λ h. marks_lowest l loop.at if1.true)

-- for (at, word) in self.words.iter().enumerate() {
pub loop-at-preserved : goal.loop-at-preserved
loop-at-preserved c =
    let loop = c.loop-at in
    λ n h. none_before c.args.self.words loop.at loop.invariant n (omega arith)

-- pub fn lowest
pub returns : goal.returns
returns c =
    let loop = c.loop-at in
    lowest_is places places (members c.args.self) (omega arith) (λ n h. loop.invariant n (omega arith)) (λ h. absurd (omega arith))
