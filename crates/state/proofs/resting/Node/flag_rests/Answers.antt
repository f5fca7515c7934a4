-- The first branch's flag, the second's, or another number.
use native.Mathlib.Omega.{arith}
use Rattle.table.specs.Good.{children}
use Rattle.table.proofs.Subtrees.{pair}
use Rattle.state.proofs.Near.{child_read}
use borrow.Author.Rules.{rules}
use Rattle.state.proofs.resting.Node.flag_rests.Goals as goal

-- return wide(self.state[4 * (self.i + 1)]) == GONE;
pub bounds-self-self : goal.bounds-self-self
unfolding children
bounds-self-self c =
    let j = c.args.self.now.judging in
    omega (arith, (pair j.behind.rooted _ j.inside (rw c.requires.par)).first_in, j.behind.room)

-- return wide(self.state[4 * second_at(self.table, self.i)]) == GONE;
pub second_at-requires : goal.second_at-requires
unfolding children
second_at-requires c =
    let j = c.args.self.now.judging in
    child_read j.behind.rooted _ (pair j.behind.rooted _ j.inside (rw c.requires.par)).first_in

pub bounds-self-second_at : goal.bounds-self-second_at
unfolding children
bounds-self-second_at c =
    let j = c.args.self.now.judging in
    omega (arith, c.second_at.ensures, (pair j.behind.rooted _ j.inside (rw c.requires.par)).second_in, j.behind.room)

pub overflow_mul-second_at : goal.overflow_mul-second_at
unfolding children
overflow_mul-second_at c =
    let j = c.args.self.now.judging in
    let b = pair j.behind.rooted _ j.inside (rw c.requires.par) in
    search rules
