-- The second child's subtree is what is left of the node's from that child on.
use mathlib.Core.Path.{sym, ◌∙◌}
use native.Mathlib.Omega.{arith}
use Rattle.table.proofs.Subtrees.{pair}
use Rattle.state.proofs.Near.{child_read, second_near, second_tells, second_is}
use Rattle.state.proofs.resting.Node.second_zero.Goals as goal

-- return true;
pub returns-then-end-self : goal.returns-then-end-self
returns-then-end-self c =
    let j = c.args.self.now.judging in
    sym (second_near j (pair j.behind.rooted _ j.inside c.requires.two_children) (rw c.end-end.ensures at c.if-end-self.true))

-- let second = second_at(self.table, self.i);
pub second_at-second-requires : goal.second_at-second-requires
second_at-second-requires c =
    let j = c.args.self.now.judging in
    child_read j.behind.rooted _ (pair j.behind.rooted _ j.inside c.requires.two_children).first_in

-- zero_part(self.state, self.near, second, end - second)
pub overflow_sub-end : goal.overflow_sub-end
overflow_sub-end c =
    let j = c.args.self.now.judging in
    let b = pair j.behind.rooted _ j.inside c.requires.two_children in
    omega (arith, b.sized, c.end-end.ensures, c.second_at-second.ensures)

pub zero_part-requires : goal.zero_part-requires
zero_part-requires c =
    let j = c.args.self.now.judging in
    rw (c.end-end.ensures, c.second_at-second.ensures) (second_tells j (pair j.behind.rooted _ j.inside c.requires.two_children))

-- fn second_zero
pub returns : goal.returns
returns c =
    let j = c.args.self.now.judging in
    c.zero_part.ensures ∙ rw (c.end-end.ensures, c.second_at-second.ensures) (second_is j (pair j.behind.rooted _ j.inside c.requires.two_children))
