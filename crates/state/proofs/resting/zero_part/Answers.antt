-- `near` tells, or else all are looked at.
use mathlib.Core.Path.{sym}
use borrow.Author.Rules.{rules}
use Rattle.state.proofs.resting.zero_part.Goals as goal

-- return true;
pub returns-then-a-m : goal.returns-then-a-m
returns-then-a-m c =
    sym (c.requires.all_zero c.if-a-m.true)

-- return false;
pub returns-then-a-near : goal.returns-then-a-near
returns-then-a-near c =
    sym (c.requires.not_zero c.if-a-near.true (search rules))
