-- `outer` meets its contract: a level fewer, if there is one.
use borrow.Author.Rules.{rules}
use mathlib.Core.Path.{sym}
use lib.ListN.{drop_of_length-le}
use lib.Seq.{drop-drop}
use Rattle.builder.proofs.build.outer.Goals as goal

-- return depth + 1;
pub returns-then-depth-levels : goal.returns-then-depth-levels
returns-then-depth-levels c =
    (search rules, sym (drop-drop 1 c.args.depth c.args.levels.now))

-- fn outer
pub returns : goal.returns
returns c =
    (search rules, rw (drop_of_length-le c.args.levels.now c.if-depth-levels.false))
