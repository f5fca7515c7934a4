-- `table::nodes::check_nodes` meets its contract: refusals 5 to 8 in their order; record 0 of another size than N is bad.
use mathlib.Core.Path.{sym, ◌∙◌}
use native.Mathlib.Omega.{arith}
use Rattle.table.proofs.Answers.{root_answer}
use Rattle.table.proofs.nodes.check_nodes.Goals as goal

-- return check_whole(table, n, m, v);
pub check_whole-requires : goal.check_whole-requires
check_whole-requires c =
    let size_at = c.size_at in
    let if1 = c.if-size_at-n in
    let whole = sym size_at.ensures.0 ∙ if1.true in
    record { framed = c.requires.framed; configurations_good = c.requires.configurations_good; whole = whole }

-- pub fn check_nodes
pub returns : goal.returns
returns c =
    let size_at = c.size_at in
    let if1 = c.if-size_at-n in
    let F = c.requires.framed in
    root_answer _ _ F.n_is F.n_least (λ z. if1.false (size_at.ensures.0 ∙ z))

pub returns-then-size_at-n : goal.returns-then-size_at-n
returns-then-size_at-n c = c.check_whole.ensures
