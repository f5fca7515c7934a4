-- `table::early::early_at` meets its contract: an event is only early true, a negation turns its part's, the others join theirs.
use borrow.Author.Rules.{rules}
use mathlib.Core.Path.{sym, ◌∙◌}
use Rattle.table.proofs.KnownEarly.{lone, first_behind, second_behind, negated, both_parts, second_there}
use Rattle.table.proofs.early.early_at.Goals as goal

-- return 2;
pub returns-then-kind-eq0 : goal.returns-then-kind-eq0
returns-then-kind-eq0 c =
    let part-kind = c.part_kind-kind in
    let if1 = c.if-kind-eq0 in
    lone c.requires (sym part-kind.ensures.0 ∙ if1.true)

-- let first = wide(early[j + 1]);
pub bounds-early-j : goal.bounds-early-j
bounds-early-j c =
    let part-kind = c.part_kind-kind in
    let if1 = c.if-kind-eq0 in
    let f = (first_behind c.requires (λ e. if1.false (part-kind.ensures.0 ∙ e))).0 in
    search rules

-- return 2 - first;
pub overflow_sub-result : goal.overflow_sub-result
overflow_sub-result c =
    let part-kind = c.part_kind-kind in
    let if1 = c.if-kind-eq0 in
    let wide = c.wide-first in
    rw wide.ensures.0 (first_behind c.requires (λ e. if1.false (part-kind.ensures.0 ∙ e))).1

pub returns-then-kind-eq1 : goal.returns-then-kind-eq1
returns-then-kind-eq1 c =
    let part-kind = c.part_kind-kind in
    let wide = c.wide-first in
    let if2 = c.if-kind-eq1 in
    rw wide.ensures.0 (negated c.requires (sym part-kind.ensures.0 ∙ if2.true))

-- let second = wide(early[j + 1 + part_size(table, c + 4)]);
pub bounds-early-j-2 : goal.bounds-early-j-2
bounds-early-j-2 c =
    let part-kind = c.part_kind-kind in
    let if1 = c.if-kind-eq0 in
    let if2 = c.if-kind-eq1 in
    let part-size = c.part_size in
    let kind = part-kind.ensures.0 in
    let f = second_behind c.requires (λ e. if1.false (kind ∙ e)) (λ e. if2.false (kind ∙ e)) in
    let s = part-size.ensures.0 ∙ second_there c.requires in
    search rules

-- fn early_at
pub returns : goal.returns
returns c =
    let part-kind = c.part_kind-kind in
    let if1 = c.if-kind-eq0 in
    let wide = c.wide-first in
    let if2 = c.if-kind-eq1 in
    let part-size = c.part_size in
    let wide2 = c.wide-second in
    let joined-rank = c.joined_rank in
    let kind = part-kind.ensures.0 in
    let there = part-size.ensures.0 ∙ second_there c.requires in
    rw
    (joined-rank.ensures, kind, wide.ensures.0, wide2.ensures.0, there)
    (both_parts c.requires (λ e. if1.false (kind ∙ e)) (λ e. if2.false (kind ∙ e)))
