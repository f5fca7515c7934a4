-- `table::reading::read_records` meets its contract: once the end is declared an absent event is unsat, before it unknown.
use mathlib.Core.Bool.{true, false}
use mathlib.Core.Path.{refl}
use Rattle.table.proofs.ByParts.{ranks_read}
use Rattle.table.proofs.reading.read_records.Goals as goal

pub verdict_at-requires : goal.verdict_at-requires
verdict_at-requires c =
    record { configuration_at = c.requires.configuration_at; absent_rank = (true, refl); table_short = c.requires.table_short }

pub returns-then-ended : goal.returns-then-ended
returns-then-ended c =
    let a = c.args in
    ranks_read a.table.now a.c a.words.now 0 _ a.ended c.verdict_at.ensures (rw c.if-ended.true)

-- verdict_at(table, c, words, Verdict::Unknown)
pub verdict_at-requires-2 : goal.verdict_at-requires-2
verdict_at-requires-2 c =
    record { configuration_at = c.requires.configuration_at; absent_rank = (false, refl); table_short = c.requires.table_short }

pub returns : goal.returns
returns c =
    let a = c.args in
    ranks_read a.table.now a.c a.words.now 1 _ a.ended c.verdict_at-2.ensures (rw c.if-ended.false)
