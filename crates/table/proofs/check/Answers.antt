-- `table::check` meets its contract.
use mathlib.Core.Path.{sym, ap, ◌∙◌}
use Rattle.std.specs.Prelude.{Err}
use Rattle.std.proofs.lemmas.Result.{err_from_is_err_and}
use Rattle.table.proofs.Framing.{frame_counts, verdict_refused, verdict_records, records_bad, records_good}
use Rattle.table.proofs.check.Goals as goal

-- let Counts { n, m, v } = frame::frame_of(table)?;
pub returns-in_err-n : goal.returns-in_err-n
returns-in_err-n c =
    let (why, is_err, same) = err_from_is_err_and c.from_residual.result c.from_residual.ensures.1 in
    is_err ∙ (ap Err same ∙ verdict_refused _ (sym c.in_err-n.ensures))

-- if let Some(bad) = first_bad(table, n, m, v) {
pub first_bad-requires : goal.first_bad-requires
first_bad-requires c = frame_counts _ _ (sym c.in_ok-n.ensures)

-- return Err(TableRefusal::BadConfiguration(bad));
pub returns-in-Some : goal.returns-in-Some
returns-in-Some c =
    let t = c.args.table.now in
    let bad = c.in-Some.ensures in
    records_bad t _ bad.1 bad.0 ∙ verdict_records t (sym c.in_ok-n.ensures)

-- nodes::check_nodes(table, n, m, v)
pub check_nodes-requires : goal.check_nodes-requires
check_nodes-requires c =
    record { framed = frame_counts _ _ (sym c.in_ok-n.ensures); configurations_good = c.in_default.ensures }

-- pub fn check
pub returns : goal.returns
returns c =
    let t = c.args.table.now in
    c.check_nodes.ensures ∙ (records_good t c.in_default.ensures ∙ verdict_records t (sym c.in_ok-n.ensures))
