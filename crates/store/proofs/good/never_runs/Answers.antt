-- A loaded table's kinds are known.
use Rattle.table.proofs.Subtrees.{rooted, known_at}
use Rattle.store.proofs.good.never_runs.Goals as goal

-- most_runs(table, i) == Some(0)
pub most_runs-requires-clause-known_kind : goal.most_runs-requires-clause-known_kind
most_runs-requires-clause-known_kind c = known_at (rooted c.requires.0) c.args.i c.requires.1
