-- All ways are free, or the way is gone.
use mathlib.Core.Path.{sym}
use Rattle.store.proofs.Ways.{all_free}
use Rattle.store.proofs.good.way_free.Goals as goal

-- Ways::Free => true,
pub returns-in-Free : goal.returns-in-Free
returns-in-Free c = sym (all_free c.args.table.now (rw c.in-Free.is at c.requires.1) c.args.j c.requires.2)
