-- `read_through` meets its contract.
use mathlib.Core.Path.{refl, sym}
use Rattle.std.proofs.lemmas.Result.{err_from_is_err_and}
use Rattle.table.proofs.Accepted.{no_number}
use Rattle.text.proofs.ReadInto.{table_refused, table_read}
use Rattle.text.proofs.read.read_through.Goals as goal

-- build(text, sizes, made);
pub build-requires : goal.build-requires
build-requires c = c.requires.buildable

-- check(made)?;
pub returns-in_err-check : goal.returns-in_err-check
returns-in_err-check c =
    let b = c.requires.buildable in
    let (why, is_err, same) = err_from_is_err_and c.from_residual.result c.from_residual.ensures.1 in
    rw (is_err, same) (table_refused b _ c.requires.room_enough _ (c.build.ensures b.0 b.1) (sym c.in_err-check.ensures))

-- Ok(long)
pub returns : goal.returns
returns c =
    let b = c.requires.buildable in
    table_read b _ c.requires.room_enough _ (c.build.ensures b.0 b.1) _ _ (no_number c.in_ok-check.ensures) refl (rw c.copy_from_slice.ensures.after)
