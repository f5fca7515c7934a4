-- `print` meets its contract: the refusal of a table, or of an accepted one the first run measures, the second prints.
use mathlib.Core.Path.{sym}
use Rattle.std.proofs.lemmas.Result.{err_from_is_err_and}
use Rattle.table.proofs.Accepted.{no_number}
use Rattle.text.specs.Answers.{refused}
use Rattle.text.proofs.Printed.{printable, measured, prints_no_room, prints_all}
use Rattle.text.proofs.print.print.Goals as goal

-- let length = put_program(table, 0, &mut text[..0], 0);
pub put_program-length-requires : goal.put_program-length-requires
put_program-length-requires c =
    printable c.args.table.now (no_number c.in_ok-check.ensures)

-- return Err(PrintRefusal::NoRoom);
pub returns-then-text-length : goal.returns-then-text-length
returns-then-text-length c =
    let none = measured c.args.table.now (no_number c.in_ok-check.ensures) c.put_program-length.ensures in
    rw none.0 (prints_no_room c.args.table.now (no_number c.in_ok-check.ensures) none.1 (rw none.0 at c.if-text-length.true))

-- put_program(table, 0, text, 0);
pub put_program-requires : goal.put_program-requires
put_program-requires c =
    printable c.args.table.now (no_number c.in_ok-check.ensures)

-- pub fn print
pub returns : goal.returns
returns c =
    let none = measured c.args.table.now (no_number c.in_ok-check.ensures) c.put_program-length.ensures in
    let text = rw none.0 at c.put_program.ensures in
    prints_all c.args.table.now (no_number c.in_ok-check.ensures) none.1 (rw none.0 at c.if-text-length.false) text

-- check(table)?;
pub returns-in_err-check : goal.returns-in_err-check
returns-in_err-check c =
    let (why, is_err, same) = err_from_is_err_and c.from_residual.result c.from_residual.ensures.1 in
    rw (is_err, same) (refused (sym c.in_err-check.ensures))
