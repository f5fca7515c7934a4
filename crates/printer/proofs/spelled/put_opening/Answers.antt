-- `put_opening` meets its contract: `Jr.`, then the name and its bracket as the table has them.
use mathlib.Core.List.{◌++◌}
use native.Mathlib.Omega.{arith}
use Rattle.letters.specs.Text.{bytes}
use Rattle.form.specs.Names.{form_of, opening}
use Rattle.form.proofs.Rows.{name_there, name_long, name_low}
use Rattle.letters.proofs.Puts.{puts_then}
use Rattle.printer.proofs.FitsInParts.{fits_first, fits_on}
use Rattle.printer.proofs.spelled.put_opening.Goals as goal

-- let begun = put(room, at, b"Jr.");
pub put-begun-requires : goal.put-begun-requires
unfolding opening
put-begun-requires c =
    fits_first (bytes "Jr.") ((form_of c.args.k).name ++ bytes "(") c.requires.fits

-- put(room, begun, names.part(ROW * (FIRST_FORM + k), end))
pub part-requires : goal.part-requires
part-requires c =
    let e = c.requires.name_ends in
    let l = name_long c.args.k c.requires.known in
    let m = name_low c.args.k c.requires.known in
    record { rising = omega arith; in_the_table = omega arith }

pub put-requires : goal.put-requires
unfolding opening
put-requires c =
    let f = fits_on (bytes "Jr.") ((form_of c.args.k).name ++ bytes "(") c.requires.fits c.put-begun.ensures in
    rw (c.part.ensures, c.requires.name_ends, name_there c.args.k c.requires.known) f

-- fn put_opening
pub returns : goal.returns
unfolding opening
returns c =
    puts_then c.put-begun.ensures (rw (c.part.ensures, c.requires.name_ends, name_there c.args.k c.requires.known) at c.put.ensures)
