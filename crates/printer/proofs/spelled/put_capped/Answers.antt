-- `put_capped` meets its contract: two numbers, one behind the other.
use Prim.Native.Nat.{◌/◌, ◌%◌}
use mathlib.Core.List.{◌++◌}
use Rattle.letters.specs.Decimal.{decimal}
use Rattle.letters.specs.Text.{bytes}
use Rattle.letters.proofs.Puts.{puts_then}
use Rattle.printer.proofs.FitsInParts.{fits_first, fits_on}
use Rattle.printer.proofs.spelled.put_capped.Goals as goal

-- let first = put_number(room, at, argument % 16);
pub put_number-first-requires : goal.put_number-first-requires
put_number-first-requires c =
    fits_first (decimal (c.args.argument % 16)) (bytes ", " ++ decimal (c.args.argument / 16)) c.requires

-- let between = put(room, first, b", ");
pub put-between-requires : goal.put-between-requires
put-between-requires c =
    let behind = fits_on (decimal (c.args.argument % 16)) (bytes ", " ++ decimal (c.args.argument / 16)) c.requires c.put_number-first.ensures in
    fits_first (bytes ", ") (decimal (c.args.argument / 16)) behind

-- put_number(room, between, argument / 16)
pub put_number-requires : goal.put_number-requires
put_number-requires c =
    let behind = fits_on (decimal (c.args.argument % 16)) (bytes ", " ++ decimal (c.args.argument / 16)) c.requires c.put_number-first.ensures in
    fits_on (bytes ", ") (decimal (c.args.argument / 16)) behind c.put-between.ensures

-- fn put_capped
pub returns : goal.returns
returns c =
    puts_then c.put_number-first.ensures (puts_then c.put-between.ensures c.put_number.ensures)
