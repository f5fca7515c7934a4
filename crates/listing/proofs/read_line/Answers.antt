-- `read_line` meets its contract: an empty line, a line that is too long, and any other line.
use mathlib.Core.Path.{◌≡◌, refl}
use Prim.Native.Nat.{◌<◌}
use native.Mathlib.Omega.{arith}
use Rattle.std.proofs.lemmas.Grind.{common_steps}
use lib.ListN.{length}
use Rattle.letters.specs.Decimal.{figure}
use Rattle.listing.proofs.Reading.{empty_line, long_line, read_by}
use Rattle.listing.proofs.read_line.Goals as goal

pub returns-then-is_empty : goal.returns-then-is_empty
returns-then-is_empty c =
    let none : length c.args.line.now ≡ 0 = grind (arith, common_steps) in
    rw c.empty.ensures (empty_line c.args.line.now none)

pub returns-then-line-gt-LONGEST : goal.returns-then-line-gt-LONGEST
returns-then-line-gt-LONGEST c = long_line c.args.line.now c.if-line-gt-LONGEST.true

pub read_events-requires : goal.read_events-requires
unfolding figure
read_events-requires c = refl

pub returns : goal.returns
returns c =
    let some : 0 < length c.args.line.now = grind (arith, common_steps) in
    read_by c.args.line.now some c.if-line-gt-LONGEST.false c.read_events.result c.read_events.ensures
