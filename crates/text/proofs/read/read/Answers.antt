-- `read` meets its contract: 21, 22, or what is made of a text that is counted.
use Rattle.text.proofs.ReadInto.{scan_fails, no_place}
use Rattle.text.proofs.read.read.Goals as goal

pub returns-then-long-gt-LONGEST : goal.returns-then-long-gt-LONGEST
returns-then-long-gt-LONGEST c = no_place c.scan.ensures c.in-Ok.is _ c.table_length-long.ensures _ c.then-long-gt-LONGEST.either

pub returns-in-Err : goal.returns-in-Err
returns-in-Err c = scan_fails c.scan.ensures _ c.in-Err.is
