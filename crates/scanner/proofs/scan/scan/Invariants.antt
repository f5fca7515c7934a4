-- `scan` meets its contract.
use mathlib.Core.Path.{◌≡◌}
use lib.ListN.{length}
use Rattle.scanner.proofs.WholeTextRead.{Reading}
use Rattle.scanner.proofs.scan.scan.Given as goal

abbrev pub invariant-loop-i : goal.invariant-loop-i
invariant-loop-i l = (length l.ring ≡ 4096) × Reading l.text l.i l.at l.k l.ring
