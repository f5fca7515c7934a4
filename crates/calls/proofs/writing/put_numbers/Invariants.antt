-- `put_numbers` meets its contract: the first numbers are written.
use Prim.Native.Nat.{◌+◌, ◌*◌, ◌≤◌}
use lib.ListN.{take}
use Rattle.letters.specs.Writing.{Writes}
use Rattle.calls.specs.Words.{spaced}
use Rattle.calls.proofs.writing.put_numbers.Given as goal

abbrev pub invariant-loop-number : goal.invariant-loop-number
invariant-loop-number l =
    (l.out.at ≤ l.initial.out.at + 21 * l.number-index) × Writes l.initial.out l.out (spaced (take l.number-index l.list))
