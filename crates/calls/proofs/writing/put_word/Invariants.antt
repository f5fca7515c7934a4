-- `put_word` meets its contract: the first numbers are written.
use mathlib.Core.Path.{◌≡◌}
use Prim.Native.Nat.{◌+◌, ◌*◌}
use lib.ListN.{take}
use Rattle.letters.specs.Writing.{Writes}
use Rattle.calls.specs.Words.{spelled}
use Rattle.calls.proofs.writing.put_word.Given as goal

abbrev pub invariant-loop-number : goal.invariant-loop-number
invariant-loop-number g l =
    (l.out.at ≡ l.initial.out.at + g.T.Spelled.digits * l.number-index) × Writes l.initial.out l.out (spelled g.T.Spelled.spelling (take l.number-index l.list))
