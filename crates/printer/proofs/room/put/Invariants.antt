-- `put` meets its contract: before byte k the first k bytes are in the room.
use Prim.Native.Nat.{◌+◌}
use lib.ListN.{take}
use Rattle.letters.specs.Rooms.{Puts}
use Rattle.printer.proofs.room.put.Given as goal

abbrev pub invariant-loop-k : goal.invariant-loop-k
invariant-loop-k l = Puts l.initial.room l.room l.at (take l.k l.w) (l.at + l.k)
