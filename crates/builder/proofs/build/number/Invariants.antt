-- `number` meets its contract: before each digit the number so far goes on to the same number.
use Prim.Native.Nat.{◌<◌}
use mathlib.Core.Path.{◌≡◌}
use lib.ListN.{drop}
use Rattle.builder.specs.Building.{number}
use Rattle.builder.proofs.build.number.Given as goal

abbrev pub invariant-loop-b : goal.invariant-loop-b
invariant-loop-b l = (number l.v (drop l.b-index l.text) ≡ number 0 l.text) × (l.v < 65536)
