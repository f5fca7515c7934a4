use Prim.Native.Nat.{ℕ, ◌-◌}
use Rattle.table.proofs.nodes.+first_deep.Given as goal

abbrev pub decreases-first_deep : goal.decreases-first_deep
decreases-first_deep l = 65 - l.d
