-- There are few nodes, so no index of a node that is to run wraps.
use Prim.Native.Nat.{ℕ, ◌+◌, ◌*◌, ◌<◌}
use mathlib.Core.List.{List}
use native.Mathlib.Omega.{arith}
use mir.Syntax.{w64}
use mir.Val.{Fits}
use Rattle.junior.specs.Term.{Term}
use Rattle.steps.specs.Running.{Rooms}
use Rattle.steps.specs.Lent.{lent, CanRun}
use Rattle.steps.proofs.Dispatch.{few_nodes}
use Rattle.steps.specs.declared.progress.Progress.{Progress}

module _ {skip : ℕ} {W : Term → Type 0} {table : List ℕ} {i : ℕ} {state : List ℕ} {m : Progress} {rooms : Rooms} (o : CanRun skip W (lent table state m rooms) i) where
  -- where a node's own bytes begin, and each of them
  pub own_fits : Fits w64 (4 * i)
  own_fits = omega (arith, few_nodes o)

  pub byte_fits : (k : ℕ) → k < 4 → Fits w64 (4 * i + k)
  byte_fits k l = omega (arith, few_nodes o)
