-- A Repeat that has ended: its own bytes are zero.
use Prim.Native.Nat.{◌+◌}
use mathlib.Core.Path.{◌≡◌}
use lib.ListN.{length-set}
use native.Mathlib.Omega.{arith}
use Rattle.steps.proofs.phases.end_turns.Goals as goal

pub bounds-state-at-2 : goal.bounds-state-at-2
bounds-state-at-2 c = simp length-set (omega arith)

pub bounds-state-at-3 : goal.bounds-state-at-3
bounds-state-at-3 c = simp length-set (omega arith)

pub returns : goal.returns
returns c = let at = c.args.at in let e : at + 2 + 1 ≡ at + 3 = omega arith in rw e
