-- A Repeat that has begun: its phase and its count in the bytes.
use Prim.Native.Nat.{◌+◌, ◌/◌, ◌%◌}
use mathlib.Core.Path.{◌≡◌}
use lib.ListN.{length-set}
use native.Mathlib.Omega.{arith}
use Rattle.steps.proofs.phases.begin_turn.Goals as goal

pub bounds-state-at-2 : goal.bounds-state-at-2
bounds-state-at-2 c = simp length-set (omega arith)

pub bounds-state-at-3 : goal.bounds-state-at-3
bounds-state-at-3 c = simp length-set (omega arith)

pub returns : goal.returns
returns c =
    let a = c.args in
    let e : a.at + 2 + 1 ≡ a.at + 3 = omega arith in
    let high : a.k / 256 % 256 ≡ a.k / 256 = omega (arith, c.requires.1) in
    rw (e, c.to_be_bytes.ensures, high)
