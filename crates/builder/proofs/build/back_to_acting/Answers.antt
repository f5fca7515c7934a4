-- `back_to_acting` meets its contract: all bytes that it has gone over are idle.
use Prim.Native.Nat.{◌+◌, ◌-◌}
use mathlib.Core.Path.{◌≡◌, sym, ◌∙◌}
use native.Mathlib.Omega.{arith}
use Rattle.builder.proofs.BuiltWhole.{idle_none, idle_more}
use Rattle.builder.proofs.build.back_to_acting.Goals as goal

pub loop-i-init : goal.loop-i-init
loop-i-init c = idle_none _ _

pub loop-i-preserved : goal.loop-i-preserved
loop-i-preserved c =
    idle_more c.loop-i.invariant c.loop-i-test.true (sym c.acts.ensures ∙ c.if-acts.false)

pub returns-then-acts : goal.returns-then-acts
returns-then-acts c =
    let e : c.loop-i.i - 1 + 1 ≡ c.loop-i.i = omega arith in
    rw e c.loop-i.invariant

pub returns : goal.returns
returns c =
    let e : c.loop-i.i ≡ 0 = omega arith in
    rw e at c.loop-i.invariant
