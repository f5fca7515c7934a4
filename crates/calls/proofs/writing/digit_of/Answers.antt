-- `digit_of` meets its contract.
use mathlib.Core.Path.{◌≡◌}
use Prim.Native.Nat.{◌+◌, ◌-◌}
use native.Mathlib.Omega.{arith}
use borrow.Author.Tests.{lt-ltb, le-ltb}
use Rattle.calls.specs.Words.{digit}
use Rattle.calls.proofs.writing.digit_of.Goals as goal

pub returns-then-d-lt10 : goal.returns-then-d-lt10
unfolding digit
returns-then-d-lt10 c = simp (lt-ltb c.args.d 10 c.if-d-lt10.true)

pub returns : goal.returns
unfolding digit
returns c =
    let same : 97 + (c.args.d - 10) ≡ 87 + c.args.d = omega arith in
    simp (le-ltb c.args.d 10 c.if-d-lt10.false) same
