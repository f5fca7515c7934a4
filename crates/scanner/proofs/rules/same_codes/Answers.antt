-- `same_codes` meets its contract: so many bytes from both places on are the same.
use Prim.Native.Nat.{◌+◌, ◌-◌}
use mathlib.Core.Path.{◌≡◌}
use Rattle.std.proofs.Common.{arith}
use Rattle.scanner.proofs.RowSearch.{parts_agree}
use Rattle.scanner.proofs.rules.same_codes.Goals as goal

pub returns : goal.returns
returns c =
    let a : (c.args.a + c.args.n) - c.args.a ≡ c.args.n = omega arith in
    let b : (c.args.c + c.args.n) - c.args.c ≡ c.args.n = omega arith in
    rw (c.eq.ensures, c.part.ensures, c.part-2.ensures, a, b)
    (parts_agree c.args.n c.args.a c.args.c (omega (arith, c.requires.in_the_table)) (omega (arith, c.requires.in_the_table)))
