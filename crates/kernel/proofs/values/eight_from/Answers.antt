-- `eight_from` meets its contract: the word is read from the eight bytes there.
use borrow.Author.Rules.{rules}
use Prim.Native.Nat.{◌+◌, ◌-◌}
use mathlib.Core.Path.{◌≡◌, ap, ◌∙◌}
use native.Mathlib.Omega.{arith}
use borrow.Rule.Slice.PartMut.{mid_of}
use Rattle.std.specs.Int.{w64, from_le_bytes}
use Rattle.kernel.proofs.ValueWords.{eight_in}
use Rattle.kernel.proofs.values.eight_from.Goals as goal

pub returns : goal.returns
returns c =
    let from = c.args.from in
    let values = c.args.values.now in
    let long : from + 8 - from ≡ 8 = omega arith in
    let eight = c.copy_from_slice.ensures.after ∙ ap (λ n. mid_of from n values) long in
    eight_in values from c.from_le_bytes.result c.fits-values (search rules) (c.from_le_bytes.ensures ∙ ap (from_le_bytes w64) eight)
