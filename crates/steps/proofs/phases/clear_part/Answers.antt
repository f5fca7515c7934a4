-- A subtree's bytes made zero, all others kept.
use lib.ListN.{replicate}
use borrow.Rule.Slice.PartMut.{put_mid, mid_len}
use mathlib.Core.Path.{ap, ◌∙◌}
use Prim.Native.Nat.{◌-◌}
use Rattle.steps.proofs.phases.clear_part.Goals as goal

-- pub fn clear_part
pub returns : goal.returns
returns c =
    let s = c.args.state.now in
    let a = c.args.from in
    let b = c.args.till in
    ap (put_mid a (b - a) s) (c.clear.ensures ∙ ap (λ n. replicate n 0) (mid_len a b s c.requires.1))
