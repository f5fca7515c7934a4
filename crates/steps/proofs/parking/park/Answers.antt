-- A Freezable's bytes are written into the store as a piece, made zero in the state, and counted.
use borrow.Author.Rules.{rules}
use Prim.Native.Nat.{◌+◌, ◌-◌, ◌*◌}
use mathlib.Core.Path.{◌≡◌, ap, ◌∙◌}
use native.Mathlib.Omega.{arith}
use Rattle.table.specs.Records.{size_at}
use Rattle.steps.proofs.Pieces.{piece_put}
use Rattle.steps.proofs.parking.park.Goals as goal

-- fn park
pub returns-clause-parked : goal.returns-clause-parked
returns-clause-parked c =
    let o = c.copy_nodes-end.ensures.1 in
    let from = 4 * c.args.i in
    let n = size_at c.args.pass.now.table.now c.args.i in
    let long : 4 * c.size_at-size.result ≡ 4 * n = ap (λ k. 4 * k) c.size_at-size.ensures.0 in
    let own : from + 4 * c.size_at-size.result - from ≡ 4 * n = omega (arith, long) in
    record {
      state_is = c.clear_part.ensures ∙ rw (own, o.state_is);
      store_is = piece_put o c.args.event (c.args.i + 1) (search rules) (search rules) (search rules) c.label.ensures ∙ rw long;
      progress_is = rw (o.progress_is, c.copy_nodes-end.ensures.0, long);
    }
