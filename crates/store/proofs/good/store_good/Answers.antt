-- The bytes in use, then the pieces.
use Prim.Native.Nat.{◌+◌, ◌-◌}
use mathlib.Core.Path.{◌≡◌, sym, ◌∙◌}
use native.Mathlib.Omega.{arith}
use Rattle.store.specs.Store.{in_use}
use Rattle.store.proofs.Tests.{store_short, store_past, store_pieces}
use Rattle.store.proofs.good.store_good.Goals as goal

-- return false;
pub returns-then-store-lt2 : goal.returns-then-store-lt2
returns-then-store-lt2 c =
    sym (store_short c.args.table.now c.args.store.now (omega arith))

-- return false;
pub returns-then-store-used : goal.returns-then-store-used
returns-then-store-used c =
    sym (store_past c.args.table.now c.args.store.now (omega (arith, c.word_at-used.ensures.0)))

-- pieces.all_good()
pub returns : goal.returns
returns c =
    let s = c.args.store.now in
    let u = c.word_at-used.ensures.0 in
    let d : 2 + in_use s - 2 ≡ in_use s = omega arith in
    c.all_good.ensures ∙ rw (u, d) (sym (store_pieces c.args.table.now s (omega (arith, u))))
