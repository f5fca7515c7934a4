-- `build` meets its contract: before byte i the table holds what the bytes from there on place.
use borrow.Author.Rules.{rules}
use Prim.Native.Nat.{ℕ}
use mathlib.Core.Path.{◌≡◌, refl, sym}
use native.Mathlib.Omega.{arith}
use lib.ListN.{length-replicate}
use Rattle.builder.proofs.BuiltWhole.{under_starts, place_ready, level_ready, under_on, under_back, table_built}
use Rattle.builder.proofs.build.build.Goals as goal

-- while i > 0 {
pub loop-i-init : goal.loop-i-init
loop-i-init c =
    under_back c.requires.1 (under_starts c.requires.1 _ _ _ refl (length-replicate {A = ℕ} 8192 0) refl) c.back_to_acting-i.ensures

-- front.place(&names, b, level, &text[i..], table);
pub place-requires : goal.place-requires
place-requires c =
    rw c.byte_at-level.ensures (place_ready c.requires.1 c.loop-i.invariant c.loop-i-test.true)

-- depth = relevel(&names, b, &text[i..], &mut levels, depth);
pub slice_bounds-relevel-end-in-loop-i : goal.slice_bounds-relevel-end-in-loop-i
slice_bounds-relevel-end-in-loop-i c =
    sym c.loop-i.invariant.long

pub relevel-depth-requires : goal.relevel-depth-requires
relevel-depth-requires c =
    level_ready c.requires.1 c.loop-i.invariant c.loop-i-test.true

-- while i > 0 {
pub loop-i-preserved : goal.loop-i-preserved
loop-i-preserved c =
    let on = under_on c.requires.1 c.loop-i.invariant c.loop-i-test.true
    (rw c.byte_at-level.ensures at c.place.ensures) c.relevel-depth.ensures c.relevel-depth.auto.levels c.place.auto.table in
    under_back c.requires.1 on c.back_to_acting-i-in-loop-i.ensures

-- put_trailer(table, 6 * n + 4 * m, sizes);
pub put_trailer-requires : goal.put_trailer-requires
put_trailer-requires c =
    record { in_the_table = search rules; size_bound = search rules }

-- pub fn build
pub returns : goal.returns
returns c p g =
    let e : c.loop-i.i ≡ 0 = omega arith in
    table_built g (rw e at c.loop-i.invariant) _ c.put_trailer.ensures
