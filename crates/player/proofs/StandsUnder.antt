-- What stands under an instant's line, case by case.
use Prim.Native.Nat.{ℕ, ◌+◌, ◌^◌, ◌≤◌, ◌<◌}
use mathlib.Core.Path.{◌≡◌, sym}
use mathlib.Core.Logic.{◌≢◌}
use mathlib.Core.Bool.{Bool, true, false, false≢true}
use mathlib.Core.List.{List, []}
use native.Mathlib.Omega.{arith}
use lib.ListN.{length}
use Rattle.letters.proofs.Puts.{puts_none}
use Rattle.table.specs.Inside.{Placed}
use Rattle.table.specs.Inside.Weighing.{tree_at}
use Rattle.table.proofs.Loaded.{node_placed}
use Rattle.waiting.specs.declared.Wait.{Wait}
use Rattle.player.specs.Waiting.{waits_line, Under, room_under}
use Rattle.player.specs.Inside.{OneOfItsNodes, PutsUnder, Shown, ShowsWait}
use Rattle.player.proofs.WaitLine.{line_few}

module _ {t : List ℕ} {w : Wait} where
  nothing_under : {why : Bool} (old : List ℕ) (at : ℕ) → at + room_under ≤ length old → Under t w why [] → PutsUnder why t w old old at at
  nothing_under old at room u = record { more = []; under = u; puts = puts_none old at; within = omega arith }

  pub nobody_asks : (why : Bool) (old : List ℕ) (at : ℕ) → at + room_under ≤ length old → why ≡ false → PutsUnder why t w old old at at
  nobody_asks true old at room e = absurd (false≢true (sym e))
  nobody_asks false old at room e = nothing_under old at room Under.not_asked

  pub not_declared : (why : Bool) (old : List ℕ) (at : ℕ) → at + room_under ≤ length old → why ≡ true → w.node ≡ 4096
      → PutsUnder why t w old old at at
  not_declared true old at room e n = nothing_under old at room (Under.never_declared n)
  not_declared false old at room e n = absurd (false≢true e)

module _ {t : List ℕ} {w : Wait} (h : OneOfItsNodes t w) (n : w.node ≢ 4096) where
  placed : Placed t w.node (tree_at t w.node)
  placed = node_placed h.loaded w.node (h.inside n)

  pub can_be_shown : {at : ℕ} → at + room_under < 18446744073709551616 → Shown t w at
  can_be_shown l = record { test = tree_at t w.node; placed = placed; below = l }

  pub wait_under : (why : Bool) → why ≡ true → w.event < 2 ^ 64 → {old new : List ℕ} {at r : ℕ} → at + room_under ≤ length old
      → ShowsWait t w old new at r → PutsUnder why t w old new at r
  wait_under true e k room s =
      let put = s.puts (tree_at t w.node) placed.spelled in
      record {
        more = waits_line w.node (tree_at t w.node) w.event;
        under = Under.declared (tree_at t w.node) (h.inside n) placed.spelled;
        puts = put;
        within = omega (arith, put.next, line_few placed k);
      }
  wait_under false e k room s = absurd (false≢true e)
