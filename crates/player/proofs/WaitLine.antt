-- The line that says what a program waits for: the pieces that it is put in, and how long it can be.
use Prim.Native.Nat.{ℕ, ◌^◌, ◌≤◌, ◌<◌}
use mathlib.Core.Path.{◌≡◌}
use mathlib.Core.List.{List, ◌++◌, append_assoc}
use native.Mathlib.Omega.{arith}
use borrow.Author.Rules.{rules}
use denote.Laws.{Is}
use mir.Val.{Val, Fits}
use mir.Syntax.{w64}
use lib.ListN.{length, length-append}
use Rattle.letters.specs.Decimal.{decimal}
use Rattle.letters.specs.Text.{bytes, led, joined}
use Rattle.letters.specs.Rooms.{Puts}
use Rattle.letters.proofs.Decimal.{decimal_length}
use Rattle.letters.proofs.Puts.{puts_then}
use Rattle.junior.specs.Program.{Program}
use Rattle.table.specs.Inside.{Placed}
use Rattle.table.proofs.Loaded.{own_node}
use Rattle.listing.specs.Output.{line}
use Rattle.printer.specs.Outline.{outline}
use Rattle.printer.specs.Printing.{Shows}
use Rattle.printer.proofs.Outlined.{outline_few}
use Rattle.waiting.specs.declared.Wait.{Wait}
use Rattle.waiting.specs.contracts.Wait.{the_row}
use Rattle.player.specs.Waiting.{waits_line, room_under}
use Rattle.player.specs.Inside.{ShowsWait}

in_pieces : (node : ℕ) (p : Program) (event : ℕ)
    → waits_line node p event
    ≡ bytes "waits at node " ++ (decimal node ++ (bytes " in " ++ (outline p ++ (bytes " for event " ++ (decimal event ++ bytes "\n")))))
unfolding waits_line line joined led
in_pieces node p event = simp append_assoc

-- `Is the_row w v` is what a program knows of a Wait that it holds
pub small : (w : Wait) (v : List Val) → Is the_row w v → w.event < 2 ^ 64
small w v i = let f : Fits w64 w.event = search rules in f.fits

-- how long the three that vary can be, and so the line
pub few : {t : List ℕ} {node event : ℕ} {p : Program} → Placed t node p → event < 2 ^ 64
    → (length (decimal node) ≤ 20) × (length (outline p) ≤ 14363) × (length (decimal event) ≤ 20)
few {node = node} {event = event} h k =
    let inside : node < 10 ^ 20 = omega (arith, own_node h, h.loaded.framed.n_most) in
    (decimal_length 19 node inside, outline_few h, decimal_length 19 event (omega arith))

pub line_few : {t : List ℕ} {node event : ℕ} {p : Program} → Placed t node p → event < 2 ^ 64
    → length (waits_line node p event) ≤ room_under
line_few {node = node} {event = event} {p = p} h k =
    rw (in_pieces node p event) (simp length-append (omega (arith, few {event = event} h k)))

pub shows_wait : {t : List ℕ} {w : Wait} {a b c d e f g h : List ℕ} {at v x y z i j r : ℕ} → Puts a b at (bytes "waits at node ") v
    → Puts b c v (decimal w.node) x → Puts c d x (bytes " in ") y → Shows outline t w.node d e y z
    → Puts e f z (bytes " for event ") i → Puts f g i (decimal w.event) j → Puts g h j (bytes "\n") r → ShowsWait t w a h at r
shows_wait {w = w} p q s u m n o =
    record {
      puts = λ k l.
          rw (in_pieces w.node k w.event)
          (puts_then p (puts_then q (puts_then s (puts_then (u.puts k l) (puts_then m (puts_then n o))))));
    }
