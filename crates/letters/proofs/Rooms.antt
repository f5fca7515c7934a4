-- Texts that are stored into a room, as far as there is room.
use Prim.Native.Nat.{ℕ, suc, ◌+◌, ◌≤◌}
use mathlib.Core.Path.{◌≡◌, refl, sym, ◌∙◌}
use mathlib.Core.List.{List, [], ◌∷◌, ◌++◌, append_assoc}
use native.Mathlib.Omega.{arith}
use native.Mathlib.Nat.{add-zero, add-suc, suc-add, zero-add}
use lib.ListN.{length, set, take, drop}
use lib.Seq.{sets, sets-eq, drop-drop}
use borrow.Rule.Slice.PartMut.{put_mid}
use Rattle.std.proofs.lemmas.List.{set_past}
use Rattle.letters.specs.Text.{beginning}

-- one text behind another
pub sets_append : (l : List ℕ) (i : ℕ) (u v : List ℕ) → sets l i (u ++ v) ≡ sets (sets l i u) (i + length u) v
sets_append l i [] v = rw (add-zero i)
sets_append l i (a ∷ u) v = rw (add-suc i (length u), ← suc-add i (length u)) (sets_append (set l i a) (suc i) u v)

-- nothing is stored where the room has ended
pub sets_past : (l w : List ℕ) (i : ℕ) → length l ≤ i → sets l i w ≡ l
sets_past l [] i h = refl
sets_past l (a ∷ w) i h = rw (set_past l i a h) (sets_past l w (suc i) (omega arith))

-- a room that is long enough begins with the text
pub sets_front : (l w : List ℕ) → length w ≤ length l → sets l 0 w ≡ beginning w l
sets_front l w h = rw (zero-add (length w)) at (sets-eq w l 0 (rw (zero-add (length w)) h))

-- a text copied over a part of a room
pub sets_part : (l w : List ℕ) (i n : ℕ) → n ≡ length w → i + length w ≤ length l → put_mid i n l w ≡ sets l i w
sets_part l w i n e h =
    rw (e, drop-drop (length w) i l) (sym (append_assoc (take i l) w (drop (i + length w) l)) ∙ sym (sets-eq w l i h))
