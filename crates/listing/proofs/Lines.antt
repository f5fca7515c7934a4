-- Output lines that are put field by field, and the room that holds one.
use mathlib.Core.Path.{◌≡◌, refl, ◌∙◌}
use mathlib.Core.Bool.{Bool, true, false, cond}
use mathlib.Core.List.{List, [], ◌∷◌, ◌++◌, append_assoc, append-nil}
use Prim.Native.Nat.{ℕ, ◌≤◌, ◌<◌}
use native.Mathlib.Omega.{arith}
use native.Mathlib.Nat.{zero-add}
use lib.ListN.{length}
use borrow.Author.Tests.{le-leb, lt-leb}
use Rattle.letters.specs.Text.{bytes, newline, space, led, joined}
use Rattle.letters.proofs.Rooms.{sets_front}
use Rattle.listing.specs.Output.{line, Written}
use Rattle.letters.specs.Rooms.{Puts}
use Rattle.letters.specs.Writing.{Writes}
use Rattle.letters.specs.declared.Writer.{Writer}
use Rattle.letters.proofs.Writes.{writes_then}

-- a field, and the rest of the line
pub writes_field : {a b c : Writer} (w v : List ℕ) (l : List (List ℕ)) → Writes a b (w ++ (space ∷ [])) → Writes b c (line (v ∷ l))
    → Writes a c (line (w ∷ v ∷ l))
unfolding line joined led
writes_field w v l p q = simp append_assoc (simp append_assoc at (writes_then p q))

-- the last field
pub writes_last : {a b : Writer} (w : List ℕ) → Writes a b (w ++ (newline ∷ [])) → Writes a b (line (w ∷ []))
unfolding line joined led
writes_last w p = simp append-nil p

pub flag_length : (b : Bool) → length (cond b (bytes "TERM") (bytes "STOP") ++ (space ∷ [])) ≡ 5
flag_length true = refl
flag_length false = refl

-- a line that fits into every room which is long enough was written
pub written : {least : ℕ} {text old new : List ℕ} {r : ℕ} → length text ≤ least → least ≤ length old → Puts old new 0 text r
    → Written least text old new r
written {least} {text} {old} {r = r} f h p =
    let whole : r ≡ length text = p.next ∙ zero-add (length text) in
    record {
      answer = simp (le-leb least (length old) h) whole;
      room = simp (le-leb least (length old) h) (p.room ∙ sets_front old text (omega arith));
      short = omega arith;
      within = omega arith;
    }

pub unwritten : {least : ℕ} (text : List ℕ) {old : List ℕ} → length old < least → Written least text old old 0
unwritten {least} text {old} h =
    record {
      answer = simp (lt-leb least (length old) h);
      room = simp (lt-leb least (length old) h);
      short = omega arith;
      within = omega arith;
    }
