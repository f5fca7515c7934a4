-- Texts that are put into a room, one behind the other.
use mathlib.Core.Path.{◌≡◌, refl, sym, ap, ◌∙◌}
use mathlib.Core.List.{List, [], ◌∷◌, ◌++◌}
use Prim.Native.Nat.{ℕ, ◌+◌, ◌^◌, ◌≤◌, ◌<◌, suc}
use native.Mathlib.Omega.{arith}
use native.Mathlib.Nat.{add-zero, zero-add}
use native.Mathlib.Numerals.{add-one}
use lib.ListN.{length, get_or, set, take, drop, length-append}
use lib.Seq.{sets, length-sets, take-suc, take_at}
use Rattle.letters.specs.Decimal.{decimal}
use Rattle.letters.specs.Rooms.{Puts}
use Rattle.letters.proofs.Decimal.{decimal_length}
use Rattle.letters.proofs.Rooms.{sets_append, sets_front}

pub puts_none : (l : List ℕ) (x : ℕ) → Puts l l x [] x
puts_none l x = record { next = sym (add-zero x); room = refl }

-- the room has as many bytes as before
pub puts_long : {a b : List ℕ} {x r : ℕ} {u : List ℕ} → Puts a b x u r → length b ≡ length a
puts_long {a} {x = x} {u = u} p = ap length p.room ∙ length-sets a x u

pub puts_then : {a b c : List ℕ} {x r s : ℕ} {u v : List ℕ} → Puts a b x u r → Puts b c r v s → Puts a c x (u ++ v) s
puts_then {a} {x = x} {u = u} {v = v} p q =
    record {
      next = simp length-append (omega (arith, p.next, q.next));
      room = q.room ∙ rw (p.room, p.next) (sym (sets_append a x u v));
    }

-- more bytes behind
pub puts_more : {a b c : List ℕ} {x r : ℕ} {u : List ℕ} (v : List ℕ) → Puts a b x u r → c ≡ sets b r v → Puts a c x (u ++ v) (r + length v)
puts_more v p e = puts_then p (record { next = refl; room = e })

-- one more byte of a text
pub puts_byte : {a b c : List ℕ} {x : ℕ} (text : List ℕ) (i : ℕ) → i < length text → Puts a b x (take i text) (x + i)
    → c ≡ set b (x + i) (get_or text i 0) → Puts a c x (take (i + 1) text) (x + (i + 1))
puts_byte text i h p e = rw (add-one i, take-suc text i 0 h) (puts_then p (record { next = omega arith; room = e }))

-- a text at the start of a room
pub puts_front : {a b w : List ℕ} {r : ℕ} → Puts a b 0 w r → length w ≤ length a → take r b ≡ w
puts_front {a} {w = w} p h =
    let whole = p.next ∙ zero-add (length w) in
    rw (whole, p.room, sets_front a w h) (take_at w (drop (length w) a) (length w) refl)

-- where a number of at most k digits and the byte behind it end
pub number_end : {a b : List ℕ} {x r : ℕ} (k n e : ℕ) → n < 10 ^ suc k → Puts a b x (decimal n ++ (e ∷ [])) r → r ≤ x + k + 2
number_end k n e h p = omega (arith, p.next, decimal_length k n h, length-append (decimal n) (e ∷ []))
