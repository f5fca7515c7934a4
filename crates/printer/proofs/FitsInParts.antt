-- A text that fits, fits in parts; a part of a row that is put byte by byte.
use mathlib.Core.Path.{◌≡◌, refl, ◌∙◌}
use mathlib.Core.List.{List, [], ◌∷◌, ◌++◌}
use Prim.Native.Nat.{ℕ, suc, ◌+◌, ◌-◌, ◌≤◌, ◌<◌}
use native.Mathlib.Omega.{arith}
use lib.ListN.{length, get_or, set, take, drop, length-append, length-take, length-drop}
use lib.Seq.{sets, take-suc, get_or-drop}
use Rattle.letters.specs.Rooms.{Puts}
use Rattle.letters.proofs.Puts.{puts_then}
use Rattle.printer.specs.Printing.{Fits}

-- no room stays none
pub sets_none : (i : ℕ) (w : List ℕ) → sets [] i w ≡ []
sets_none i [] = refl
sets_none i (a ∷ w) = sets_none (suc i) w

-- one more byte of a part of a row
pub puts_on : {a b c : List ℕ} {at to : ℕ} (l : List ℕ) (begin p : ℕ) → begin ≤ p → p < length l
    → Puts a b at (take (p - begin) (drop begin l)) to → c ≡ set b to (get_or l p 0)
    → Puts a c at (take (p + 1 - begin) (drop begin l)) (to + 1)
puts_on l begin p h g u e =
    let n : p - begin < length (drop begin l) = rw (length-drop begin l) (omega arith) in
    let m : p + 1 - begin ≡ suc (p - begin) = omega arith in
    let o : begin + (p - begin) ≡ p = omega arith in
    let x : get_or (drop begin l) (p - begin) 0 ≡ get_or l p 0 = get_or-drop begin l (p - begin) 0 ∙ rw o in
    rw (m, take-suc (drop begin l) (p - begin) 0 n, x) (puts_then u (record { next = refl; room = e }))

pub part_long : (l : List ℕ) (begin end : ℕ) → begin ≤ end → end ≤ length l → length (take (end - begin) (drop begin l)) ≡ end - begin
part_long l begin end h g = rw (length-take (end - begin) (drop begin l), length-drop begin l) (omega arith)

-- a text that fits, fits in parts
module _ (u v : List ℕ) {at : ℕ} (h : Fits at (u ++ v)) where
  pub fits_first : Fits at u
  fits_first = record { below = omega (arith, h.below, length-append u v) }

  pub fits_on : {a b : List ℕ} {r : ℕ} → Puts a b at u r → Fits r v
  fits_on p = record { below = omega (arith, h.below, length-append u v, p.next) }
