-- A piece in the store: where it stands, and that the others stand there once it is taken out: `closed`.
use Prim.Native.Nat.{ℕ, ◌+◌, ◌-◌, ◌≤◌}
use mathlib.Core.Path.{◌≡◌, sym, ap, ◌∙◌}
use mathlib.Core.List.{List, [], ◌∷◌, ◌++◌, append_assoc}
use native.Mathlib.Omega.{arith}
use lib.ListN.{length, take, drop, length-append, length-drop}
use lib.Seq.{take_at}
use Rattle.junior.specs.Trace.{Piece}
use Rattle.junior.specs.Parked.{All, no_more, next}
use Rattle.junior.proofs.Parks.{all-++}
use Rattle.state.specs.Pieces.{piece_bytes, pieces_bytes}
use Rattle.state.proofs.Pieces.{pieces-++}
use Rattle.store.specs.Store.{in_use, two, without}
use Rattle.store.specs.Stored.{Stored}
use Rattle.store.proofs.There.{both_long, front_is, behind_is, There, there}
use Rattle.store.proofs.Added.{in_use_is}

-- what is so of all is so of those before a piece, of it, and of those behind it
pub parts_of : {A : Type 0} {So : A → Type 0} (l : List A) {x : A} {m : List A} → All So (l ++ (x ∷ m)) → All So l × So x × All So m
parts_of [] (next h a) = (no_more, h, a)
parts_of (y ∷ l) (next h a) = let (before, here, behind) = parts_of l a in (next h before, here, behind)

-- piece x, with l before it and m behind
module _ {t s : List ℕ} (l : List Piece) (x : Piece) (m : List Piece) (a : Stored t s (l ++ (x ∷ m))) where
  -- where it begins, how many bytes it has, and how many stand behind it
  abbrev at : ℕ
  at = 2 + length (pieces_bytes l)

  abbrev n : ℕ
  n = length (piece_bytes x)

  abbrev left : ℕ
  left = in_use s - length (pieces_bytes l)

  bytes : take (in_use s) (drop 2 s) ≡ pieces_bytes l ++ (piece_bytes x ++ pieces_bytes m)
  unfolding pieces_bytes
  bytes = a.bytes ∙ pieces-++ l (x ∷ m)

  sum : length (pieces_bytes l) + length (piece_bytes x ++ pieces_bytes m) ≡ in_use s
  sum = both_long s (pieces_bytes l) (piece_bytes x ++ pieces_bytes m) 2 (in_use s) a.all bytes

  from_here : take left (drop at s) ≡ piece_bytes x ++ pieces_bytes m
  from_here = behind_is s (pieces_bytes l) (piece_bytes x ++ pieces_bytes m) 2 (in_use s) a.all bytes

  inside : at + left ≤ length s
  inside = omega (arith, sum, a.all)

  sum_here : n + length (pieces_bytes m) ≡ left
  sum_here = both_long s (piece_bytes x) (pieces_bytes m) at left inside from_here

  pub within : at + n ≤ 2 + in_use s
  within = omega (arith, sum, sum_here)

  pub piece_there : There t s at x
  piece_there = there s (pieces_bytes m) at left (parts_of l a.each).1 inside from_here

  -- without it the bytes in use are those of the others
  without_is : without n at s ≡ two (in_use s - n) ++ ((pieces_bytes l ++ pieces_bytes m) ++ drop (2 + (in_use s - n)) s)
  unfolding without
  without_is =
      let e : at - 2 ≡ length (pieces_bytes l) = omega arith in
      let f : 2 + (in_use s - n) - at ≡ left - n = omega (arith, sum, sum_here) in
      let before = front_is s (pieces_bytes l) (piece_bytes x ++ pieces_bytes m) 2 (in_use s) a.all bytes in
      let behind = behind_is s (piece_bytes x) (pieces_bytes m) at left inside from_here in
      rw (e, f, before, behind) (ap (λ (k : List ℕ). two (in_use s - n) ++ k) (sym (append_assoc (pieces_bytes l) (pieces_bytes m) _)))

  pub closed : Stored t (without n at s) (l ++ m)
  closed =
      let rest = drop (2 + (in_use s - n)) s in
      let others = pieces_bytes l ++ pieces_bytes m in
      let k = length-append (pieces_bytes l) (pieces_bytes m) in
      let u : in_use (two (in_use s - n) ++ (others ++ rest)) ≡ in_use s - n = in_use_is (in_use s - n) (others ++ rest) in
      let long : length (others ++ rest) ≡ length s - 2 = simp (length-append, length-drop) (omega (arith, sum, sum_here, a.all)) in
      let (before, here, behind) = parts_of l a.each in
      rw without_is
      (record {
        begins = omega arith;
        all = rw u (omega (arith, long, a.all));
        bytes = rw (u, pieces-++ l m) (take_at others rest (in_use s - n) (omega (arith, sum, sum_here, k)));
        each = all-++ before behind;
      })
