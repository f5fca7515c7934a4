-- Pieces put behind those in use stand there: `added`; and what the store is then, byte by byte.
use Prim.Native.Nat.{ℕ, ◌+◌, ◌-◌, ◌≤◌, ◌<◌}
use mathlib.Core.Path.{◌≡◌, sym, ap, ◌∙◌}
use mathlib.Core.List.{List, [], ◌++◌, append_assoc}
use native.Mathlib.Nat.{div-add-mod'}
use native.Mathlib.Omega.{arith}
use lib.ListN.{length, get_or, take, drop, length-append, length-drop, take-append-drop}
use lib.Seq.{length-take-le, take_at, drop-drop, drop-append-le}
use Rattle.junior.specs.Trace.{Piece}
use Rattle.junior.specs.Parked.{All}
use Rattle.junior.proofs.Parks.{all-++}
use Rattle.state.specs.Pieces.{pieces_bytes}
use Rattle.state.proofs.Pieces.{pieces-++}
use Rattle.store.specs.Store.{in_use, two, adding}
use Rattle.store.specs.Stored.{Belongs, Stored}
use Rattle.store.proofs.Moved.{drop_take}
use Rattle.store.proofs.There.{two_there}

-- a number in front is the bytes in use, whatever it is
pub in_use_is : (n : ℕ) (l : List ℕ) → in_use (two n ++ l) ≡ n
in_use_is n l = div-add-mod' n 256

module _ (b s : List ℕ) (h : 2 + in_use s + length b ≤ length s) where
  front : length (take (in_use s) (drop 2 s)) ≡ in_use s
  front = length-take-le (in_use s) (drop 2 s) (simp length-drop (omega arith))

  pub adding_in_use : in_use (adding b s) ≡ in_use s + length b
  unfolding adding
  adding_in_use = div-add-mod' (in_use s + length b) 256

  pub adding_long : length (adding b s) ≡ length s
  unfolding adding
  adding_long = simp (length-append, front, length-drop) (omega arith)

  -- the bytes in use are those of before, and b
  pub adding_bytes : take (in_use s + length b) (drop 2 (adding b s)) ≡ take (in_use s) (drop 2 s) ++ b
  unfolding adding
  adding_bytes =
      let old = take (in_use s) (drop 2 s) in
      let rest = drop (2 + in_use s + length b) s in
      let long : length (old ++ b) ≡ in_use s + length b = length-append old b ∙ ap (λ (n : ℕ). n + length b) front in
      ap (take (in_use s + length b)) (sym (append_assoc old b rest)) ∙ take_at (old ++ b) rest (in_use s + length b) long

  -- written behind the bytes in use, and then their number in front, as an instant does
  pub adding_is : two (in_use s + length b) ++ drop 2 (take (2 + in_use s) s ++ (b ++ drop (2 + in_use s + length b) s)) ≡ adding b s
  unfolding adding
  adding_is =
      let u = in_use s in
      let rest = b ++ drop (2 + u + length b) s in
      let e : 2 + u - 2 ≡ u = omega arith in
      let start : 2 ≤ length (take (2 + u) s) = rw (length-take-le (2 + u) s (omega arith)) (omega arith) in
      let kept = drop_take 2 (2 + u) s (omega arith) (omega arith) ∙ ap (λ (n : ℕ). take n (drop 2 s)) e in
      ap (λ (l : List ℕ). two (u + length b) ++ l) (drop-append-le 2 (take (2 + u) s) rest start ∙ ap (λ (l : List ℕ). l ++ rest) kept)

-- no pieces more leave the store as it was, the first two bytes too
pub adding_none : (s : List ℕ) → ((i : ℕ) → get_or s i 0 < 256) → 2 + in_use s ≤ length s → adding [] s ≡ s
unfolding adding
adding_none s low h =
    let u = in_use s in
    let e : u + 0 ≡ u = omega arith in
    let f : 2 + u + 0 ≡ 2 + u = omega arith in
    let behind = ap (λ (l : List ℕ). take u (drop 2 s) ++ l) (sym (drop-drop u 2 s)) ∙ take-append-drop u (drop 2 s) in
    let front = sym (two_there s low 0 (omega arith)) in
    rw (e, f) (ap (λ (l : List ℕ). two u ++ l) behind ∙ (ap (λ (l : List ℕ). l ++ drop 2 s) front ∙ take-append-drop 2 s))

pub added : {t s : List ℕ} {l m : List Piece} → Stored t s l → All (Belongs t) m → 2 + in_use s + length (pieces_bytes m) ≤ length s
    → Stored t (adding (pieces_bytes m) s) (l ++ m)
added {t} {s} {l} {m} a each h =
    let b = pieces_bytes m in
    let u = adding_in_use b s h in
    let long = adding_long b s h in
    record {
      begins = rw long a.begins;
      all = rw (long, u) (omega arith);
      bytes = rw u (adding_bytes b s h ∙ (ap (λ (x : List ℕ). x ++ b) a.bytes ∙ sym (pieces-++ l m)));
      each = all-++ a.each each;
    }
