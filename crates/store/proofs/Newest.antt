-- `newest` finds the last piece of its event, or says that there is none: `newest_last`.
use Prim.Native.Nat.{ℕ, ◌+◌, ◌-◌, ◌≤◌}
use mathlib.Core.Bool.{Bool, true, false, cond}
use mathlib.Core.Path.{◌≡◌, refl, sym, ap, ◌∙◌}
use mathlib.Core.List.{List, [], ◌∷◌, ◌++◌, append_assoc, append-nil}
use native.Mathlib.Omega.{arith}
use lib.Dec.{eqb}
use lib.ListN.{length, take, drop, length-append, length-drop}
use lib.Seq.{length-take-le}
use borrow.Author.Tests.{eqb-true, eqb-false}
use Rattle.junior.specs.Trace.{Piece}
use Rattle.junior.specs.Parked.{All, no_more, next}
use Rattle.junior.proofs.Parks.{all-++}
use Rattle.state.specs.Pieces.{piece_bytes, pieces_bytes}
use Rattle.state.proofs.Pieces.{pieces-++}
use Rattle.store.specs.Store.{in_use, newest_from, newest}
use Rattle.store.specs.Stored.{Belongs, Stored}
use Rattle.store.proofs.Turns.{newest_more, newest_end}
use Rattle.store.proofs.There.{both_long, behind_is, there}

-- piece x isn't of event e
abbrev pub Other : ℕ → Piece → Type 0
Other e x = x.event ≡ e → ⊥

-- where the last piece of event e of the pieces l begins, the first piece beginning at byte 2; 0 if there is none
pub data Last (e : ℕ) (l : List Piece) : ℕ → Type 0 where
  no_such : All (Other e) l → Last e l 0
  last_is : (before : List Piece) (x : Piece) (behind : List Piece) → l ≡ before ++ (x ∷ behind) → x.event ≡ e → All (Other e) behind
      → Last e l (2 + length (pieces_bytes before))

-- one piece more behind l
module _ {e : ℕ} (l : List Piece) (x : Piece) where
  last_here : x.event ≡ e → Last e (l ++ (x ∷ [])) (2 + length (pieces_bytes l))
  last_here h = last_is l x [] refl h no_more

  last_before : {found : ℕ} → Other e x → Last e l found → Last e (l ++ (x ∷ [])) found
  last_before o (no_such a) = no_such (all-++ a (next o no_more))
  last_before o (last_is before y behind s h a) =
      last_is before y (behind ++ (x ∷ [])) (ap (λ (k : List Piece). k ++ (x ∷ [])) s ∙ append_assoc before (y ∷ behind) (x ∷ [])) h
      (all-++ a (next o no_more))

  found_now : (found : ℕ) → Last e l found → Last e (l ++ (x ∷ [])) (cond (eqb x.event e) (2 + length (pieces_bytes l)) found)
  found_now found f = go (eqb x.event e) refl
    where
      go : (b : Bool) → eqb x.event e ≡ b → Last e (l ++ (x ∷ [])) (cond b (2 + length (pieces_bytes l)) found)
      go true h = last_here (eqb-true _ _ h)
      go false h = last_before (eqb-false _ _ h) f

module _ (t s : List ℕ) (e end : ℕ) (long : end ≤ length s) where
  find : (done : List Piece) {l : List Piece} → All (Belongs t) l → (n at found : ℕ) → at ≤ end → end ≤ n + at
      → at ≡ 2 + length (pieces_bytes done) → take (end - at) (drop at s) ≡ pieces_bytes l → Last e done found
      → Last e (done ++ l) (newest_from t s e end n at found)
  unfolding pieces_bytes
  find done no_more n at found b m p h f =
      let none = sym (length-take-le (end - at) (drop at s) (simp length-drop (omega arith))) ∙ ap length h in
      rw (append-nil done, newest_end t s e end n at found (omega (arith, none))) f
  find done (next {x = x} {l = l} g a) n at found b m p h f =
      let r = pieces_bytes l in
      let sum = both_long s (piece_bytes x) r at (end - at) (omega arith) h in
      let x_there = there s r at (end - at) g (omega arith) h in
      let less : end - at - length (piece_bytes x) ≡ end - (at + length (piece_bytes x)) = omega arith in
      let later = rw less at (behind_is s (piece_bytes x) r at (end - at) (omega arith) h) in
      let more : length (pieces_bytes (done ++ (x ∷ []))) ≡ length (pieces_bytes done) + length (piece_bytes x) =
      ap length (pieces-++ done (x ∷ []))
      ∙ (length-append (pieces_bytes done) _ ∙ ap (λ (k : List ℕ). length (pieces_bytes done) + length k) (append-nil (piece_bytes x)))
      in
      let now = cond (eqb x.event e) at found in
      let found_so : Last e (done ++ (x ∷ [])) now = rw p (found_now done x found f) in
      let so = find (done ++ (x ∷ [])) a (n - 1) (at + length (piece_bytes x)) now (omega arith) (omega arith) (omega (arith, more)) later found_so in
      rw (newest_more t s e end n at found m (omega arith), x_there.long, x_there.event_is) (rw (append_assoc done (x ∷ []) l) at so)

pub newest_last : {t s : List ℕ} {l : List Piece} (e : ℕ) → Stored t s l → Last e l (newest t s e)
unfolding newest pieces_bytes
newest_last {t} {s} {l} e a =
    let u = in_use s in
    let d : 2 + u - 2 ≡ u = omega arith in
    find t s e (2 + u) a.all [] a.each u 2 0 (omega arith) (omega arith) refl (rw d a.bytes) (no_such no_more)
