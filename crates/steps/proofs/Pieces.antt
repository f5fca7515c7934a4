-- A piece is copied from the state to the store, a node's four bytes at a time, and labelled.
use Prim.Native.Nat.{ℕ, ◌+◌, ◌*◌, ◌/◌, ◌%◌, ◌≤◌}
use mathlib.Core.Path.{◌≡◌, refl, ap, sym, ◌∙◌}
use mathlib.Core.List.{List, [], ◌∷◌, ◌++◌, append_assoc}
use native.Mathlib.Omega.{arith}
use native.Mathlib.Nat.{add-zero}
use lib.ListN.{length, get_or, take, drop, length-append, length-drop}
use lib.Seq.{get_or-drop, drop-drop, take-add, take_at, drop_at, drop-append-le, length-take-le}
use borrow.Rule.Slice.PartMut.{mid_of, post_of, put_mid, same_len_mid, put_same}
use Rattle.steps.specs.declared.Pass.{Pass}
use Rattle.steps.specs.Parking.{piece_from, Copied}
use Rattle.steps.proofs.Slices.{all_same}

-- what stands in place of a Freezable's own four bytes
abbrev label_of : ℕ → ℕ → List ℕ
label_of event node = event / 256 ∷ event % 256 ∷ node / 256 ∷ node % 256 ∷ []

-- the four bytes from the k-th on, one by one
abbrev four_from : List ℕ → ℕ → List ℕ
four_from l k = get_or l k 0 ∷ get_or l (k + 1) 0 ∷ get_or l (k + 2) 0 ∷ get_or l (k + 3) 0 ∷ []

-- read from the front, they are its first four
first_four : (l : List ℕ) → 4 ≤ length l → four_from l 0 ≡ take 4 l
first_four [] h = absurd (omega arith)
first_four (w ∷ []) h = absurd (omega arith)
first_four (w ∷ x ∷ []) h = absurd (omega arith)
first_four (w ∷ x ∷ y ∷ []) h = absurd (omega arith)
first_four (w ∷ x ∷ y ∷ z ∷ l) h = refl

-- read from anywhere, they are that part of the list
four_read : (l : List ℕ) (k : ℕ) → k + 4 ≤ length l → four_from l k ≡ mid_of k 4 l
four_read l k h =
    let first = get_or-drop k l 0 0 ∙ ap (λ j. get_or l j 0) (add-zero k) in
    rw (← first, ← get_or-drop k l 1 0, ← get_or-drop k l 2 0, ← get_or-drop k l 3 0)
    (first_four (drop k l) (omega (arith, length-drop k l)))

-- a part is as long as it is said to be, and the list as long as it was
mid_long : (a n : ℕ) (l : List ℕ) → a + n ≤ length l → length (mid_of a n l) ≡ n
mid_long a n l h = length-take-le n (drop a l) (omega (arith, length-drop a l))

put_long : (a n : ℕ) (l ys : List ℕ) → a + n ≤ length l → length ys ≡ n → length (put_mid a n l ys) ≡ length l
put_long a n l ys h e = same_len_mid a n l ys (e ∙ sym (mid_long a n l h))

-- two parts, one behind the other, are one: read
mid_then : (a n k : ℕ) (l : List ℕ) → mid_of a n l ++ mid_of (a + n) k l ≡ mid_of a (n + k) l
mid_then a n k l = rw (take-add n k (drop a l), drop-drop n a l)

-- and written
put_then : (a n k : ℕ) (l ys zs : List ℕ) → a ≤ length l → length ys ≡ n
    → put_mid (a + n) k (put_mid a n l ys) zs ≡ put_mid a (n + k) l (ys ++ zs)
put_then a n k l ys zs h e =
    let rest = post_of a n l in
    let long : length (take a l ++ ys) ≡ a + n = simp (length-append, length-take-le a l h, e) in
    rw (← append_assoc (take a l) ys rest, take_at (take a l ++ ys) rest (a + n) long, drop_at (take a l ++ ys) rest (a + n) long, drop-drop k n (drop a l))
    (simp append_assoc)

-- and copied
copy_then : (from to n k : ℕ) (state store : List ℕ) → from + n ≤ length state → to ≤ length store
    → put_mid (to + n) k (put_mid to n store (mid_of from n state)) (mid_of (from + n) k state) ≡ put_mid to (n + k) store (mid_of from (n + k) state)
copy_then from to n k state store h g =
    put_then to n k store (mid_of from n state) (mid_of (from + n) k state) g (mid_long from n state h)
    ∙ ap (put_mid to (n + k) store) (mid_then from n k state)

-- the front of a part is written anew
put_front : (a n k : ℕ) (l ys zs : List ℕ) → a ≤ length l → k ≤ length ys
    → put_mid a k (put_mid a n l ys) zs ≡ put_mid a n l (zs ++ drop k ys)
put_front a n k l ys zs h e =
    let rest = post_of a n l in
    let long = length-take-le a l h in
    rw (take_at (take a l) (ys ++ rest) a long, drop_at (take a l) (ys ++ rest) a long, drop-append-le k ys rest e)
    (simp append_assoc)

-- none is copied at first
pub copied_none : (from to : ℕ) (p : Pass) → Copied from to 0 p p
copied_none from to p = record { state_is = refl; store_is = sym (put_same to 0 p.store.now); progress_is = refl; atoms_is = refl; named = all_same }

module _ {from to n : ℕ} {p p' : Pass} (o : Copied from to n p p') where
  -- the store is as long as it was
  pub copied_long : from + 4 * n ≤ length p.state.now → to + 4 * n ≤ length p.store.now → length p'.store.now ≡ length p.store.now
  copied_long h k =
      ap length o.store_is
      ∙ put_long to (4 * n) p.store.now (mid_of from (4 * n) p.state.now) k (mid_long from (4 * n) p.state.now h)

  -- four bytes more
  pub copied_more : {store : List ℕ} → from + 4 * n + 4 ≤ length p.state.now → to + 4 * n ≤ length p.store.now
      → store ≡ put_mid (to + 4 * n) 4 p'.store.now (four_from p'.state.now (from + 4 * n))
      → store ≡ put_mid to (4 * (n + 1)) p.store.now (mid_of from (4 * (n + 1)) p.state.now)
  copied_more h k e =
      let state = p.state.now in
      let own = ap (λ l. four_from l (from + 4 * n)) o.state_is ∙ four_read state (from + 4 * n) h in
      let next : 4 * (n + 1) ≡ 4 * n + 4 = omega arith in
      e
      ∙ (ap (put_mid (to + 4 * n) 4 p'.store.now) own
      ∙ rw (o.store_is, next) (copy_then from to (4 * n) 4 state p.store.now (omega arith) (omega arith)))

  -- the first four bytes labelled, the store has the piece
  pub piece_put : (event node : ℕ) {store : List ℕ} → 1 ≤ n → from + 4 * n ≤ length p.state.now → to ≤ length p.store.now
      → store ≡ put_mid to 4 p'.store.now (label_of event node)
      → store ≡ put_mid to (4 * n) p.store.now (piece_from event node (mid_of from (4 * n) p.state.now))
  piece_put event node one h k e =
      let own = mid_of from (4 * n) p.state.now in
      let four : 4 ≤ length own = omega (arith, mid_long from (4 * n) p.state.now h) in
      e ∙ rw o.store_is (put_front to (4 * n) 4 p.store.now own (label_of event node) k four)
