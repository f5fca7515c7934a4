-- Bytes that are written into a room, copied to its front one by one, or moved down over a gap.
use Prim.Native.Nat.{ℕ, suc, ◌+◌, ◌-◌, ◌≤◌, ◌<◌}
use mathlib.Core.Path.{◌≡◌, sym, ap, ◌∙◌}
use mathlib.Core.List.{List, [], ◌∷◌, ◌++◌, append_assoc}
use native.Mathlib.Omega.{arith}
use native.Mathlib.Numerals.{add-one}
use lib.ListN.{length, get_or, set, take, drop, length-drop, take-append-drop}
use lib.Seq.{length-take-le, take_all, take-suc, take-add, drop-cons, drop_at, drop-drop, drop-append-le, append_snoc, set_at, sets-eq}
use lib.Seq.{get_or-append-add, get_or-drop}
use borrow.Rule.Slice.PartMut.{mid_of, put_mid, mid_len}
use Rattle.store.specs.Store.{in_use, two, without}

-- two bytes in place
pub two_set : (s : List ℕ) (i a b : ℕ) → i + 1 < length s → set (set s i a) (i + 1) b ≡ take i s ++ (a ∷ b ∷ drop (i + 2) s)
two_set s i a b h =
    rw (add-one i) (sets-eq (a ∷ b ∷ []) s i (omega arith) ∙ append_assoc (take i s) (a ∷ b ∷ []) (drop (i + 2) s))

-- the first i bytes of l are those of `from`
pub copies_more : (from l : List ℕ) (i : ℕ) → i < length from → i < length l
    → set (take i from ++ drop i l) i (get_or from i 0) ≡ take (i + 1) from ++ drop (i + 1) l
copies_more from l i h g =
    rw (
      drop-cons l i 0 g,
      set_at (take i from) (get_or l i 0) (drop (suc i) l) (get_or from i 0) i (length-take-le i from (omega arith)),
      add-one i,
      take-suc from i 0 h,
    )
    (sym (append_snoc (take i from) (get_or from i 0) (drop (suc i) l)))

-- the next byte has not been moved over yet
pub moves_more : (l : List ℕ) (n i : ℕ) → n + i < length l
    → set (take i (drop n l) ++ drop i l) i (get_or (take i (drop n l) ++ drop i l) (n + i) 0) ≡ take (i + 1) (drop n l) ++ drop (i + 1) l
moves_more l n i h =
    let inside : i < length (drop n l) = simp length-drop (omega arith) in
    let front : length (take i (drop n l)) ≡ i = length-take-le i (drop n l) (omega arith) in
    let at : n + i ≡ length (take i (drop n l)) + n = omega (arith, front) in
    let back : i + n ≡ n + i = omega arith in
    let next : get_or (take i (drop n l) ++ drop i l) (n + i) 0 ≡ get_or (drop n l) i 0 =
    ap (λ (k : ℕ). get_or (take i (drop n l) ++ drop i l) k 0) at ∙ (get_or-append-add (take i (drop n l)) (drop i l) n 0
    ∙ (get_or-drop i l n 0 ∙ (ap (λ (k : ℕ). get_or l k 0) back ∙ sym (get_or-drop n l i 0))))
    in
    rw next (copies_more (drop n l) l i inside (omega arith))

-- a part to the end is all of the rest
pub to_end : (b : ℕ) (l : List ℕ) → take (length l - b) (drop b l) ≡ drop b l
to_end b l = take_all (length l - b) (drop b l) (simp length-drop (omega arith))

pub drop_take : (n k : ℕ) (l : List ℕ) → n ≤ k → k ≤ length l → drop n (take k l) ≡ take (k - n) (drop n l)
drop_take n k l h g =
    let e : k ≡ n + (k - n) = omega arith in
    ap (λ (m : ℕ). drop n (take m l)) e ∙ (ap (drop n) (take-add n (k - n) l) ∙ drop_at (take n l) _ n (length-take-le n l (omega arith)))

-- closing the gap of n bytes at `at`, and then writing how many bytes are in use
pub gap_closed : (s : List ℕ) (n at u : ℕ) → u ≡ in_use s → 2 ≤ at → at + n ≤ 2 + u → 2 + u ≤ length s
    → (mid : List ℕ) → mid ≡ drop n (mid_of at (2 + u - at) s) ++ drop (length (mid_of at (2 + u - at) s) - n) (mid_of at (2 + u - at) s)
    → two (u - n) ++ drop 2 (put_mid at (2 + u - at) s mid) ≡ without n at s
unfolding without
gap_closed s n at u e b h g mid m =
    let closed = ap (λ (l : List ℕ). l ++ post) m ∙ behind in
    rw (← e) (ap (λ (l : List ℕ). two (u - n) ++ l) (front ∙ ap (λ (l : List ℕ). take (at - 2) (drop 2 s) ++ l) closed))
  where
    k : ℕ
    k = 2 + u - at

    post : List ℕ
    post = drop k (drop at s)

    middle : List ℕ
    middle = take k (drop at s)

    long : length middle ≡ k
    long = mid_len at (2 + u) s g

    front : drop 2 (take at s ++ (mid ++ post)) ≡ take (at - 2) (drop 2 s) ++ (mid ++ post)
    front =
        drop-append-le 2 (take at s) (mid ++ post) (rw (length-take-le at s (omega arith)) b)
        ∙ ap (λ (l : List ℕ). l ++ (mid ++ post)) (drop_take 2 at s b (omega arith))

    moved : drop n middle ≡ take (2 + (u - n) - at) (drop (at + n) s)
    moved =
        let d : k - n ≡ 2 + (u - n) - at = omega arith in
        drop_take n k (drop at s) (omega arith) (simp length-drop (omega arith))
        ∙ (ap (take (k - n)) (drop-drop n at s) ∙ ap (λ (m : ℕ). take m (drop (at + n) s)) d)

    kept : drop (length middle - n) middle ++ post ≡ drop (2 + (u - n)) s
    kept =
        let d : at + (k - n) ≡ 2 + (u - n) = omega arith in
        ap (λ (m : ℕ). drop (m - n) middle ++ post) long
        ∙ (sym (drop-append-le (k - n) middle post (rw long (omega arith)))
        ∙ (ap (drop (k - n)) (take-append-drop k (drop at s)) ∙ (drop-drop (k - n) at s ∙ ap (λ (m : ℕ). drop m s) d)))

    behind : drop n middle ++ drop (length middle - n) middle ++ post ≡ take (2 + (u - n) - at) (drop (at + n) s) ++ drop (2 + (u - n)) s
    behind =
        append_assoc (drop n middle) (drop (length middle - n) middle) post
        ∙ (ap (λ (l : List ℕ). l ++ (drop (length middle - n) middle ++ post)) moved
        ∙ ap (λ (l : List ℕ). take (2 + (u - n) - at) (drop (at + n) s) ++ l) kept)
