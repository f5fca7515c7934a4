-- The lowest event from v on that words mark, found by the trailing zeros of the words from there on.
use mathlib.Core.Path.{◌≡◌, refl, sym, ap, subst, fun_ext, ◌∙◌}
use mathlib.Core.Bool.{Bool, true, false, ◌&&◌, and-false, false≢true}
use mathlib.Core.List.{List, [], ◌∷◌}
use Prim.Native.Nat.{ℕ, zero, suc, ◌+◌, ◌-◌, ◌*◌, ◌/◌, ◌%◌, ◌^◌, ◌≤◌, ◌<◌}
use native.Mathlib.Omega.{arith}
use native.Mathlib.Nat.{div-eq_of_lt, lt_of_lt_of_le}
use lib.Dec.{eqb, ltb, leb}
use native.Mathlib.Numerals.{add-one}
use lib.ListN.{length, get_or, drop, drop_of_length-le}
use lib.Seq.{drop-cons, get_or-drop}
use lib.Bits.{bit_or, or_add_and, and_le_l, and_le_r}
use lib.Pow.{pow_mono, shr-shr}
use lib.Count.{count_trailing_zeros}
use borrow.Author.Tests.{ltb-true, ltb-false, leb-true, leb-false, le-leb}
use Rattle.events.specs.Events.{lowest}
use Rattle.events.specs.Members.{places, marks}
use Rattle.events.proofs.Bits.{digits, digits_at, digits_lowest}
use Rattle.events.proofs.Events.{before_lowest, at_lowest, lowest_is}
use Rattle.events.proofs.Words.{marks_at}
use Rattle.std.specs.Prelude.{Some, None}
use Rattle.std.proofs.Common.{Option}
use Rattle.kernel.specs.Lowest.{lowest_from, Found, joined}

-- a shift brings the digits down
digits_shifted : (w k j : ℕ) → digits (w / 2 ^ k) j ≡ digits w (k + j)
digits_shifted w k j = sym (digits_at j (w / 2 ^ k)) ∙ (ap (λ x. eqb (x % 2) 1) (shr-shr w k j) ∙ digits_at (k + j) w)

-- a number below 2 ^ k has no digit from the k-th on
no_digit : (w k j : ℕ) → w < 2 ^ k → k ≤ j → digits w j ≡ false
no_digit w k j f h = sym (digits_at j w) ∙ ap (λ x. eqb (x % 2) 1) (div-eq_of_lt (lt_of_lt_of_le f (pow_mono h)))

-- event n's word from its place on; how many places further the first is marked
abbrev pub onward : List ℕ → ℕ → ℕ
onward l n = get_or l (n / 64) 0 / 2 ^ (n % 64)

abbrev pub gap : List ℕ → ℕ → ℕ
gap l n = count_trailing_zeros 64 (onward l n)

-- of a whole word its trailing zeros
gap_whole : (l : List ℕ) (q : ℕ) → gap l (64 * q) ≡ count_trailing_zeros 64 (get_or l q 0)
gap_whole l q =
    let word : 64 * q / 64 ≡ q = omega arith in
    let place : 64 * q % 64 ≡ 0 = omega arith in
    let all : get_or l q 0 / 2 ^ 0 ≡ get_or l q 0 = omega arith in
    rw (word, place, all)

-- none is marked from v on and before n
abbrev pub Unmarked : List ℕ → ℕ → ℕ → Type 0
Unmarked l v n = (k : ℕ) → v ≤ k → k < n → marks l k ≡ false

module _ (l : List ℕ) (n : ℕ) where
  marks_onward : (j : ℕ) → n % 64 + j < 64 → marks l (n + j) ≡ digits (onward l n) j
  marks_onward j h =
      let word : (n + j) / 64 ≡ n / 64 = omega arith in
      let place : (n + j) % 64 ≡ n % 64 + j = omega arith in
      rw (marks_at l (n + j), word, place) (sym (digits_shifted (get_or l (n / 64) 0) (n % 64) j))

  digit_behind : gap l n < 64 → digits (onward l n) (gap l n) ≡ true
  digit_behind h =
      rw (← digits_lowest 64 (onward l n)) (at_lowest 64 (digits (onward l n)) (rw (digits_lowest 64 (onward l n)) h))

  pub in_word : get_or l (n / 64) 0 < 2 ^ 64 → gap l n < 64 → n % 64 + gap l n < 64
  in_word f h = go (ltb (n % 64 + gap l n) 64) refl
    where
      go : (b : Bool) → ltb (n % 64 + gap l n) 64 ≡ b → n % 64 + gap l n < 64
      go true e = ltb-true (n % 64 + gap l n) 64 e
      go false e =
          let none = no_digit (get_or l (n / 64) 0) 64 (n % 64 + gap l n) f (ltb-false (n % 64 + gap l n) 64 e) in
          absurd (false≢true (sym none ∙ (sym (digits_shifted (get_or l (n / 64) 0) (n % 64) (gap l n)) ∙ digit_behind h)))

  module _ (v : ℕ) (u : Unmarked l v n) where
    -- nor up to the gap's end, within the word
    over_gap : (k : ℕ) → v ≤ k → k < n + gap l n → k < 64 * (n / 64 + 1) → marks l k ≡ false
    over_gap k a h w = go (ltb k n) refl
      where
        go : (b : Bool) → ltb k n ≡ b → marks l k ≡ false
        go true e = u k a (ltb-true k n e)
        go false e =
            let past = ltb-false k n e in
            let split : k ≡ n + (k - n) = omega arith in
            let inside : n % 64 + (k - n) < 64 = omega arith in
            let before : k - n < lowest 64 (digits (onward l n)) = rw (digits_lowest 64 (onward l n)) (omega arith) in
            rw split (marks_onward (k - n) inside ∙ before_lowest 64 (digits (onward l n)) (k - n) before)

    -- nor in the rest of a word that is all gap
    pub over_word : 64 ≤ gap l n → Unmarked l v (64 * (n / 64 + 1))
    over_word h k a b = over_gap k a (omega arith) b

    unmarked_so : (m : ℕ) → Unmarked l v m → (k : ℕ) → k < m → (marks l k && leb v k) ≡ false
    unmarked_so m f k h = go (leb v k) refl
      where
        go : (b : Bool) → leb v k ≡ b → (marks l k && b) ≡ false
        go true e = rw (f k (leb-true v k e) h)
        go false e = and-false (marks l k)

    -- so the first marked behind a gap is the lowest
    pub found : get_or l (n / 64) 0 < 2 ^ 64 → gap l n < 64 → v ≤ n → n < places
        → n + gap l n ≡ lowest_from l v
    found f h a b =
        let inside = in_word f h in
        let marked = marks_onward (gap l n) inside ∙ digit_behind h in
        lowest_is places (n + gap l n) (λ e. marks l e && leb v e) (omega arith)
        (unmarked_so (n + gap l n) (λ k c d. over_gap k c d (omega arith)))
        (λ z. rw (marked, le-leb v (n + gap l n) (omega arith)))

    pub none_found : places ≤ n → places ≡ lowest_from l v
    none_found h =
        lowest_is places places (λ e. marks l e && leb v e) (omega arith)
        (unmarked_so places (λ k a b. u k a (omega arith)))
        (λ z. absurd (omega arith))

-- the same of a whole word
module _ (l : List ℕ) (q v : ℕ) (u : Unmarked l v (64 * q)) where
  pub over_whole : 64 ≤ count_trailing_zeros 64 (get_or l q 0) → Unmarked l v (64 * (q + 1))
  over_whole h k a b = over_word l (64 * q) v u (subst (λ g. 64 ≤ g) (sym (gap_whole l q)) h) k a (omega arith)

  pub found_whole : get_or l q 0 < 2 ^ 64 → count_trailing_zeros 64 (get_or l q 0) < 64 → v ≤ 64 * q → 64 * q < places
      → 64 * q + count_trailing_zeros 64 (get_or l q 0) ≡ lowest_from l v
  found_whole f h a b =
      let word : q ≡ 64 * q / 64 = omega arith in
      ap (λ g. 64 * q + g) (sym (gap_whole l q))
      ∙ found l (64 * q) v u (subst (λ n. get_or l n 0 < 2 ^ 64) word f) (subst (λ g. g < 64) (sym (gap_whole l q)) h) a b

-- what is lowest from n on is lowest from v on, if none is marked between
pub lowest_further : (l : List ℕ) (v n : ℕ) → v ≤ n → Unmarked l v n → lowest_from l n ≡ lowest_from l v
lowest_further l v n h u = ap (lowest places) (fun_ext (λ e. go e (leb n e) refl))
  where
    go : (e : ℕ) (b : Bool) → leb n e ≡ b → (marks l e && b) ≡ (marks l e && leb v e)
    go e true t = let past = leb-true n e t in rw (le-leb v e (omega arith))
    go e false t = let before = leb-false n e t in and-false (marks l e) ∙ sym (unmarked_so l n v u n u e before)

pub found_further : (l : List ℕ) (v n : ℕ) → lowest_from l n ≡ lowest_from l v → (r : Option ℕ) → Found l n r → Found l v r
found_further l v n e None h = sym e ∙ h
found_further l v n e (Some event) (is, listed) = (is ∙ e, listed)

-- the words joined: one more, and all
pub join_more : (w : ℕ) (l : List ℕ) (q : ℕ) → q < length l → joined (bit_or w (get_or l q 0)) (drop (q + 1) l) ≡ joined w (drop q l)
unfolding joined
join_more w l q h = rw (add-one, drop-cons l q 0)

pub join_all : (w : ℕ) (l : List ℕ) (q : ℕ) → length l ≤ q → joined w (drop q l) ≡ w
unfolding joined
join_all w l q h = rw (drop_of_length-le l {i = q} h)

or_none : (a b : ℕ) → bit_or a b ≡ 0 → (a ≡ 0) × (b ≡ 0)
or_none a b e = (omega (arith, or_add_and a b, and_le_r a b), omega (arith, or_add_and a b, and_le_l a b))

first_and_others : (x : ℕ) (l : List ℕ) → x ≡ 0 → ((q : ℕ) → get_or l q 0 ≡ 0) → (q : ℕ) → get_or (x ∷ l) q 0 ≡ 0
first_and_others x l e f zero = e
first_and_others x l e f (suc q) = f q

-- if that is 0, each of them is
all_zero : (w : ℕ) (l : List ℕ) → joined w l ≡ 0 → (w ≡ 0) × ((q : ℕ) → get_or l q 0 ≡ 0)
unfolding joined
all_zero w [] e = (e, λ q. refl)
all_zero w (x ∷ l) e =
    let (first, others) = all_zero (bit_or w x) l e in
    let (a, b) = or_none w x first in
    (a, first_and_others x l b others)

-- and none of their events is marked
pub none_behind : (l : List ℕ) (q : ℕ) → joined 0 (drop q l) ≡ 0 → lowest_from l (64 * q) ≡ places
none_behind l q e = sym (none_found l places (64 * q) unmarked (omega arith))
  where
    unmarked : Unmarked l (64 * q) places
    unmarked k h b =
        let far : k / 64 ≡ q + (k / 64 - q) = omega arith in
        let word = ap (λ n. get_or l n 0) far ∙ (sym (get_or-drop q l (k / 64 - q) 0) ∙ (all_zero 0 (drop q l) e).1 (k / 64 - q)) in
        rw (marks_at l k, word) (no_digit 0 0 (k % 64) (omega arith) (omega arith))
