-- What a row of words marks, however many they are: a store puts one event, equal marks are equal words, and the words are counted and searched one
-- after the other.
use mathlib.Core.Path.{◌≡◌, refl, sym, ap, ◌∙◌, fun_ext}
use mathlib.Core.Bool.{Bool, true, false, cond, ◌&&◌, and-true}
use mathlib.Core.List.{List}
use Prim.Native.Nat.{ℕ, zero, suc, ◌+◌, ◌-◌, ◌*◌, ◌/◌, ◌%◌, ◌^◌, ◌≤◌, ◌<◌}
use native.Mathlib.Omega.{arith}
use lib.Dec.{eqb, ltb}
use lib.ListN.{length, get_or, set, replicate, get_or-eq_default}
use lib.Seq.{get_or-set_same, get_or-set_other, ext_get_or}
use lib.Bits.{bit_and, bit_or}
use lib.Pow.{shl_exact}
use lib.Count.{ones, count_trailing_zeros, trailing_le}
use borrow.Author.Tests.{ltb-true, ltb-false, eqb-true, eqb-false, eq-eqb, ne_eqb}
use Rattle.events.specs.Events.{none, put, how_many}
use Rattle.events.specs.Members.{marks}
use Rattle.events.proofs.Bits.{digits, digits_at, digits_set, digits_clear, digits_same, digits_count, digits_lowest}
use Rattle.events.proofs.Events.{how_many_then, before_lowest, at_lowest}

-- an event's mark is a digit of its word
pub marks_at : (l : List ℕ) (n : ℕ) → marks l n ≡ digits (get_or l (n / 64) 0) (n % 64)
unfolding marks
marks_at l n = digits_at (n % 64) _

-- the marks of word q, by its digits
pub marks_word : (l : List ℕ) (q j : ℕ) → j < 64 → marks l (64 * q + j) ≡ digits (get_or l q 0) j
marks_word l q j h =
    let at : (64 * q + j) / 64 ≡ q = omega arith in
    let digit : (64 * q + j) % 64 ≡ j = omega arith in
    rw (marks_at, at, digit)

zero_digits : (j : ℕ) → digits 0 j ≡ false
unfolding digits
zero_digits zero = refl
zero_digits (suc j) = zero_digits j

-- past the words nothing is marked
pub marks_past : (l : List ℕ) (n : ℕ) → 64 * length l ≤ n → marks l n ≡ false
marks_past l n h =
    let past : length l ≤ n / 64 = omega arith in
    rw (marks_at, get_or-eq_default l 0 past) (zero_digits (n % 64))

-- what is marked has a place
pub marks_placed : (l : List ℕ) (n : ℕ) → (marks l n && ltb n (64 * length l)) ≡ marks l n
marks_placed l n = go (ltb n (64 * length l)) refl
  where
    go : (t : Bool) → ltb n (64 * length l) ≡ t → (marks l n && t) ≡ marks l n
    go true t = and-true (marks l n)
    go false t = rw (marks_past l n (ltb-false n (64 * length l) t))

zero_word : (k q : ℕ) → get_or (replicate k 0) q 0 ≡ zero
zero_word zero q = refl
zero_word (suc k) zero = refl
zero_word (suc k) (suc q) = zero_word k q

-- in words that are all 0 nothing is marked
pub marks_zeros : (k : ℕ) → marks (replicate k 0) ≡ none
marks_zeros k = fun_ext (λ n. rw (marks_at, zero_word k (n / 64)) (zero_digits (n % 64)))

same_word : (m n : ℕ) → m / 64 ≡ n / 64 → eqb (m % 64) (n % 64) ≡ eqb m n
same_word m n e = go (eqb m n) refl
  where
    go : (b : Bool) → eqb m n ≡ b → eqb (m % 64) (n % 64) ≡ b
    go true h = let same = eqb-true m n h in eq-eqb (m % 64) (n % 64) (omega arith)
    go false h = let other = eqb-false m n h in ne_eqb (m % 64) (n % 64) (λ l. other (omega arith))

-- a store that puts one digit of a word puts one event
pub marks_put : (l : List ℕ) (s : ℕ) (b : Bool) (w : ℕ) → s < 64 * length l
    → ((j : ℕ) → digits w j ≡ put (s % 64) b (digits (get_or l (s / 64) 0)) j) → marks (set l (s / 64) w) ≡ put s b (marks l)
unfolding put
marks_put l s b w h e = fun_ext (λ n. go n (eqb (n / 64) (s / 64)) refl)
  where
    go : (n : ℕ) (t : Bool) → eqb (n / 64) (s / 64) ≡ t → marks (set l (s / 64) w) n ≡ cond (eqb n s) b (marks l n)
    go n true t =
        let here = eqb-true (n / 64) (s / 64) t in
        rw (marks_at (set l (s / 64) w) n, marks_at l n, here, get_or-set_same l (s / 64) w 0 (omega arith)) (e (n % 64) ∙ simp (same_word n s here))
    go n false t =
        let there = eqb-false (n / 64) (s / 64) t in
        rw (marks_at (set l (s / 64) w) n, marks_at l n, get_or-set_other l (s / 64) (n / 64) w 0 there, ne_eqb n s (λ same. there (ap (λ (x : ℕ). x / 64) same)))

-- 1 shifted to an event's digit, as the machine has it
one_shifted : (s : ℕ) → 1 * 2 ^ (s % 64) % 2 ^ 64 ≡ 2 ^ (s % 64)
one_shifted s = shl_exact {a = 1} 1 (s % 64) 64 (omega arith) (omega arith) ∙ omega arith

-- the two stores of the code
module _ (l : List ℕ) (s : ℕ) (h : s / 64 < length l) where
  pub marks_set : marks (set l (s / 64) (bit_or (get_or l (s / 64) 0) (1 * 2 ^ (s % 64) % 2 ^ 64))) ≡ put s true (marks l)
  marks_set = marks_put l s true _ (omega arith) (λ j. rw (one_shifted s) (digits_set (s % 64) j (get_or l (s / 64) 0)))

  pub marks_clear : get_or l (s / 64) 0 < 2 ^ 64
      → marks (set l (s / 64) (bit_and (get_or l (s / 64) 0) (2 ^ 64 - 1 - 1 * 2 ^ (s % 64) % 2 ^ 64))) ≡ put s false (marks l)
  marks_clear f = marks_put l s false _ (omega arith) (λ j. rw (one_shifted s) (digits_clear 64 (s % 64) j (get_or l (s / 64) 0) (omega arith) f))

-- words that mark the same are the same
pub marks_same : (l m : List ℕ) → length l ≡ length m → ((q : ℕ) → get_or l q 0 < 2 ^ 64) → ((q : ℕ) → get_or m q 0 < 2 ^ 64)
    → ((n : ℕ) → n < 64 * length l → marks l n ≡ marks m n) → l ≡ m
marks_same l m e f g h =
    ext_get_or 0 l m e (λ q k. digits_same 64 (get_or l q 0) (get_or m q 0) (f q) (g q)
    (λ j i. sym (marks_word l q j i) ∙ (h (64 * q + j) (omega arith) ∙ marks_word m q j i)))

-- word q, behind those before it
module _ (l : List ℕ) (q : ℕ) where
  abbrev word : ℕ
  word = get_or l q 0

  -- its digits are counted to theirs
  pub how_many_word : word < 2 ^ 64 → how_many (64 * (q + 1)) (marks l) ≡ how_many (64 * q) (marks l) + ones word
  how_many_word f =
      let more : 64 * (q + 1) ≡ 64 * q + 64 = omega arith in
      rw (more, ← digits_count 64 word f) (how_many_then (64 * q) 64 (marks l) (digits word) (marks_word l q))

  -- where they mark nothing, nothing is marked before its lowest digit that is set
  pub none_before : ((n : ℕ) → n < 64 * q → marks l n ≡ false) → (n : ℕ) → n < 64 * q + count_trailing_zeros 64 word → marks l n ≡ false
  none_before e n h = go (ltb n (64 * q)) refl
    where
      go : (t : Bool) → ltb n (64 * q) ≡ t → marks l n ≡ false
      go true t = e n (ltb-true n (64 * q) t)
      go false t =
          let past = ltb-false n (64 * q) t in
          let split : n ≡ 64 * q + (n - 64 * q) = omega arith in
          rw (split, marks_word l q (n - 64 * q) (omega (arith, trailing_le 64 word)))
          (before_lowest 64 (digits word) (n - 64 * q) (rw (digits_lowest 64 word) (omega arith)))

  -- and that digit is a mark
  pub marks_lowest : count_trailing_zeros 64 word < 64 → marks l (64 * q + count_trailing_zeros 64 word) ≡ true
  marks_lowest h =
      rw (marks_word l q (count_trailing_zeros 64 word) h, ← digits_lowest 64 word) (at_lowest 64 (digits word) (rw (digits_lowest 64 word) h))
