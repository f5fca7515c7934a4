-- The events that are present, rising: word by word, and in a word from one to the next.
use mathlib.Core.Path.{◌≡◌, refl, sym, ◌∙◌}
use mathlib.Core.Bool.{Bool, true, false, cond, true≢false}
use mathlib.Core.List.{List, [], ◌∷◌, ◌++◌, map, map-append, append_assoc, append-nil}
use Prim.Native.Nat.{ℕ, zero, suc, ◌+◌, ◌-◌, ◌*◌, ◌/◌, ◌%◌, ◌^◌, ◌≤◌, ◌<◌}
use native.Mathlib.Omega.{arith}
use native.Mathlib.Nat.{add-zero, add-suc, pow-suc}
use lib.Arith.{lt_of_le-ne}
use lib.Bits.{bit_and, and_le_l}
use lib.Count.{count_trailing_zeros, under, trailing_le}
use lib.Dec.{ltb, eqb}
use lib.ListN.{get_or}
use lib.Pow.{shl_exact}
use borrow.Author.Tests.{ne_eqb, eqb-false, ltb-true, ltb-false}
use Rattle.events.specs.Events.{Events, put}
use Rattle.events.specs.Members.{marks}
use Rattle.events.proofs.Bits.{digits, digits_clear, digits_lowest}
use Rattle.events.proofs.Events.{before_lowest, at_lowest}
use Rattle.events.proofs.Words.{marks_word}
use Rattle.listing.specs.Output.{rising}
use Rattle.listing.specs.Inside.{events_of}

-- n events behind the first a are those of Y, where they are like these
pub rising_then : (a n : ℕ) (X Y : Events) → ((k : ℕ) → k < n → X (a + k) ≡ Y k)
    → rising (a + n) X ≡ rising a X ++ map (λ k. a + k) (rising n Y)
unfolding rising
rising_then a zero X Y h = simp (add-zero, append-nil)
rising_then a (suc n) X Y h =
    rw (add-suc a n, rising_then a n X Y (λ k l. h k (omega arith)), h n (omega arith)) (append_assoc (rising a X) _ _ ∙ go (Y n))
  where
    go : (b : Bool)
        → rising a X ++ (map (λ k. a + k) (rising n Y) ++ cond b ((a + n) ∷ []) []) ≡ rising a X ++ map (λ k. a + k) (rising n Y ++ cond b (n ∷ []) [])
    go true = simp map-append
    go false = simp map-append

-- none between a and b: nothing more up to b
pub rising_gap : (a k : ℕ) (X : Events) → ((j : ℕ) → a ≤ j → j < a + k → X j ≡ false) → rising (a + k) X ≡ rising a X
unfolding rising
rising_gap a zero X h = rw (add-zero a)
rising_gap a (suc k) X h =
    rw (add-suc a k, h (a + k) (omega arith) (omega arith)) (append-nil (rising (a + k) X) ∙ rising_gap a k X (λ j l m. h j l (omega arith)))

-- p, and none between it and q
pub rising_next : (p q : ℕ) (X : Events) → p < q → X p ≡ true → ((j : ℕ) → p < j → j < q → X j ≡ false) → rising q X ≡ rising p X ++ (p ∷ [])
unfolding rising
rising_next p q X h e n =
    let far : q ≡ suc p + (q - suc p) = omega arith in
    rw far (rising_gap (suc p) (q - suc p) X (λ j l m. n j l (omega arith)) ∙ rw e)

-- a word by itself marks its digits
pub one_word : (w j : ℕ) → j < 64 → marks (w ∷ []) j ≡ digits w j
one_word w j h = let same : 64 * 0 + j ≡ j = omega arith in rw same at (marks_word (w ∷ []) 0 j h)

-- the events of word q behind those before it
pub rising_word : (l : List ℕ) (q : ℕ) → rising (64 * (q + 1)) (marks l) ≡ rising (64 * q) (marks l) ++ events_of (64 * q) (get_or l q 0)
rising_word l q =
    let more : 64 * (q + 1) ≡ 64 * q + 64 = omega arith in
    rw more (rising_then (64 * q) 64 (marks l) (marks (get_or l q 0 ∷ [])) (λ j h. marks_word l q j h ∙ sym (one_word (get_or l q 0) j h)))

-- a word that is not 0 has a digit
some_digit : (k w : ℕ) → w < 2 ^ k → (w ≡ 0 → ⊥) → count_trailing_zeros k w < k
unfolding count_trailing_zeros
some_digit zero w f h = absurd (h (omega arith))
some_digit (suc k) w f h = go (w % 2) refl (some_digit k (w / 2) (omega (arith, pow-suc 2 k)))
  where
    go : (d : ℕ) → w % 2 ≡ d → ((w / 2 ≡ 0 → ⊥) → count_trailing_zeros k (w / 2) < k) → under d (count_trailing_zeros k (w / 2)) < suc k
    go zero e rest = let more = rest (λ z. h (omega arith)) in omega arith
    go (suc d) e rest = omega arith

-- the lowest digit of a word, and the word without it, as the machine has it
abbrev pub low : ℕ → ℕ
low w = count_trailing_zeros 64 w

abbrev pub without : ℕ → ℕ
without w = bit_and w (2 ^ 64 - 1 - 1 * 2 ^ low w % 2 ^ 64)

module _ (w : ℕ) (fits : w < 2 ^ 64) (some : w ≡ 0 → ⊥) where
  pub low_digit : low w < 64
  low_digit = some_digit 64 w fits some

  pub without_fits : without w < 2 ^ 64
  without_fits = omega (arith, and_le_l w (2 ^ 64 - 1 - 1 * 2 ^ low w % 2 ^ 64))

  without_digits : (j : ℕ) → digits (without w) j ≡ put (low w) false (digits w) j
  without_digits j =
      let one : 1 * 2 ^ low w % 2 ^ 64 ≡ 2 ^ low w =
      shl_exact {a = 1} 1 (low w) 64 (omega arith) (omega (arith, low_digit)) ∙ omega arith in
      rw one (digits_clear 64 (low w) j w low_digit fits)

  same_above : (j : ℕ) → low w < j → digits (without w) j ≡ digits w j
  unfolding put
  same_above j h = without_digits j ∙ simp (ne_eqb j (low w) (λ e. omega arith))

  none_below : (j : ℕ) → j ≤ low w → digits (without w) j ≡ false
  unfolding put
  none_below j h = without_digits j ∙ go (eqb j (low w)) refl
    where
      go : (b : Bool) → eqb j (low w) ≡ b → cond b false (digits w j) ≡ false
      go true e = refl
      go false e =
          let other = eqb-false j (low w) e in
          before_lowest 64 (digits w) j (rw (digits_lowest 64 w) (lt_of_le-ne h other))

  -- the next lowest digit is higher
  pub low_rises : low w < low (without w)
  low_rises = go (ltb (low w) (low (without w))) refl
    where
      go : (b : Bool) → ltb (low w) (low (without w)) ≡ b → low w < low (without w)
      go true e = ltb-true _ _ e
      go false e =
          let under = ltb-false (low w) (low (without w)) e in
          let set = at_lowest 64 (digits (without w)) (rw (digits_lowest 64 (without w)) (omega (arith, low_digit))) in
          let clear = rw (digits_lowest 64 (without w)) at set in
          absurd (true≢false (sym clear ∙ none_below (low (without w)) under))

  -- where the word's digits from the lowest on are those of X
  module _ (X : Events) (like : (j : ℕ) → low w ≤ j → j < 64 → digits w j ≡ X j) where
    pub still_like : (j : ℕ) → low (without w) ≤ j → j < 64 → digits (without w) j ≡ X j
    still_like j h k = same_above j (omega (arith, low_rises)) ∙ like j (omega (arith, low_rises)) k

    pub rising_low : rising (low (without w)) X ≡ rising (low w) X ++ (low w ∷ [])
    rising_low =
        rising_next (low w) (low (without w)) X low_rises
        (sym (like (low w) (omega arith) low_digit) ∙ present)
        (λ j h k. sym (like j (omega arith) (omega (arith, trailing_le 64 (without w)))) ∙ (sym (same_above j h)
        ∙ before_lowest 64 (digits (without w)) j (rw (digits_lowest 64 (without w)) k)))
      where
        present : digits w (low w) ≡ true
        present = rw (digits_lowest 64 w) at (at_lowest 64 (digits w) (rw (digits_lowest 64 w) low_digit))

-- none is below the lowest digit
pub rising_first : (w : ℕ) (X : Events) → ((j : ℕ) → j < 64 → digits w j ≡ X j) → rising (low w) X ≡ []
unfolding rising
rising_first w X like =
    let all : low w ≡ 0 + low w = omega arith in
    rw all
    (rising_gap 0 (low w) X
    (λ j h k. sym (like j (omega (arith, trailing_le 64 w))) ∙ before_lowest 64 (digits w) j (rw (digits_lowest 64 w) (omega arith))))
