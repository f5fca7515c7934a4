-- The words of the calls program's lines: BYTES and ROW are numbers in lowercase hexadecimal, two and four digits each, EVENTS are
-- joined by commas; `-` for none.
use Rattle.std.specs.Prelude.{ℕ, zero, suc, ◌+◌, ◌-◌, ◌*◌, ◌/◌, ◌%◌, ◌≤◌, ◌<◌, ◌≡◌, Bool, true, false, cond, ◌&&◌, List, [], ◌∷◌, ◌++◌, length, get_or, take, drop, leb, ltb, eqb, MatchOption}
use Rattle.std.proofs.Common.{Option}
use Rattle.octets.specs.Octets.{index_of}
use Rattle.events.specs.Events.{Events, none}
use Rattle.events.specs.Members.{places, members}
use Rattle.events.specs.declared.EventSet.{EventSet}
use Rattle.letters.specs.Decimal.{decimal}
use Rattle.letters.specs.Text.{bytes, space}
use Rattle.listing.specs.Input.{Under, with_all}
use Rattle.listing.specs.Output.{listed}

-- the value of a digit; 16 if it is none
unfoldable pub figure16 : ℕ → ℕ
figure16 b = cond (leb 48 b && leb b 57) (b - 48) (cond (leb 97 b && leb b 102) (b - 87) 16)

-- the number that two digits spell, and four; one past all such numbers if there is something else
unfoldable pub byte_at : List ℕ → ℕ → ℕ
byte_at text at =
    let high = figure16 (get_or text at 0) in
    let low = figure16 (get_or text (at + 1) 0) in
    cond (ltb high 16 && ltb low 16) (16 * high + low) 256

unfoldable pub number_at : List ℕ → ℕ → ℕ
number_at text at =
    let high = byte_at text at in
    let low = byte_at text (at + 2) in
    cond (ltb high 256 && ltb low 256) (256 * high + low) 65536

unfoldable pub is_dash : List ℕ → Bool
is_dash text = eqb (length text) 1 && eqb (get_or text 0 0) 45

-- the first n values
unfoldable pub firsts : (ℕ → ℕ) → ℕ → List ℕ
firsts value zero = []
firsts value (suc n) = firsts value n ++ (value n ∷ [])

-- Reading a word of numbers of `width` digits, each below `limit`, into a room: whether it is one that the room has place for, how many there are,
-- and the room afterwards. `value i` is what the digits of the i-th spell.
pub data WordRead (width limit : ℕ) (value : ℕ → ℕ) (text old : List ℕ) : List ℕ → Bool → ℕ → Type 0 where
  no_number : is_dash text ≡ true → WordRead width limit value text old old true 0
  numbers : (n : ℕ) → is_dash text ≡ false → length text ≡ width * n → 0 < n → n ≤ length old → ((i : ℕ) → i < n → value i < limit)
      → WordRead width limit value text old (firsts value n ++ drop n old) true n
  not_a_word : (new : List ℕ) → is_dash text ≡ false
      → ((n : ℕ) → length text ≡ width * n → 0 < n → n ≤ length old → (i : ℕ) × (i < n) × (limit ≤ value i))
      → WordRead width limit value text old new false 0

-- the room has so many numbers at its start; the second part follows from the first, and lending those numbers asks for both
abbrev pub Counted : ℕ → List ℕ → Type 0
Counted n room = (n ≤ length room) × (n ≡ length (take n room))

-- reading BYTES
abbrev pub BytesRead : List ℕ → List ℕ → List ℕ → Bool → ℕ → Type 0
BytesRead text = WordRead 2 256 (λ i. byte_at text (2 * i)) text

-- the same of an answer: how many numbers there are, or none
abbrev pub WordIn : (width limit : ℕ) (value : ℕ → ℕ) → List ℕ → List ℕ → List ℕ → Option ℕ → Type 0
WordIn width limit value text old new r =
    MatchOption r (WordRead width limit value text old new false 0) (λ n. WordRead width limit value text old new true n × Counted n new)

abbrev pub BytesIn : List ℕ → List ℕ → List ℕ → Option ℕ → Type 0
BytesIn text = WordIn 2 256 (λ i. byte_at text (2 * i)) text

abbrev pub RowIn : List ℕ → List ℕ → List ℕ → Option ℕ → Type 0
RowIn text = WordIn 4 65536 (λ i. number_at text (4 * i)) text

-- where the first word of a text ends: at its first space
abbrev pub word_end : List ℕ → ℕ
word_end text = index_of space text

-- Reading two words of BYTES, a space between them, into rooms a and b, which hold a' and b' afterwards: whether there are two, and how many bytes
-- each spells. Where the first is none that its room has place for, the second is not read.
pub data PairRead (text a b : List ℕ) : List ℕ → List ℕ → Bool → ℕ → ℕ → Type 0 where
  one_word : length text ≤ word_end text → PairRead text a b a b false 0 0
  bad_first : {a' : List ℕ} {n : ℕ} → word_end text < length text → BytesRead (take (word_end text) text) a a' false n
      → PairRead text a b a' b false 0 0
  bad_second : {a' b' : List ℕ} {n m : ℕ} → word_end text < length text → BytesRead (take (word_end text) text) a a' true n
      → BytesRead (drop (word_end text + 1) text) b b' false m → PairRead text a b a' b' false 0 0
  two_words : {a' b' : List ℕ} {n m : ℕ} → word_end text < length text → BytesRead (take (word_end text) text) a a' true n
      → BytesRead (drop (word_end text + 1) text) b b' true m → PairRead text a b a' b' true n m

-- the same of an answer: how many bytes each has, or none
abbrev pub PairIn : List ℕ → List ℕ → List ℕ → List ℕ → List ℕ → Option (ℕ × ℕ) → Type 0
PairIn text a b a' b' r =
    MatchOption r (PairRead text a b a' b' false 0 0) (λ p. PairRead text a b a' b' true p.0 p.1 × Counted p.0 a' × Counted p.1 b')

-- reading EVENTS: whether a text is such a list, and the events that it names
pub data ListRead (text : List ℕ) : Bool → Events → Type 0 where
  good_list : (events : List ℕ) → Under places events → text ≡ listed events → ListRead text true (with_all events none)
  bad_list : ((events : List ℕ) → Under places events → text ≡ listed events → ⊥) → ListRead text false none

-- the same of an answer: the set of the events, or none
abbrev pub ListIn : List ℕ → Option EventSet → Type 0
ListIn text r = MatchOption r (ListRead text false none) (λ s. ListRead text true (members s))

unfoldable pub digit : ℕ → ℕ
digit d = cond (ltb d 10) (48 + d) (87 + d)

-- a byte in two digits, a row's number in four
unfoldable pub hex_byte : ℕ → List ℕ
hex_byte b = digit (b / 16) ∷ digit (b % 16) ∷ []

unfoldable pub hex_number : ℕ → List ℕ
hex_number n = hex_byte (n / 256) ++ hex_byte (n % 256)

-- the spellings of numbers, one behind the other
unfoldable pub spelled : {A : Type 0} → (A → List ℕ) → List A → List ℕ
spelled spelling [] = []
spelled spelling (n ∷ l) = spelling n ++ spelled spelling l

-- a word of them
unfoldable pub word : {A : Type 0} → (A → List ℕ) → List A → List ℕ
word spelling [] = bytes "-"
word spelling (n ∷ l) = spelled spelling (n ∷ l)

-- numbers in decimal, a space behind each
unfoldable pub spaced : List ℕ → List ℕ
spaced [] = []
spaced (n ∷ l) = decimal n ++ (space ∷ spaced l)
