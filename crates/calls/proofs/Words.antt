-- Words that are read number by number, and put number by number.
use mathlib.Core.Path.{◌≡◌, refl, sym, ap, subst, ◌∙◌}
use mathlib.Core.Bool.{Bool, true, false, ◌&&◌}
use mathlib.Core.List.{List, [], ◌∷◌, ◌++◌, append_assoc, append-nil}
use Prim.Native.Nat.{ℕ, zero, suc, ◌+◌, ◌*◌, ◌<◌, ◌≤◌}
use native.Mathlib.Omega.{arith}
use native.Mathlib.Numerals.{add-one}
use lib.ListN.{length, get_or, set, take, drop, length-append, length-set}
use lib.Dec.{leb, ltb, eqb}
use lib.Seq.{length-take-le, take-suc, drop-cons, set_at, append_snoc}
use borrow.Author.Tests.{lt-ltb, le-leb, eq-eqb, ne_eqb, ltb-true, ltb-false, leb-true, eqb-true}
use Rattle.events.specs.Events.{Events, none}
use Rattle.events.specs.Members.{places}
use Rattle.letters.specs.Decimal.{decimal}
use Rattle.letters.specs.Text.{bytes, space, comma}
use Rattle.listing.specs.Input.{Under, with_all}
use Rattle.listing.specs.Output.{listed}
use Rattle.letters.specs.Writing.{Writes}
use Rattle.letters.specs.declared.Writer.{Writer}
use Rattle.events.specs.declared.EventSet.{EventSet}
use Rattle.std.proofs.Common.{Option, None, Some}
use Rattle.listing.specs.Inside.{Named, NamedBy}
use Rattle.letters.proofs.Writes.{writes_then}
use Rattle.calls.specs.Words.{byte_at, number_at, is_dash, firsts, WordRead, BytesRead, Counted, ListRead, ListIn, spelled, word, spaced}
use Rattle.calls.specs.Inside.{fitting}

false≢true : {A : Type 0} → false ≡ true → A
false≢true e = absurd (let z : ◌≡◌ {A = ℕ} 0 1 = cc in omega arith)

firsts_long : (value : ℕ → ℕ) (n : ℕ) → length (firsts value n) ≡ n
unfolding firsts
firsts_long value zero = refl
firsts_long value (suc n) = simp length-append (omega (arith, firsts_long value n))

-- one more value in a room
firsts_more : (value : ℕ → ℕ) (old : List ℕ) (i v : ℕ) → i < length old → v ≡ value i
    → set (firsts value i ++ drop i old) i v ≡ firsts value (i + 1) ++ drop (i + 1) old
unfolding firsts
firsts_more value old i v h e =
    rw (drop-cons old i 0 h, set_at (firsts value i) (get_or old i 0) (drop (suc i) old) v i (firsts_long value i), e, add-one i)
    (sym (append_snoc (firsts value i) (value i) (drop (suc i) old)))

-- one more value below a limit
all_more : (value : ℕ → ℕ) (limit i : ℕ) → ((k : ℕ) → k < i → value k < limit) → value i < limit → (k : ℕ) → k < i + 1 → value k < limit
all_more value limit i all h k l = go (ltb k i) refl
  where
    go : (b : Bool) → ltb k i ≡ b → value k < limit
    go true e = all k (ltb-true k i e)
    go false e = let least = ltb-false k i e in let same : i ≡ k = omega arith in subst (λ (j : ℕ). value j < limit) same h

counted : (n : ℕ) (room : List ℕ) → n ≤ length room → Counted n room
counted n room h = (h, sym (length-take-le n room h))

-- what a text of n numbers that fits says
pub record Fitting (long n whole most : ℕ) : Type 0 where
  pub some : 0 < n
  pub long_is : whole ≡ long
  pub room : n ≤ most

pub fitting_so : {long n whole most : ℕ} {r : Bool} → r ≡ fitting long n whole most → r ≡ true → Fitting long n whole most
unfolding fitting
fitting_so {long} {n} {whole} {most} e f = go (ltb 0 n) refl (eqb whole long) refl (leb n most) refl (sym e ∙ f)
  where
    go : (a : Bool) → ltb 0 n ≡ a → (b : Bool) → eqb whole long ≡ b → (c : Bool) → leb n most ≡ c → a && (b && c) ≡ true → Fitting long n whole most
    go true p true q true r e = record { some = ltb-true 0 n p; long_is = eqb-true whole long q; room = leb-true n most r }
    go true p true q false r e = false≢true e
    go true p false q c r e = false≢true e
    go false p b q c r e = false≢true e

-- the i-th byte of a word of two digits each, the i-th number of one of four
abbrev pub byte_of : List ℕ → ℕ → ℕ
byte_of text i = byte_at text (2 * i)

abbrev pub number_of : List ℕ → ℕ → ℕ
number_of text i = number_at text (4 * i)

-- Reading a word of numbers, each below `limit`: before number i of n the room begins with the first i.
pub record Held (limit : ℕ) (value : ℕ → ℕ) (old : List ℕ) (n : ℕ) (room : List ℕ) (i : ℕ) : Type 0 where
  pub so_many : i ≤ n
  pub long : length room ≡ length old
  pub room_is : room ≡ firsts value i ++ drop i old
  pub below : (k : ℕ) → k < i → value k < limit

pub held_none : (limit : ℕ) (value : ℕ → ℕ) (old : List ℕ) (n : ℕ) → Held limit value old n old 0
unfolding firsts
held_none limit value old n = record { so_many = omega arith; long = refl; room_is = refl; below = λ k h. absurd (omega arith) }

pub held_more : {limit : ℕ} {value : ℕ → ℕ} {old : List ℕ} {n : ℕ} {room : List ℕ} {i : ℕ} → Held limit value old n room i → (v : ℕ)
    → i < n → n ≤ length old → v ≡ value i → v < limit → Held limit value old n (set room i v) (i + 1)
held_more {limit} {value} {old} {i = i} h v l m e b =
    record {
      so_many = omega arith;
      long = simp length-set h.long;
      room_is = rw h.room_is (firsts_more value old i v (omega arith) e);
      below = all_more value limit i h.below (omega arith);
    }

-- what a text is read as that has n numbers of `width` digits, and no other number of them
module _ (width limit : ℕ) (value : ℕ → ℕ) (text old : List ℕ) (n : ℕ) (only : (m : ℕ) → length text ≡ width * m → m ≡ n) where
  abbrev Is : Bool → ℕ → List ℕ → Type 0
  Is good count room = WordRead width limit value text old room good count × Counted count room

  pub dash_read : is_dash text ≡ true → Is true 0 old
  dash_read e = (WordRead.no_number e, (omega arith, refl))

  module _ (d : is_dash text ≡ false) where
    pub all_read : Fitting (length text) n (width * n) (length old) → (room : List ℕ) (i : ℕ) → n ≤ i → Held limit value old n room i → Is true n room
    all_read f room i l h =
        let all : i ≡ n = omega (arith, h.so_many) in
        let below = rw all at h.below in
        (rw (h.room_is, all) (WordRead.numbers n d (sym f.long_is) f.some f.room below), counted n room (omega (arith, h.long, f.room)))

    pub bad_read : (room : List ℕ) (i : ℕ) → i < n → limit ≤ value i → WordRead width limit value text old room false 0
    bad_read room i l b = WordRead.not_a_word room d (λ m s p q. (i, omega (arith, only m s), b))

    pub unfit_read : fitting (length text) n (width * n) (length old) ≡ false → WordRead width limit value text old old false 0
    unfolding fitting
    unfit_read f = WordRead.not_a_word old d (λ m s p q. false≢true (sym f ∙ fit m s p q))
      where
        fit : (m : ℕ) → length text ≡ width * m → 0 < m → m ≤ length old → ltb 0 n && (eqb (width * n) (length text) && leb n (length old)) ≡ true
        fit m s p q =
            let same = only m s in
            let whole : width * n ≡ length text = sym (s ∙ ap (λ (k : ℕ). width * k) same) in
            simp (lt-ltb 0 n (omega arith), eq-eqb (width * n) (length text) whole, le-leb n (length old) (omega arith))

-- bytes of one text are bytes of the same
pub bytes_of : {w v a a' : List ℕ} {good : Bool} {n : ℕ} → w ≡ v → BytesRead w a a' good n → BytesRead v a a' good n
bytes_of e r = rw e at r

-- the list of no event
pub dash_is : (text : List ℕ) → is_dash text ≡ true → text ≡ bytes "-"
unfolding is_dash
dash_is [] e = false≢true e
dash_is (b ∷ []) e = let same = eqb-true b 45 e in ap (λ (x : ℕ). x ∷ []) same
dash_is (b ∷ d ∷ text) e = false≢true (sym (simp (ne_eqb (length (b ∷ d ∷ text)) 1 (λ h. omega arith))) ∙ e)

pub no_event : (text : List ℕ) → is_dash text ≡ true → ListRead text true none
unfolding listed with_all
no_event text e = ListRead.good_list [] tt (dash_is text e)

pub is_list : {text : List ℕ} {good : Bool} {X : Events} → is_dash text ≡ false → Named comma none text good X → ListRead text good X
unfolding listed is_dash
is_list h (Named.names e l b s) = ListRead.good_list (e ∷ l) b s
is_list {text} h (Named.stops n) = ListRead.bad_list go
  where
    go : (events : List ℕ) → Under places events → text ≡ listed events → ⊥
    go [] u t = false≢true (sym h ∙ ap is_dash t)
    go (e ∷ l) u t = n e l u t

-- the same of an answer
pub list_by : (text : List ℕ) → is_dash text ≡ false → (r : Option EventSet) → NamedBy comma text r → ListIn text r
list_by text h None n = is_list h n
list_by text h (Some s) n = is_list h n

spelled_append : {A : Type 0} (spelling : A → List ℕ) (l m : List A) → spelled spelling (l ++ m) ≡ spelled spelling l ++ spelled spelling m
unfolding spelled
spelled_append spelling [] m = refl
spelled_append spelling (n ∷ l) m =
    ap (λ (w : List ℕ). spelling n ++ w) (spelled_append spelling l m) ∙ sym (append_assoc (spelling n) (spelled spelling l) (spelled spelling m))

-- one more number
pub spelled_more : {A : Type 0} (spelling : A → List ℕ) (l : List A) (d : A) (i : ℕ) → i < length l
    → spelled spelling (take (i + 1) l) ≡ spelled spelling (take i l) ++ spelling (get_or l i d)
unfolding spelled
spelled_more spelling l d i h =
    rw (add-one i, take-suc l i d h) (spelled_append spelling (take i l) (get_or l i d ∷ [])
    ∙ ap (λ (w : List ℕ). spelled spelling (take i l) ++ w) (append-nil (spelling (get_or l i d))))

word_some : {A : Type 0} (spelling : A → List ℕ) (l : List A) → (length l ≡ 0 → ⊥) → word spelling l ≡ spelled spelling l
unfolding word
word_some spelling [] h = absurd (h refl)
word_some spelling (n ∷ l) h = refl

word_none : {A : Type 0} (spelling : A → List ℕ) (l : List A) → length l ≡ 0 → word spelling l ≡ bytes "-"
unfolding word
word_none spelling [] h = refl
word_none spelling (n ∷ l) h = absurd (omega arith)

spaced_append : (l m : List ℕ) → spaced (l ++ m) ≡ spaced l ++ spaced m
unfolding spaced
spaced_append [] m = refl
spaced_append (n ∷ l) m =
    ap (λ (w : List ℕ). decimal n ++ (space ∷ w)) (spaced_append l m) ∙ sym (append_assoc (decimal n) (space ∷ spaced l) (spaced m))

pub spaced_more : (l : List ℕ) (i : ℕ) → i < length l → spaced (take (i + 1) l) ≡ spaced (take i l) ++ (decimal (get_or l i 0) ++ (space ∷ []))
unfolding spaced
spaced_more l i h = rw (add-one i, take-suc l i 0 h) (spaced_append (take i l) (get_or l i 0 ∷ []))

-- a writer that has written numbers ends their word
pub word_ends : {A : Type 0} {a b c : Writer} (spelling : A → List ℕ) (l : List A) (e : ℕ) → (length l ≡ 0 → ⊥) → Writes a b (spelled spelling l)
    → Writes b c (e ∷ []) → Writes a c (word spelling l ++ (e ∷ []))
word_ends spelling l e some p q = rw (word_some spelling l some) (writes_then p q)

-- or a dash, where there is none
pub dash_ends : {A : Type 0} {a b c : Writer} (spelling : A → List ℕ) (l : List A) (e : ℕ) → length l ≡ 0 → Writes a b (45 ∷ []) → Writes b c (e ∷ [])
    → Writes a c (word spelling l ++ (e ∷ []))
dash_ends spelling l e none p q = rw (word_none spelling l none) (writes_then p q)
