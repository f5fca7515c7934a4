-- Every line has a reading and only one, and two answers to one line are the same value.
use mathlib.Core.Path.{◌≡◌, refl, sym, ap, ◌∙◌}
use mathlib.Core.Bool.{Bool, true, false, true≢false}
use mathlib.Core.List.{List, [], ◌∷◌, map}
use Prim.Native.Nat.{ℕ, zero, suc, ◌+◌, ◌-◌, ◌≤◌, ◌<◌}
use native.Mathlib.Omega.{arith}
use lib.Dec.{leb, ltb, eqb}
use Rattle.std.proofs.Common.{Option, None, Some as Answer}
use lib.ListN.{length, get_or, drop}
use borrow.Author.Tests.{ltb-true, ltb-false, eqb-true, eqb-false, leb-true, leb-false}
use Rattle.events.specs.Events.{Events, none, put}
use Rattle.events.specs.Members.{places, Whole}
use Rattle.events.proofs.Sets.{same_members}
use Rattle.letters.specs.Decimal.{decimal, figure}
use Rattle.letters.specs.Text.{space, led, joined}
use Rattle.listing.specs.Input.{longest, Under, with_all, Reading}
use Rattle.listing.specs.Inside.{token_at, Named, ReadAs}
use Rattle.events.specs.declared.EventSet.{EventSet}
use Rattle.listing.proofs.Reading.{spelled_some, empty_line, long_line, other_line, stops_end, heads}
use Rattle.listing.proofs.Reading.{shorter}
use Rattle.listing.proofs.Reading.{stops_none, goes_last, stops_other, goes_on}

plain : figure space ≡ 10
unfolding figure
plain = refl

-- events behind the first
led_once : (l m : List ℕ) → (joined space (map decimal l) ≡ joined space (map decimal m) → l ≡ m)
    → led space (map decimal l) ≡ led space (map decimal m) → l ≡ m
unfolding joined led
led_once [] [] once e = refl
led_once [] (f ∷ m) once e = absurd (omega (arith, ap length e))
led_once (d ∷ l) [] once e = absurd (omega (arith, ap length e))
led_once (d ∷ l) (f ∷ m) once e = once (ap (λ (w : List ℕ). drop 1 w) e)

-- the bytes say the events
spelled_once : (l m : List ℕ) → Under places l → Under places m → joined space (map decimal l) ≡ joined space (map decimal m) → l ≡ m
unfolding joined
spelled_once [] [] b c e = refl
spelled_once [] (f ∷ m) b c e = absurd (omega (arith, spelled_some space f m, ap length e))
spelled_once (d ∷ l) [] b c e = absurd (omega (arith, spelled_some space d l, ap length e))
spelled_once (d ∷ l) (f ∷ m) b c e =
    let line = joined space (map decimal (d ∷ l)) in
    let one = heads space plain line 0 (token_at line 0) refl d l b refl in
    let other = heads space plain line 0 (token_at line 0) refl f m c e in
    let rest = led_once l m (spelled_once l m b.1 c.1) (sym one.1 ∙ other.1) in
    λ i. (sym one.0 ∙ other.0) i ∷ rest i

pub reading_once : {line : List ℕ} {good also : Bool} {X Y : Events} → Reading line good X → Reading line also Y → (good ≡ also) × (X ≡ Y)
reading_once (Reading.good_line l n) (Reading.good_line m k) =
    (refl, ap (λ (events : List ℕ). with_all events none) (spelled_once l m n.below k.below (sym n.spelled ∙ k.spelled)))
reading_once (Reading.good_line l n) (Reading.not_good_line never) = absurd (never l n)
reading_once (Reading.not_good_line never) (Reading.good_line m k) = absurd (never m k)
reading_once (Reading.not_good_line never) (Reading.not_good_line nor) = (refl, refl)

-- the set of an answer is one of a running program
abbrev pub WholeIn : Option EventSet → Type 0
WholeIn None = Unit {0}
WholeIn (Answer s) = Whole s

pub one_answer : (line : List ℕ) (r s : Option EventSet) → WholeIn r → WholeIn s → ReadAs line r → ReadAs line s → r ≡ s
one_answer line None None v w p q = refl
one_answer line None (Answer s) v w p q = absurd (let both = reading_once p q in true≢false (sym both.0))
one_answer line (Answer r) None v w p q = absurd (let both = reading_once p q in true≢false both.0)
one_answer line (Answer r) (Answer s) v w p q =
    let both = reading_once p q in
    ap (λ (e : EventSet). Answer e) (same_members r s v w (λ n h. ap (λ (X : Events). X n) both.1))

-- and every line has one
abbrev Some : Events → List ℕ → Type 0
Some X text = (good : Bool) × (Y : Events) × Named space X text good Y

module _ (line : List ℕ) (at : ℕ) (X : Events) where
  abbrev event : ℕ
  event = (token_at line at).event

  abbrev next : ℕ
  next = (token_at line at).next

  goes_space : Some (put event true X) (drop (next + 1) line) → event < places → next < length line → (b : Bool) → eqb (get_or line next 0) space ≡ b
      → Some X (drop at line)
  goes_space rest k m true e = (rest.0, rest.1, goes_on space plain line at (token_at line at) refl X m k (eqb-true (get_or line next 0) space e) rest.2)
  goes_space rest k m false e = (false, none, stops_other space plain line at (token_at line at) refl X m (eqb-false (get_or line next 0) space e))

  goes_next : Some (put event true X) (drop (next + 1) line) → event < places → (b : Bool) → ltb next (length line) ≡ b → Some X (drop at line)
  goes_next rest k true e = goes_space rest k (ltb-true next (length line) e) (eqb (get_or line next 0) space) refl
  goes_next rest k false e = (true, put event true X, goes_last space plain line at (token_at line at) refl X k (ltb-false next (length line) e))

  goes_event : (event < places → Some (put event true X) (drop (next + 1) line)) → (b : Bool) → ltb event places ≡ b → Some X (drop at line)
  goes_event rest true e = goes_next (rest (ltb-true event places e)) (ltb-true event places e) (ltb next (length line)) refl
  goes_event rest false e = (false, none, stops_none space plain line at (token_at line at) refl X (ltb-false event places e))

  goes_byte : (at < length line → event < places → Some (put event true X) (drop (next + 1) line)) → (b : Bool) → ltb at (length line) ≡ b
      → Some X (drop at line)
  goes_byte rest true e = goes_event (rest (ltb-true at (length line) e)) (ltb event places) refl
  goes_byte rest false e = (false, none, stops_end space line at X (ltb-false at (length line) e))

some_goes : (f : ℕ) (line : List ℕ) (at : ℕ) (X : Events) → length line - at ≤ f → Some X (drop at line)
some_goes zero line at X h = (false, none, stops_end space line at X (omega arith))
some_goes (suc f) line at X h =
    goes_byte line at X
    (λ i k. some_goes f line (next line at X + 1) (put (event line at X) true X) (omega (arith, shorter space plain line at (token_at line at) refl i k)))
    (ltb at (length line)) refl

pub decided : (line : List ℕ) → (good : Bool) × (X : Events) × Reading line good X
decided line = long (leb (length line) longest) refl (ltb 0 (length line)) refl
  where
    long : (b : Bool) → leb (length line) longest ≡ b → (c : Bool) → ltb 0 (length line) ≡ c → (good : Bool) × (X : Events) × Reading line good X
    long true e true d =
        let whole = some_goes (length line) line 0 none (omega arith) in
        (whole.0, whole.1, other_line line (ltb-true 0 (length line) d) (leb-true (length line) longest e) whole.2)
    long true e false d = (true, none, empty_line line (let least = ltb-false 0 (length line) d in omega arith))
    long false e c d = (false, none, long_line line (leb-false (length line) longest e))
