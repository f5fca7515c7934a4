-- The number at a place of a line: what stands there is its decimal form, and whatever decimal form of an event stands there is found.
use mathlib.Core.Path.{◌≡◌, refl, sym, ap, ◌∙◌}
use mathlib.Core.Bool.{Bool, true, false, true≢false, cond, ◌&&◌}
use mathlib.Core.List.{List, [], ◌∷◌, ◌++◌}
use Prim.Native.Nat.{ℕ, suc, ◌+◌, ◌*◌, ◌-◌, ◌/◌, ◌≤◌, ◌<◌}
use native.Mathlib.Omega.{arith}
use native.Mathlib.Nat.{add-zero}
use lib.Dec.{ltb, leb}
use Rattle.std.proofs.Common.{Option, None, Some}
use lib.ListN.{length, get_or, get_or-eq_default, drop, drop_of_length-le}
use lib.Seq.{get_or-drop, drop-drop, drop-cons, drop_at}
use native.Mathlib.Numerals.{add-one}
use borrow.Author.Tests.{lt-ltb, le-ltb, le-leb, ltb-true, ltb-false, leb-true}
use Rattle.events.specs.Members.{places}
use Rattle.letters.specs.Decimal.{decimal, figure, FigureOf}
use Rattle.letters.proofs.Decimal.{decimal_digit, more_long}
use Rattle.letters.proofs.ReadsDecimal.{decimal_on, Reader, reads_decimal}
use Rattle.listing.specs.Inside.{GoesOn, goes_on_with, token, begun, token_at}
use Rattle.listing.specs.declared.input.Token.{Token}

-- a byte by its figure
figure_digit : (d : ℕ) → d < 10 → figure (48 + d) ≡ d
unfolding figure
figure_digit d h =
    let same : 48 + d - 48 ≡ d = omega arith in
    simp (le-leb 48 (48 + d) (omega arith), le-leb (48 + d) 57 (omega arith), same)

figure_byte : (b : ℕ) → figure b < 10 → b ≡ 48 + figure b
unfolding figure
figure_byte b = go (leb 48 b) refl (leb b 57) refl
  where
    go : (s : Bool) → leb 48 b ≡ s → (t : Bool) → leb b 57 ≡ t → cond (s && t) (b - 48) 10 < 10 → b ≡ 48 + cond (s && t) (b - 48) 10
    go true e true f h = let low = leb-true 48 b e in omega arith
    go true e false f h = absurd (omega arith)
    go false e t f h = absurd (omega arith)

-- no digit stands where a text ends, or before a byte that is none
figure_end : (c : ℕ) → figure c ≡ 10 → (t : List ℕ) → get_or t 0 c ≡ c → figure (get_or t 0 0) ≡ 10
unfolding figure
figure_end c plain [] e = refl
figure_end c plain (x ∷ t) e = rw e plain

-- what lets a number go on
pub on_when : (v d : ℕ) → goes_on_with v d ≡ true → (0 < v) × (v < places) × (d < 10)
unfolding goes_on_with
on_when v d = go (ltb 0 v) refl (ltb v places) refl (ltb d 10) refl
  where
    go : (r : Bool) → ltb 0 v ≡ r → (s : Bool) → ltb v places ≡ s → (t : Bool) → ltb d 10 ≡ t → (r && s) && t ≡ true
        → (0 < v) × (v < places) × (d < 10)
    go true e true f true g h = (ltb-true 0 v e, ltb-true v places f, ltb-true d 10 g)
    go true e true f false g h = absurd (true≢false (sym h))
    go true e false f t g h = absurd (true≢false (sym h))
    go false e s f t g h = absurd (true≢false (sym h))

goes : (v d : ℕ) → 0 < v → v < places → d < 10 → goes_on_with v d ≡ true
unfolding goes_on_with
goes v d h k l = simp (lt-ltb 0 v h, lt-ltb v places k, lt-ltb d 10 l)

stays : (v : ℕ) → goes_on_with v 10 ≡ false
unfolding goes_on_with
stays v = go (ltb 0 v && ltb v places)
  where
    go : (b : Bool) → b && false ≡ false
    go true = refl
    go false = refl

pub stays_unless : (v d : ℕ) → (0 < v → v < places → d < 10 → ⊥) → goes_on_with v d ≡ false
stays_unless v d h = go (goes_on_with v d) refl
  where
    go : (b : Bool) → goes_on_with v d ≡ b → b ≡ false
    go true e = let (some, low, digit) = on_when v d e in absurd (h some low digit)
    go false e = refl

-- past a line's end there is no digit
figure_past : (l : List ℕ) (at : ℕ) → length l ≤ at → figure (get_or l at 0) ≡ 10
unfolding figure
figure_past l at h = rw (get_or-eq_default l 0 h)

pub stays_past : (l : List ℕ) (at v : ℕ) → length l ≤ at → goes_on_with v (figure (get_or l at 0)) ≡ false
stays_past l at v h = rw (figure_past l at h) (stays v)

-- what a digit says of a number that may go on
pub goes_on_by : (l : List ℕ) (at v : ℕ) → 0 < v → v < places → at < length l → (r : Option ℕ) → FigureOf (get_or l at 0) r → GoesOn l at v r
goes_on_by l at v h k m None e = rw e (stays v)
goes_on_by l at v h k m (Some d) (e, low) = (e, goes v d h k low, m)

-- a line from a place on
module _ (l : List ℕ) (at : ℕ) where
  first : get_or l at 0 ≡ get_or (drop at l) 0 0
  first = ap (λ (i : ℕ). get_or l i 0) (sym (add-zero at)) ∙ sym (get_or-drop at l 0 0)

  pub here : {x : ℕ} {t : List ℕ} → drop at l ≡ x ∷ t → get_or l at 0 ≡ x
  here e = first ∙ ap (λ (m : List ℕ). get_or m 0 0) e

  pub behind : {x : ℕ} {t : List ℕ} → drop at l ≡ x ∷ t → drop (at + 1) l ≡ t
  behind e = sym (drop-drop 1 at l) ∙ ap (λ (m : List ℕ). drop 1 m) e

  pub split : (d : ℕ) → get_or l at 0 ≡ 48 + d → drop at l ≡ (48 + d) ∷ drop (at + 1) l
  split d e = go (drop at l) refl
    where
      go : (m : List ℕ) → drop at l ≡ m → m ≡ (48 + d) ∷ drop (at + 1) l
      go [] h =
          let none : get_or l at 0 ≡ 0 = first ∙ ap (λ (m : List ℕ). get_or m 0 0) h in
          absurd (omega arith)
      go (x ∷ m) h = rw (behind h, ← e, here h)

token_none : (at v : ℕ) → token at v [] ≡ record { event = v; next = at }
unfolding token
token_none at v = refl

-- a number with a digit behind it, and with none
module _ (at v b : ℕ) (w : List ℕ) where
  on : goes_on_with v (figure b) ≡ true → token at v (b ∷ w) ≡ token (at + 1) (10 * v + figure b) w
  unfolding token
  on e = rw e

  ends : goes_on_with v (figure b) ≡ false → token at v (b ∷ w) ≡ record { event = v; next = at }
  unfolding token
  ends e = rw e

-- the same in a line
module _ (l : List ℕ) (at v : ℕ) where
  pub token_on : at < length l → goes_on_with v (figure (get_or l at 0)) ≡ true
      → token at v (drop at l) ≡ token (at + 1) (10 * v + figure (get_or l at 0)) (drop (at + 1) l)
  token_on h e = rw (drop-cons l at 0 h, ← add-one at) (on at v (get_or l at 0) (drop (at + 1) l) e)

  pub token_ends : goes_on_with v (figure (get_or l at 0)) ≡ false → token at v (drop at l) ≡ record { event = v; next = at }
  token_ends e = go (ltb at (length l)) refl
    where
      go : (b : Bool) → ltb at (length l) ≡ b → token at v (drop at l) ≡ record { event = v; next = at }
      go true b = rw (drop-cons l at 0 (ltb-true at (length l) b)) (ends at v (get_or l at 0) (drop (suc at) l) e)
      go false b = rw (drop_of_length-le l (ltb-false at (length l) b)) (token_none at v)

-- its first figure
module _ (at d : ℕ) (w : List ℕ) where
  pub begun_digit : d < 10 → begun at d w ≡ token (at + 1) d w
  unfolding begun
  begun_digit h = simp (lt-ltb d 10 h)

  pub begun_none : 9 < d → begun at d w ≡ record { event = places; next = at }
  unfolding begun
  begun_none h = simp (le-ltb d 10 (omega arith))

-- where there is none there is no event
pub none_begun : (l : List ℕ) (at : ℕ) → figure (get_or l at 0) ≡ 10 → places ≤ (token_at l at).event
none_begun l at e =
    let none = ap (λ (t : Token). t.event) (begun_none at (figure (get_or l at 0)) (drop (at + 1) l) (omega arith)) in
    omega arith

-- what stands from the number's first digit on is the decimal form of the number found, and what is behind it
token_stands : (l w : List ℕ) (at v : ℕ) → drop at l ≡ w → decimal v ++ w ≡ decimal (token at v w).event ++ drop (token at v w).next l
token_stands l [] at v e = rw (token_none at v, e)
token_stands l (b ∷ w) at v e = go (goes_on_with v (figure b)) refl (token_stands l w (at + 1) (10 * v + figure b) (behind l at e))
  where
    go : (t : Bool) → goes_on_with v (figure b) ≡ t
        → decimal (10 * v + figure b) ++ w
        ≡ decimal (token (at + 1) (10 * v + figure b) w).event ++ drop (token (at + 1) (10 * v + figure b) w).next l
        → decimal v ++ (b ∷ w) ≡ decimal (token at v (b ∷ w)).event ++ drop (token at v (b ∷ w)).next l
    go true g h =
        let (some, low, digit) = on_when v (figure b) g in
        rw (on at v b w g)
        (ap (λ (x : ℕ). decimal v ++ (x ∷ w)) (figure_byte b digit) ∙ (sym (decimal_on v (figure b) w some digit) ∙ h))
    go false g h = rw (ends at v b w g, e)

pub stands : (l : List ℕ) (at : ℕ) → (token_at l at).event < places → drop at l ≡ decimal (token_at l at).event ++ drop (token_at l at).next l
stands l at h = go (ltb (figure (get_or l at 0)) 10) refl
  where
    go : (t : Bool) → ltb (figure (get_or l at 0)) 10 ≡ t → drop at l ≡ decimal (token_at l at).event ++ drop (token_at l at).next l
    go true e =
        let digit = ltb-true (figure (get_or l at 0)) 10 e in
        rw (begun_digit at (figure (get_or l at 0)) (drop (at + 1) l) digit)
        (split l at (figure (get_or l at 0)) (figure_byte (get_or l at 0) digit)
        ∙ (rw (decimal_digit (figure (get_or l at 0)) digit) at (token_stands l (drop (at + 1) l) (at + 1) (figure (get_or l at 0)) refl)))
    go false e =
        let more = ltb-false (figure (get_or l at 0)) 10 e in
        let none = ap (λ (t : Token). t.event) (begun_none at (figure (get_or l at 0)) (drop (at + 1) l) (omega arith)) in
        absurd (omega arith)

-- the decimal form of an event, with the line's end or the byte s behind it, which is no digit
module _ (s : ℕ) (plain : figure s ≡ 10) (l : List ℕ) (at : ℕ) where
  -- the number read so far, and where it ends
  abbrev read : ℕ → List ℕ → Token
  read v x = token (at + length (decimal v)) v x

  abbrev from : List ℕ → Token
  from x = begun at (figure (get_or x 0 0)) (drop 1 x)

  reads : Reader (places - 1) from read
  reads = record { first = one; more = another }
    where
      one : (d : ℕ) (x : List ℕ) → d < 10 → from ((48 + d) ∷ x) ≡ read d x
      one d x h = rw (figure_digit d h, decimal_digit d h) (begun_digit at d x h)

      another : (v d : ℕ) (x : List ℕ) → 1 ≤ v → d < 10 → 10 * v + d ≤ places - 1 → read v ((48 + d) ∷ x) ≡ read (10 * v + d) x
      another v d x g h k =
          let tens : (10 * v + d) / 10 ≡ v = omega arith in
          let place : at + length (decimal v) + 1 ≡ at + length (decimal (10 * v + d)) = omega (arith, rw tens at (more_long (10 * v + d) (omega arith))) in
          on (at + length (decimal v)) v (48 + d) x (rw (figure_digit d h) (goes v d g (omega arith) h)) ∙ rw (figure_digit d h, place)

  pub found : (e : ℕ) (t : List ℕ) → get_or t 0 s ≡ s → e < places → drop at l ≡ decimal e ++ t
      → ((token_at l at).event ≡ e) × (drop (token_at l at).next l ≡ t)
  found e t k h g =
      let here : token_at l at ≡ from (drop at l) = rw (first l at, drop-drop 1 at l) in
      let whole : token_at l at ≡ record { event = e; next = at + length (decimal e) } =
      here ∙ (ap from g ∙ (reads_decimal reads e (omega arith) t ∙ last t k)) in
      rw whole (refl, sym (drop-drop (length (decimal e)) at l) ∙ rw g (drop_at (decimal e) t (length (decimal e)) refl))
    where
      last : (u : List ℕ) → get_or u 0 s ≡ s → token (at + length (decimal e)) e u ≡ record { event = e; next = at + length (decimal e) }
      last [] k = token_none (at + length (decimal e)) e
      last (x ∷ u) k = ends (at + length (decimal e)) e x u (rw (k, plain) (stays e))
