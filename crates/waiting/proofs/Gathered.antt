-- The lowest absent event of a configuration's records, one after another, is the event that it lacks.
use Prim.Native.Nat.{ℕ, zero, suc, ◌+◌, ◌-◌, ◌*◌, ◌≤◌, ◌<◌, min}
use mathlib.Core.Bool.{Bool, true, false, cond}
use mathlib.Core.Path.{◌≡◌, refl, ap, ◌∙◌}
use mathlib.Core.List.{List}
use mathlib.Core.Option.{Option, none, some}
use native.Mathlib.Omega.{arith}
use lib.Dec.{leb}
use lib.ListN.{get_or}
use borrow.Author.Tests.{leb-true, leb-false, ne_eqb}
use Rattle.std.specs.Prelude.{Option as Answer, Some, None}
use Rattle.events.specs.Events.{Events}
use Rattle.events.specs.Members.{places, marks}
use Rattle.junior.specs.Configuration.{Config, Event, Not, And, Or}
use Rattle.junior.specs.Waited.{lower, lacks}
use Rattle.table.specs.Records.{part_kind, part_event, part_size, second_part}
use Rattle.table.specs.Spells.{weight, Configured}
use Rattle.table.proofs.ByParts.{written}
use Rattle.waiting.specs.Lacking.{Tells, lowest_after, LacksAs}

-- the lowest so far, with k records from byte c on
unfoldable pub gathered : List ℕ → List ℕ → ℕ → ℕ → ℕ → ℕ
gathered t words zero c low = low
gathered t words (suc k) c low = gathered t words k (c + 4) (lowest_after t words c low)

-- the lower of `low` and an event that there may be
abbrev lowered : ℕ → Option ℕ → ℕ
lowered low none = low
lowered low (some e) = min e low

lowered_lower : (low : ℕ) (a b : Option ℕ) → lowered (lowered low a) b ≡ lowered low (lower (λ e. e) a b)
lowered_lower low none b = refl
lowered_lower low (some x) none = refl
lowered_lower low (some x) (some y) = go (leb x y) refl
  where
    go : (q : Bool) → leb x y ≡ q → min y (min x low) ≡ min (cond q x y) low
    go true e = let l = leb-true x y e in omega arith
    go false e = let l = leb-false x y e in omega arith

lowered_event : (low s : ℕ) (b : Bool) → cond b low (min s low) ≡ lowered low (cond b none (some s))
lowered_event low s true = refl
lowered_event low s false = refl

-- an event that isn't lower than the lowest so far, marked or not
pub not_lower : {s low : ℕ} (b : Bool) → low ≤ s → low ≡ cond b low (min s low)
not_lower true h = refl
not_lower false h = omega arith

module _ (t words : List ℕ) where
  abbrev lacking : Config → Option ℕ
  lacking d = lacks d (marks words)

  -- a record that is no event
  passes_over : (c k low : ℕ) {j : ℕ} → j ≡ suc k → 0 < part_kind t c → gathered t words j c low ≡ gathered t words k (c + 4) low
  unfolding gathered
  passes_over c k low n h =
      ap (λ j. gathered t words j c low) n
      ∙ ap
      (λ b. gathered t words k (c + 4) (cond b (cond (marks words (part_event t c)) low (min (part_event t c) low)) low))
      (ne_eqb (part_kind t c) 0 (λ z. omega arith))

  -- the parts of an and or an or
  two : (d e : Config) (c k low : ℕ) → Configured t (c + 4) d
      → gathered t words (weight d + (weight e + k)) (c + 4) low
      ≡ gathered t words (weight e + k) (c + 4 + 4 * weight d) (lowered low (lacking d))
      → gathered t words (weight e + k) (second_part t c) (lowered low (lacking d))
      ≡ gathered t words k (second_part t c + 4 * weight e) (lowered (lowered low (lacking d)) (lacking e))
      → gathered t words (weight d + (weight e + k)) (c + 4) low
      ≡ gathered t words k (c + 4 * (1 + weight d + weight e)) (lowered low (lower (λ x. x) (lacking d) (lacking e)))
  two d e c k low h first second =
      let w = written t (c + 4) d h in
      let at : c + 4 + 4 * weight d ≡ second_part t c = omega arith in
      let end : second_part t c + 4 * weight e ≡ c + 4 * (1 + weight d + weight e) = omega arith in
      first
      ∙ (ap (λ x. gathered t words (weight e + k) x (lowered low (lacking d))) at
      ∙ (second
      ∙ (ap (λ x. gathered t words k x (lowered (lowered low (lacking d)) (lacking e))) end
      ∙ ap (gathered t words k (c + 4 * (1 + weight d + weight e))) (lowered_lower low (lacking d) (lacking e)))))

  gathers : (d : Config) (c k low : ℕ) → Configured t c d
      → gathered t words (weight d + k) c low ≡ gathered t words k (c + 4 * weight d) (lowered low (lacking d))
  unfolding gathered Configured weight lacks
  gathers (Event s) c k low (kind, size, e) =
      let n : 1 + k ≡ suc k = omega arith in
      rw (n, kind, e) (ap (gathered t words k (c + 4)) (lowered_event low s (marks words s)))
  gathers (Not d) c k low (kind, size, h) =
      let n : 1 + weight d + k ≡ suc (weight d + k) = omega arith in
      let m : c + 4 + 4 * weight d ≡ c + 4 * (1 + weight d) = omega arith in
      passes_over c (weight d + k) low n (omega arith)
      ∙ (gathers d (c + 4) k low h ∙ ap (λ x. gathered t words k x (lowered low (lacking d))) m)
  gathers (And d e) c k low (kind, size, h, g) =
      let n : 1 + weight d + weight e + k ≡ suc (weight d + (weight e + k)) = omega arith in
      passes_over c (weight d + (weight e + k)) low n (omega arith)
      ∙ two d e c k low h (gathers d (c + 4) (weight e + k) low h) (gathers e (second_part t c) k (lowered low (lacking d)) g)
  gathers (Or d e) c k low (kind, size, h, g) =
      let n : 1 + weight d + weight e + k ≡ suc (weight d + (weight e + k)) = omega arith in
      passes_over c (weight d + (weight e + k)) low n (omega arith)
      ∙ two d e c k low h (gathers d (c + 4) (weight e + k) low h) (gathers e (second_part t c) k (lowered low (lacking d)) g)

-- below a bound, if there is one
abbrev Under : Option ℕ → Type 0
Under none = Unit {0}
Under (some e) = e < places

under_lower : (a b : Option ℕ) → Under a → Under b → Under (lower (λ e. e) a b)
under_lower none b h k = k
under_lower (some x) none h k = h
under_lower (some x) (some y) h k = go (leb x y)
  where
    go : (q : Bool) → cond q x y < places
    go true = h
    go false = k

under_event : (s : ℕ) (b : Bool) → s < places → Under (cond b none (some s))
under_event s true h = tt
under_event s false h = h

-- an event's number is a byte
under : (t : List ℕ) → ((i : ℕ) → get_or t i 0 < 256) → (X : Events) (d : Config) (c : ℕ) → Configured t c d → Under (lacks d X)
unfolding Configured lacks
under t b X (Event s) c h = under_event s (X s) (omega (arith, b (c + 1), h.2))
under t b X (Not d) c h = under t b X d _ h.2
under t b X (And d e) c h = under_lower (lacks d X) (lacks e X) (under t b X d _ h.2) (under t b X e _ h.3)
under t b X (Or d e) c h = under_lower (lacks d X) (lacks e X) (under t b X d _ h.2) (under t b X e _ h.3)

-- the lowest of all, if it is below `places`
lowest_told : (o : Option ℕ) → Under o → {low : ℕ} → low ≡ lowered places o → {r : Answer ℕ}
    → (low < places → r ≡ Some low) → (places ≤ low → r ≡ None) → Tells o r
lowest_told none h e there not = not (omega arith)
lowest_told (some s) h e there not = let is = there (omega arith) in is ∙ ap Some (omega arith)

-- so that is what the code gathers
pub lacks_as : (t words : List ℕ) (c : ℕ) {low : ℕ} → ((i : ℕ) → get_or t i 0 < 256)
    → low ≡ gathered t words (part_size t c) c places
    → {r : Answer ℕ} → (low < places → r ≡ Some low) → (places ≤ low → r ≡ None)
    → LacksAs t c words r
unfolding gathered
lacks_as t words c b e there not d h =
    let n : part_size t c ≡ weight d + 0 = written t c d h ∙ omega arith in
    let all = e ∙ (ap (λ k. gathered t words k c places) n ∙ gathers t words d c 0 places h) in
    lowest_told (lacks d (marks words)) (under t b (marks words) d c h) all there not

-- a record more
pub one_more : (t words : List ℕ) (k c low : ℕ) → 0 < k
    → gathered t words k c low ≡ gathered t words (k - 1) (c + 4) (lowest_after t words c low)
unfolding gathered
one_more t words zero c low h = absurd (omega arith)
one_more t words (suc k) c low h = let e : suc k - 1 ≡ k = omega arith in rw e

pub no_more : (t words : List ℕ) (k c low : ℕ) → k ≡ 0 → gathered t words k c low ≡ low
unfolding gathered
no_more t words k c low e = rw e
