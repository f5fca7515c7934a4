-- Passing through the configurations once: while each is good but for its height and no way has more than 15 steps, no height
-- is above 16.
use Prim.Native.Nat.{ℕ, zero, suc, ◌+◌, ◌-◌, ◌*◌, ◌≤◌, ◌<◌}
use mathlib.Core.Bool.{Bool, true, false, cond, ◌&&◌}
use mathlib.Core.Path.{◌≡◌, refl, sym, ap}
use mathlib.Core.List.{List, [], ◌∷◌}
use native.Mathlib.Omega.{arith}
use lib.ListN.{length}
use lib.Dec.{eqb}
use borrow.Author.Tests.{eqb-true}
use borrow.Author.Count.{below_more}
use Rattle.table.specs.Records.{configurations, configuration_at, part_kind}
use Rattle.table.specs.Good.{parts, good_but_height, height_at_most, good_configuration}
use Rattle.table.specs.Inside.{Framed, ConfigurationsGood, Begins}
use Rattle.table.specs.Inside.Ways.{Way, outward, numbered}
use Rattle.table.proofs.Laid.{both, Laid, none, one, two, fine, size_of, kind_of}
use Rattle.table.proofs.Heights.{height_good, taller_by, few_parts}
use Rattle.table.proofs.WayNumbers.{numbered_short, outward_less}

-- the way to the record that stands behind one with that many parts
abbrev pub onward : ℕ → Way → Way
onward zero w = outward w
onward (suc zero) w = false ∷ w
onward (suc (suc more)) w = true ∷ w

-- configuration j, if there is one, has at most the height that is left below a way of this many steps
abbrev Low : List ℕ → ℕ → ℕ → Type 0
Low t steps j = j < configurations t → height_at_most t (16 - steps) j ≡ true

-- what is still to come of the outermost configuration, from record j on
abbrev Rest : List ℕ → ℕ → Way → Type 0
Rest t j [] = Unit {0}
Rest t j (false ∷ w) = Rest t j w
Rest t j (true ∷ w) = Low t (suc (length w)) j × Rest t (j + size_of t j) w

-- the same, record j at the end of the way included
abbrev Open : List ℕ → ℕ → Way → Type 0
Open t j w = Low t (length w) j × Rest t (j + size_of t j) w

past : (t : List ℕ) (j : ℕ) (w : Way) → configurations t ≤ j → Rest t j w
past t j [] h = tt
past t j (false ∷ w) h = past t j w h
past t j (true ∷ w) h = (λ l. absurd (omega arith), past t (j + size_of t j) w (omega arith))

opened : (t : List ℕ) (j : ℕ) (w : Way) → Open t j (outward w) → Rest t j w
unfolding outward
opened t j [] o = tt
opened t j (true ∷ w) o = o
opened t j (false ∷ w) o = opened t j w o

-- if what comes behind record j is low, so is j
down : (t : List ℕ) (j p : ℕ) (w : Way) → good_but_height t j ≡ true → length w < 16 → parts (kind_of t j) ≡ p
    → Laid (size_of t) (configurations t) j p → Open t (j + 1) (onward p w) → Open t j w
down t j p w g short e (none s) o =
    let left : 16 - length w ≡ suc (16 - suc (length w)) = omega arith in
    let next : j + size_of t j ≡ j + 1 = omega arith in
    (λ h. rw (left, height_good t (16 - suc (length w)) j 0 g e), rw next (opened t (j + 1) w o))
down t j p w g short e (one l s) o =
    let left : 16 - length w ≡ suc (16 - suc (length w)) = omega arith in
    let next : j + size_of t j ≡ j + 1 + size_of t (j + 1) = omega arith in
    (λ h. rw (left, height_good t (16 - suc (length w)) j 1 g e) (o.0 l), rw next o.1)
down t j p w g short e (two {more} l m s) o =
    let left : 16 - length w ≡ suc (16 - suc (length w)) = omega arith in
    let second = j + 1 + size_of t (j + 1) in
    let next : j + size_of t j ≡ second + size_of t second = omega arith in
    (λ h. rw (left, height_good t (16 - suc (length w)) j (suc (suc more)) g e, o.0 l, o.1.0 m), rw next o.1.1)

-- what is known when the way w leads to record j: each record before it is good but for its height, and low if what is to come is
pub record Passed (t : List ℕ) (j : ℕ) (w : Way) : Type 0 where
  pub good : (k : ℕ) → k < j → good_but_height t k ≡ true
  pub low : Open t j w → (k : ℕ) → k < j → height_at_most t 16 k ≡ true

pub none_passed : (t : List ℕ) → Passed t 0 []
none_passed t = record { good = λ k h. absurd (omega arith); low = λ o k h. absurd (omega arith) }

pub one_more : (t : List ℕ) (j : ℕ) (w : Way) → Passed t j w → j < configurations t → length w < 16
    → good_but_height t j ≡ true → Passed t (j + 1) (onward (parts (kind_of t j)) w)
one_more t j w d h short g =
    record {
      good = below_more _ _ d.good g;
      low = λ o.
          let o' = down t j (parts (kind_of t j)) w g short refl (fine t j _ refl g).laid_out o in
          let whole : length w + (16 - length w) ≡ 16 = omega arith in
          below_more _ _ (d.low o') (rw whole at (taller_by t (length w) (16 - length w) j (o'.0 h)));
    }

pub all_passed : (t : List ℕ) (w : Way) → Passed t (configurations t) w → ConfigurationsGood t
unfolding good_configuration
all_passed t w d j h =
    let end = configurations t in
    let o : Open t end w = (λ l. absurd (omega arith), past t (end + size_of t end) w (omega arith)) in
    rw (d.good j h, d.low o j h)

-- the same with record j at byte c and the way as a number
pub record Reached (t : List ℕ) (c way j : ℕ) (w : Way) : Type 0 where
  pub at : c ≡ configuration_at t j
  pub within : j ≤ configurations t
  pub number : way ≡ numbered w
  pub short : way < 65536
  pub passed : Passed t j w

abbrev pub SomeReached : List ℕ → ℕ → ℕ → Type 0
SomeReached t c way = (j : ℕ) × (w : Way) × Reached t c way j w

module _ {t : List ℕ} {n m v : ℕ} (f : Framed t n m v) where
  pub reached_first : Reached t (6 * n) 1 0 []
  unfolding numbered
  reached_first =
      record { at = omega arith; within = omega arith; number = refl; short = omega arith; passed = none_passed t }

  pub reached_last : {c way : ℕ} → SomeReached t c way → 6 * n + 4 * m ≤ c → ConfigurationsGood t
  reached_last (j, w, r) l =
      let last : j ≡ configurations t = omega arith in
      all_passed t w (rw last at r.passed)

  module _ {c way j : ℕ} {w : Way} (r : Reached t c way j w) (l : c < 6 * n + 4 * m) where
    pub begins : Begins t c j
    begins =
        let d = r.at in
        record { at = d; among = omega arith; long = omega arith }

    -- the record has p parts
    reach : (c' p u : ℕ) → c' ≡ c + 4 → good_but_height t j ≡ true → parts (kind_of t j) ≡ p → u ≡ numbered (onward p w) → u < 65536
        → Reached t c' u (j + 1) (onward p w)
    reach c' p u next g e h s =
        let steps = numbered_short 16 w (rw r.number at r.short) in
        let b = begins.among in
        record {
          at = omega arith;
          within = omega arith;
          number = h;
          short = s;
          passed = rw e at (one_more t j w r.passed b steps g);
        }

    pub reach_lone : (c' u : ℕ) → c' ≡ c + 4 → (eqb (part_kind t c) 0 && good_but_height t j) ≡ true → u ≡ numbered (outward w)
        → Reached t c' u (j + 1) (outward w)
    unfolding parts
    reach_lone c' u next g h =
        let k = both {a = eqb (part_kind t c) 0} g in
        let lone : parts (kind_of t j) ≡ 0 = ap parts (rw r.at at (eqb-true (part_kind t c) 0 k.0)) in
        reach c' 0 u next k.1 lone h (omega (arith, outward_less w))

    pub reach_parts : (c' p : ℕ) → c' ≡ c + 4 → p ≡ cond (good_but_height t j) (parts (part_kind t c)) 0 → (p ≡ 0 → ⊥)
        → 2 * way + (p - 1) < 65536 → Reached t c' (2 * way + (p - 1)) (j + 1) (onward p w)
    unfolding numbered
    reach_parts c' p next e h s = go (good_but_height t j) refl
      where
        number : (p : ℕ) → (p ≡ 0 → ⊥) → p ≤ 2 → 2 * way + (p - 1) ≡ numbered (onward p w)
        number zero h k = absurd (h refl)
        number (suc zero) h k = omega arith
        number (suc (suc zero)) h k = omega arith
        number (suc (suc (suc p))) h k = absurd (omega arith)

        go : (g : Bool) → good_but_height t j ≡ g → Reached t c' (2 * way + (p - 1)) (j + 1) (onward p w)
        go true g =
            let same = rw (g, r.at) at e in
            reach c' p _ next g (sym same) (number p h (few_parts begins e)) s
        go false g = absurd (h (rw g at e))
