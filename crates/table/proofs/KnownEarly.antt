-- When a configuration can be decided early, by its parts: one look at each, from the last to the first, tells it of all.
use Prim.Native.Nat.{ℕ, ◌+◌, ◌-◌, ◌*◌, ◌≤◌, ◌<◌, min, max}
use mathlib.Core.Bool.{Bool, true, false, ◌&&◌, ◌||◌}
use mathlib.Core.Path.{◌≡◌, refl, ap, ◌∙◌}
use mathlib.Core.List.{List}
use native.Mathlib.Omega.{arith}
use lib.Dec.{leb}
use lib.ListN.{length, get_or, set}
use lib.Seq.{get_or-set_same, get_or-set_other}
use borrow.Author.Tests.{le-leb, lt-leb, leb-true, leb-false}
use Rattle.junior.specs.Configuration.{Config, Event, Not, And, Or, early_true, early_false}
use Rattle.table.specs.Records.{configurations, argument_at, part_kind, part_size}
use Rattle.table.specs.Spells.{Configured, configuration_of}
use Rattle.table.specs.Inside.{ConfigurationsGood}
use Rattle.table.specs.Inside.Ranks.{joined_rank}
use Rattle.table.specs.Inside.Early.{Earliness, EarlyAt, KnownFrom, SomeFramed, Behind, TestsAt}
use Rattle.table.proofs.Little.{below_or}
use Rattle.table.proofs.Laid.{size_of, kind_of}
use Rattle.table.proofs.OwnBytes.{framed_begins, first_at}
use Rattle.table.proofs.Spelled.{configured}
use Rattle.table.proofs.TestParts.{Test, TwoParts, not_part, and_parts, or_parts}

-- a test of numbers that is so if both of two are, or if either is
both_so : (a b c d x y : ℕ) → (a ≤ b → c ≤ d → x ≤ y) → (b < a → y < x) → (d < c → y < x) → (leb a b && leb c d) ≡ leb x y
both_so a b c d x y f g h = go (leb a b) refl (leb c d) refl
  where
    go : (r : Bool) → leb a b ≡ r → (s : Bool) → leb c d ≡ s → (leb a b && leb c d) ≡ leb x y
    go true e true k = rw (e, k, le-leb x y (f (leb-true a b e) (leb-true c d k)))
    go true e false k = rw (e, k, lt-leb x y (h (leb-false c d k)))
    go false e s k = rw (e, lt-leb x y (g (leb-false a b e)))

either_so : (a b c d x y : ℕ) → (a ≤ b → x ≤ y) → (c ≤ d → x ≤ y) → (b < a → d < c → y < x) → (leb a b || leb c d) ≡ leb x y
either_so a b c d x y f g h = go (leb a b) refl (leb c d) refl
  where
    go : (r : Bool) → leb a b ≡ r → (s : Bool) → leb c d ≡ s → (leb a b || leb c d) ≡ leb x y
    go true e s k = rw (e, le-leb x y (f (leb-true a b e)))
    go false e true k = rw (e, k, le-leb x y (g (leb-true c d k)))
    go false e false k = rw (e, k, lt-leb x y (h (leb-false a b e) (leb-false c d k)))

-- two tests that go alike
alike : (a b x y : ℕ) → (a ≤ b → x ≤ y) → (b < a → y < x) → leb a b ≡ leb x y
alike a b x y f g = go (leb a b) refl
  where
    go : (r : Bool) → leb a b ≡ r → leb a b ≡ leb x y
    go true e = rw (e, le-leb x y (f (leb-true a b e)))
    go false e = rw (e, lt-leb x y (g (leb-false a b e)))

-- each form by its parts
pub event_early : (s : ℕ) → Earliness 2 (Event s)
unfolding early_true early_false
event_early s = record { most = omega arith; true_is = refl; false_is = refl }

pub not_early : (e : ℕ) (d : Config) → Earliness e d → Earliness (2 - e) (Not d)
unfolding early_true early_false
not_early e d h =
    record {
      most = omega arith;
      true_is = h.false_is ∙ alike e 1 1 (2 - e) (λ l. omega arith) (λ l. omega arith);
      false_is = h.true_is ∙ alike 1 e (2 - e) 1 (λ l. omega arith) (λ l. omega arith);
    }

pub and_early : (e f : ℕ) (c d : Config) → Earliness e c → Earliness f d → Earliness (min e f) (And c d)
unfolding early_true early_false
and_early e f c d h k =
    record {
      most = omega arith;
      true_is =
          rw (h.true_is, k.true_is) (both_so 1 e 1 f 1 (min e f) (λ a b. omega arith) (λ a. omega arith) (λ a. omega arith));
      false_is =
          rw (h.false_is, k.false_is) (either_so e 1 f 1 (min e f) 1 (λ a. omega arith) (λ a. omega arith) (λ a b. omega arith));
    }

pub or_early : (e f : ℕ) (c d : Config) → Earliness e c → Earliness f d → Earliness (max e f) (Or c d)
unfolding early_true early_false
or_early e f c d h k =
    record {
      most = omega arith;
      true_is =
          rw (h.true_is, k.true_is) (either_so 1 e 1 f 1 (max e f) (λ a. omega arith) (λ a. omega arith) (λ a b. omega arith));
      false_is =
          rw (h.false_is, k.false_is) (both_so e 1 f 1 (max e f) 1 (λ a b. omega arith) (λ a. omega arith) (λ a. omega arith));
    }

-- configuration j, of kind k, by its parts
data Parted (t : List ℕ) (j : ℕ) : ℕ → Config → Type 0 where
  event : {s : ℕ} → Parted t j 0 (Event s)
  negation : {d : Config} → Test t (j + 1) d → Parted t j 1 (Not d)
  conjunction : {d e : Config} → TwoParts t j d e → Parted t j 2 (And d e)
  disjunction : {d e : Config} → TwoParts t j d e → Parted t j 3 (Or d e)

parted : {t : List ℕ} {j : ℕ} → ConfigurationsGood t → (d : Config) → Test t j d → Parted t j (kind_of t j) d
unfolding Configured
parted good (Event s) h = rw h.there.0 event
parted good (Not d) h = rw h.there.0 (negation (not_part good h))
parted good (And d e) h = rw h.there.0 (conjunction (and_parts good h))
parted good (Or d e) h = rw h.there.0 (disjunction (or_parts good h))

-- configuration j stands at byte c, and those behind it are known
module _ {t row : List ℕ} {c j : ℕ} (B : Behind t row c j) where
  abbrev second : ℕ
  second = j + 1 + size_of t (j + 1)

  at_j : (d : Config) → Configured t c d → Parted t j (part_kind t c) d
  at_j d h = rw B.begins.at (parted B.good d (record { among = B.begins.among; there = rw B.begins.at at h }))

  -- there is one
  there : Configured t c (configuration_of t 16 c)
  there = rw B.begins.at (configured t B.good j B.begins.among)

  some : Parted t j (part_kind t c) (configuration_of t 16 c)
  some = at_j _ there

  known_at : {k : ℕ} {d : Config} → j + 1 ≤ k → Test t k d → Earliness (get_or row k 0) d
  known_at {k} {d} l h = B.known k l h.among d h.there

  pub lone : part_kind t c ≡ 0 → EarlyAt t c 2
  lone e d h = go (rw e at (at_j d h))
    where
      go : {d : Config} → Parted t j 0 d → Earliness 2 d
      go (event {s}) = event_early s

  -- the first part is behind it, and so is the second of an and or an or
  pub first_behind : (part_kind t c ≡ 0 → ⊥) → (j + 1 < configurations t) × (get_or row (j + 1) 0 ≤ 2)
  first_behind n = go n some
    where
      found : {d : Config} → Test t (j + 1) d → (j + 1 < configurations t) × (get_or row (j + 1) 0 ≤ 2)
      found h = (h.among, (known_at (omega arith) h).most)

      go : {k : ℕ} {d : Config} → (k ≡ 0 → ⊥) → Parted t j k d → (j + 1 < configurations t) × (get_or row (j + 1) 0 ≤ 2)
      go n event = absurd (n refl)
      go n (negation h) = found h
      go n (conjunction h) = found h.0
      go n (disjunction h) = found h.0

  pub second_behind : (part_kind t c ≡ 0 → ⊥) → (part_kind t c ≡ 1 → ⊥) → second < configurations t
  second_behind n m = go n m some
    where
      go : {k : ℕ} {d : Config} → (k ≡ 0 → ⊥) → (k ≡ 1 → ⊥) → Parted t j k d → second < configurations t
      go n m event = absurd (n refl)
      go n m (negation h) = absurd (m refl)
      go n m (conjunction h) = h.1.among
      go n m (disjunction h) = h.1.among

  -- where the second stands, by the first part's size
  pub second_there : part_size t (c + 4) ≡ size_of t (j + 1)
  second_there = ap (part_size t) (first_at t c j B.begins.at)

  pub negated : part_kind t c ≡ 1 → EarlyAt t c (2 - get_or row (j + 1) 0)
  negated e d h = go (rw e at (at_j d h))
    where
      go : {d : Config} → Parted t j 1 d → Earliness (2 - get_or row (j + 1) 0) d
      go (negation {d} h) = not_early _ d (known_at (omega arith) h)

  pub both_parts : (part_kind t c ≡ 0 → ⊥) → (part_kind t c ≡ 1 → ⊥)
      → EarlyAt t c (joined_rank (part_kind t c) (get_or row (j + 1) 0) (get_or row second 0))
  both_parts n m d h = go n m (at_j d h)
    where
      go : {k : ℕ} {d : Config} → (k ≡ 0 → ⊥) → (k ≡ 1 → ⊥) → Parted t j k d
          → Earliness (joined_rank k (get_or row (j + 1) 0) (get_or row second 0)) d
      go n m event = absurd (n refl)
      go n m (negation h) = absurd (m refl)
      go n m (conjunction {d} {e} h) = and_early _ _ d e (known_at (omega arith) h.0) (known_at (omega arith) h.1)
      go n m (disjunction {d} {e} h) = or_early _ _ d e (known_at (omega arith) h.0) (known_at (omega arith) h.1)

  -- what is found there is small
  pub early_small : (e : ℕ) → EarlyAt t c e → e ≤ 2
  early_small e h = (h _ there).most

-- the loop over the configurations, from the last to the first
module _ {t : List ℕ} {n m : ℕ} (f : SomeFramed t n m) (row : List ℕ) (room : m ≤ length row) where
  pub none_known : KnownFrom t row m
  none_known k l h = absurd (omega arith)

  pub behind : {j : ℕ} → 0 < j → j ≤ m → KnownFrom t row j → Behind t row (6 * n + 4 * (j - 1)) (j - 1)
  behind {j} l h known =
      let one : j - 1 + 1 ≡ j = omega arith in
      record { begins = framed_begins f.1 (omega arith); good = f.2; room = omega arith; known = rw one known }

  pub more_known : {j e : ℕ} → 0 < j → j ≤ m → KnownFrom t row j → EarlyAt t (6 * n + 4 * (j - 1)) e
      → KnownFrom t (set row (j - 1) e) (j - 1)
  more_known {j} {e} l h known here k a b =
      below_or
      (j - 1)
      k
      (λ x. rw (get_or-set_other row (j - 1) k e 0 (λ y. omega arith)) (known k (omega arith) b))
      (λ x.
      let s : k ≡ j - 1 = omega arith in
      let p = (framed_begins {j = j - 1} f.1 (omega arith)).at in
      rw (s, get_or-set_same row (j - 1) e 0 (omega arith), ← p) here)

-- of the test of a node: none but that of an Await, a When or an Until, which the row has
pub no_test : {t : List ℕ} {i k e : ℕ} → (8 ≤ k → k ≤ 10 → ⊥) → TestsAt t i k e
no_test h = record { early = λ a b. absurd (h a b) }

pub test_here : {t : List ℕ} {i k e : ℕ} (row : List ℕ) → KnownFrom t row 0
    → (argument_at t i < configurations t → e ≡ get_or row (argument_at t i) 0) → TestsAt t i k e
test_here row known same = record { early = λ a b l. rw (same l) (known _ (omega arith) l) }
