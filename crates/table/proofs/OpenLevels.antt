-- Reading a configuration by its records one after another: one word holds the levels open, and closing and opening them keeps the rank of the whole.
use Prim.Native.Nat.{ℕ, zero, suc, ◌+◌, ◌*◌, ◌/◌, ◌%◌, ◌^◌, ◌≤◌, ◌<◌}
use mathlib.Core.Bool.{Bool, true, false, not, beq, false≢true}
use mathlib.Core.Path.{◌≡◌, refl, sym, ap, ◌∙◌}
use mathlib.Core.List.{List, [], ◌∷◌}
use native.Mathlib.Omega.{arith}
use native.Mathlib.Nat.{pow-suc}
use lib.Dec.{eqb}
use lib.ListN.{length}
use Rattle.std.proofs.Common.{ControlFlow, Continue, Break}
use Rattle.junior.specs.declared.Verdict.{Verdict}
use Rattle.junior.specs.Configuration.{Config, Event, Not, And, Or, Env, test}
use Rattle.junior.proofs.Verdicts.{test_not, test_and, test_or}
use Rattle.table.specs.declared.reading.Place.{Place}
use Rattle.table.specs.Records.{part_kind, part_size, second_part}
use Rattle.table.specs.Spells.{weight, Configured}
use Rattle.table.specs.Reading.{height}
use Rattle.table.specs.Inside.Ranks.{rank}
use Rattle.table.specs.Inside.Levels.{Level, denied, and_first, or_first, and_second, or_second, digit, levelled, closing}
use Rattle.table.specs.Inside.Levels.{Standing, ToCome, Open, Left, Next, sat_rank, Closes, unsettled}
use Rattle.table.proofs.ByParts.{written, some_record, rank_not, rank_and, rank_or, rank_most}

-- ONE WORD SUFFICES
some_level : (d : Config) → 1 ≤ height d
unfolding height
some_level (Event s) = omega arith
some_level (Not d) = omega arith
some_level (And d e) = omega arith
some_level (Or d e) = omega arith

few_digits : (k : ℕ) (o : List Level) → length o ≤ k → levelled o < 3 * 16 ^ k
unfolding levelled
few_digits k [] h = omega (arith, positive k)
  where
    positive : (k : ℕ) → 1 ≤ 16 ^ k
    positive zero = omega arith
    positive (suc k) = omega (arith, positive k, pow-suc 16 k)
few_digits zero (l ∷ o) h = absurd (omega arith)
few_digits (suc k) (l ∷ o) h = omega (arith, few_digits k o (omega arith), pow-suc 16 k, small l)
  where
    small : (l : Level) → digit l ≤ 5
    small denied = omega arith
    small (and_first d) = omega arith
    small (or_first d) = omega arith
    small and_second = omega arith
    small or_second = omega arith

-- with at most 16 levels in all, one word of 64 bits holds those open around a configuration
pub one_word : (d : Config) (o : List Level) → height d + length o ≤ 16 → levelled o < 2 ^ 64
one_word d o h = omega (arith, some_level d, few_digits 15 o (omega (arith, some_level d)))

pub levelled_least : (o : List Level) → 2 ≤ levelled o
unfolding levelled
levelled_least [] = omega arith
levelled_least (l ∷ o) = omega (arith, levelled_least o)

pub none_open : (o : List Level) → levelled o ≤ 2 → o ≡ []
unfolding levelled
none_open [] h = refl
none_open (l ∷ o) h = absurd (omega (arith, levelled_least o))

-- the innermost level, by its digit
pub data Top : ℕ → ℕ → List Level → Type 0 where
  a_not : (o : List Level) → Top 1 (levelled o) (denied ∷ o)
  an_and : (d : Config) (o : List Level) → Top 2 (levelled o) (and_first d ∷ o)
  an_or : (d : Config) (o : List Level) → Top 3 (levelled o) (or_first d ∷ o)
  half_and : (o : List Level) → Top 4 (levelled o) (and_second ∷ o)
  half_or : (o : List Level) → Top 5 (levelled o) (or_second ∷ o)

pub top : {n : ℕ} (o : List Level) → n ≡ levelled o → 2 < n → Top (n % 16) (n / 16) o
unfolding levelled
top {n} [] e h = absurd (omega arith)
top {n} (denied ∷ o) e h = let a : n % 16 ≡ 1 = omega arith in let b : n / 16 ≡ levelled o = omega arith in rw (a, b) (a_not o)
top {n} (and_first d ∷ o) e h = let a : n % 16 ≡ 2 = omega arith in let b : n / 16 ≡ levelled o = omega arith in rw (a, b) (an_and d o)
top {n} (or_first d ∷ o) e h = let a : n % 16 ≡ 3 = omega arith in let b : n / 16 ≡ levelled o = omega arith in rw (a, b) (an_or d o)
top {n} (and_second ∷ o) e h = let a : n % 16 ≡ 4 = omega arith in let b : n / 16 ≡ levelled o = omega arith in rw (a, b) (half_and o)
top {n} (or_second ∷ o) e h = let a : n % 16 ≡ 5 = omega arith in let b : n / 16 ≡ levelled o = omega arith in rw (a, b) (half_or o)

pub top_least : {k m : ℕ} {o : List Level} → Top k m o → (k ≡ 1 → ⊥) → 2 ≤ k
top_least (a_not o) n = absurd (n refl)
top_least (an_and d o) n = omega arith
top_least (an_or d o) n = omega arith
top_least (half_and o) n = omega arith
top_least (half_or o) n = omega arith

pub top_most : {k m : ℕ} {o : List Level} → Top k m o → k ≤ 5
top_most (a_not o) = omega arith
top_most (an_and d o) = omega arith
top_most (an_or d o) = omega arith
top_most (half_and o) = omega arith
top_most (half_or o) = omega arith

-- A PART IS READ
-- a record that is no event opens a level, and its first part is next
pub record Down (t : List ℕ) (c n : ℕ) (d : Config) (o : List Level) (k : ℕ) : Type 0 where
  pub part : Config
  pub still : List Level
  pub stands : Standing t (c + 4) part still
  pub opened : Open t (c + 4 + 4 * weight part) (16 * n + k) still
  pub same : (E : Env) → closing E o (rank (test d E)) ≡ closing E still (rank (test part E))

module _ {t : List ℕ} {c n : ℕ} {o : List Level} where
  pub down : (d : Config) (k : ℕ) → Standing t c d o → Open t (c + 4 * weight d) n o → part_kind t c ≡ k → (k ≡ 0 → ⊥) → Down t c n d o k
  unfolding Configured weight height levelled closing ToCome
  down (Event s) k h p e z = absurd (z (sym e ∙ h.configured.0))
  down (Not d) k h p e z =
      let i = h.inside in
      let l = h.low in
      let q = p.number in
      let same : k ≡ 1 = sym e ∙ h.configured.0 in
      let here : c + 4 + 4 * weight d ≡ c + 4 * (1 + weight d) = omega arith in
      record {
        part = d;
        still = denied ∷ o;
        stands = record { configured = h.configured.2; inside = omega arith; low = omega arith };
        opened = record { number = omega arith; to_come = rw here p.to_come };
        same = λ E. rw (test_not d E) (ap (closing E o) (sym (rank_not (test d E))));
      }
  down (And d f) k h p e z =
      let i = h.inside in
      let l = h.low in
      let q = p.number in
      let same : k ≡ 2 = sym e ∙ h.configured.0 in
      let w = written t (c + 4) d h.configured.2 in
      let here : second_part t c ≡ c + 4 + 4 * weight d = omega arith in
      let end : c + 4 + 4 * weight d + 4 * weight f ≡ c + 4 * (1 + weight d + weight f) = omega arith in
      record {
        part = d;
        still = and_first f ∷ o;
        stands = record { configured = h.configured.2; inside = omega arith; low = omega arith };
        opened = record {
          number = omega arith;
          to_come = (
            record { configured = rw here at h.configured.3; inside = omega arith; low = omega arith },
            rw end p.to_come,
          );
        };
        same = λ E. rw (test_and d f E) (ap (closing E o) (sym (rank_and (test d E) (test f E))));
      }
  down (Or d f) k h p e z =
      let i = h.inside in
      let l = h.low in
      let q = p.number in
      let same : k ≡ 3 = sym e ∙ h.configured.0 in
      let w = written t (c + 4) d h.configured.2 in
      let here : second_part t c ≡ c + 4 + 4 * weight d = omega arith in
      let end : c + 4 + 4 * weight d + 4 * weight f ≡ c + 4 * (1 + weight d + weight f) = omega arith in
      record {
        part = d;
        still = or_first f ∷ o;
        stands = record { configured = h.configured.2; inside = omega arith; low = omega arith };
        opened = record {
          number = omega arith;
          to_come = (
            record { configured = rw here at h.configured.3; inside = omega arith; low = omega arith },
            rw end p.to_come,
          );
        };
        same = λ E. rw (test_or d f E) (ap (closing E o) (sym (rank_or (test d E) (test f E))));
      }

  -- behind an event
  pub behind_event : (d : Config) → Standing t c d o → Open t (c + 4 * weight d) n o → part_kind t c ≡ 0 → Open t (c + 4) n o
  unfolding Configured weight
  behind_event (Event s) h p e = p
  behind_event (Not d) h p e = let z : ◌≡◌ {A = ℕ} 0 1 = sym e ∙ h.configured.0 in absurd (omega arith)
  behind_event (And d f) h p e = let z : ◌≡◌ {A = ℕ} 0 2 = sym e ∙ h.configured.0 in absurd (omega arith)
  behind_event (Or d f) h p e = let z : ◌≡◌ {A = ℕ} 0 3 = sym e ∙ h.configured.0 in absurd (omega arith)

-- the second part stands within the table
pub record Inside (t : List ℕ) (c : ℕ) : Type 0 where
  pub own : c + 4 ≤ length t
  pub whole : c + 4 * part_size t c ≤ length t

pub second_inside : (t : List ℕ) (c : ℕ) {o : List Level} {k m : ℕ} → Top k m o → (k ≡ 1 → ⊥) → k < 4 → ToCome t c o → Inside t c
unfolding ToCome
second_inside t c (a_not o) n l p = absurd (n refl)
second_inside t c (an_and f o) n l p =
    let w = written t c f p.0.configured in
    let i = p.0.inside in
    record { own = omega (arith, some_record f); whole = omega arith }
second_inside t c (an_or f o) n l p =
    let w = written t c f p.0.configured in
    let i = p.0.inside in
    record { own = omega (arith, some_record f); whole = omega arith }
second_inside t c (half_and o) n l p = absurd (omega arith)
second_inside t c (half_or o) n l p = absurd (omega arith)

-- A LEVEL IS CLOSED BY A DECIDED PART
module _ {t : List ℕ} {c : ℕ} where
  -- the levels o' are left
  left_open : {o : List Level} {r r' : ℕ} (o' : List Level) {c' : ℕ} → ToCome t c' o' → c ≤ c'
      → ((E : Env) → closing E o r ≡ closing E o' r') → Left t c o r c' (levelled o') r'
  left_open o' p l s = record { still = o'; opened = record { number = refl; to_come = p }; same = s; onward = l }

  pub closes_not : {o : List Level} {k m : ℕ} (b : Bool) → Top k m o → k ≡ 1 → ToCome t c o
      → Left t c o (sat_rank b) c m (sat_rank (not b))
  unfolding closing ToCome
  closes_not b v e p = go b (rw e at v) p
    where
      go : {o : List Level} {m : ℕ} (b : Bool) → Top 1 m o → ToCome t c o → Left t c o (sat_rank b) c m (sat_rank (not b))
      go true (a_not o) p = left_open o p (omega arith) (λ E. refl)
      go false (a_not o) p = left_open o p (omega arith) (λ E. refl)

  -- the first part decides: the second is passed over
  pub closes_decided : {o : List Level} {k m : ℕ} (b : Bool) → Top k m o → (k ≡ 1 → ⊥) → k < 4 → beq b (eqb (k % 2) 1) ≡ true → ToCome t c o
      → Left t c o (sat_rank b) (c + 4 * part_size t c) m (sat_rank b)
  unfolding closing ToCome
  closes_decided b (a_not o) n l e p = absurd (n refl)
  closes_decided true (an_and f o) n l e p = absurd (false≢true e)
  closes_decided false (an_and f o) n l e p =
      let w = written t c f p.0.configured in
      let next : c + 4 * part_size t c ≡ c + 4 * weight f = omega arith in
      rw next (left_open o p.1 (omega arith) (λ E. ap (closing E o) (omega arith)))
  closes_decided true (an_or f o) n l e p =
      let w = written t c f p.0.configured in
      let next : c + 4 * part_size t c ≡ c + 4 * weight f = omega arith in
      rw next (left_open o p.1 (omega arith) (λ E. ap (closing E o) (omega (arith, rank_most (test f E)))))
  closes_decided false (an_or f o) n l e p = absurd (false≢true e)
  closes_decided b (half_and o) n l e p = absurd (omega arith)
  closes_decided b (half_or o) n l e p = absurd (omega arith)

  -- what stands there is to be read next, and it alone decides
  alone_next : {o : List Level} {r : ℕ} (f : Config) {l : Level} (o' : List Level) → Standing t c f (l ∷ o') → ToCome t (c + 4 * weight f) o'
      → ((E : Env) → closing E o r ≡ closing E o' (rank (test f E))) → Next t c o r c (levelled o')
  alone_next f o' h p s =
      let low = h.low in
      record {
        part = f;
        still = o';
        stands = record { configured = h.configured; inside = h.inside; low = omega arith };
        opened = record { number = refl; to_come = p };
        same = s;
        onward = omega arith;
      }

  pub closes_to_second : {o : List Level} {k m : ℕ} (b : Bool) → Top k m o → (k ≡ 1 → ⊥) → k < 4 → beq b (eqb (k % 2) 1) ≡ false → ToCome t c o
      → Next t c o (sat_rank b) c m
  unfolding closing ToCome
  closes_to_second b (a_not o) n l e p = absurd (n refl)
  closes_to_second false (an_and f o) n l e p = absurd (false≢true (sym e))
  closes_to_second true (an_and f o) n l e p = alone_next f o p.0 p.1 (λ E. ap (closing E o) (omega (arith, rank_most (test f E))))
  closes_to_second false (an_or f o) n l e p = alone_next f o p.0 p.1 (λ E. ap (closing E o) (omega arith))
  closes_to_second true (an_or f o) n l e p = absurd (false≢true (sym e))
  closes_to_second b (half_and o) n l e p = absurd (omega arith)
  closes_to_second b (half_or o) n l e p = absurd (omega arith)

  -- the second part doesn't decide: unknown, as the first was
  pub closes_unknown : {o : List Level} {k m : ℕ} (b : Bool) → Top k m o → 4 ≤ k → not (beq b (eqb (k % 2) 1)) ≡ true → ToCome t c o
      → Left t c o (sat_rank b) c m 1
  unfolding closing ToCome
  closes_unknown b (a_not o) n e p = absurd (omega arith)
  closes_unknown b (an_and f o) n e p = absurd (omega arith)
  closes_unknown b (an_or f o) n e p = absurd (omega arith)
  closes_unknown true (half_and o) n e p = left_open o p (omega arith) (λ E. refl)
  closes_unknown false (half_and o) n e p = absurd (false≢true e)
  closes_unknown true (half_or o) n e p = absurd (false≢true e)
  closes_unknown false (half_or o) n e p = left_open o p (omega arith) (λ E. refl)

  pub closes_second : {o : List Level} {k m : ℕ} (b : Bool) → Top k m o → 4 ≤ k → not (beq b (eqb (k % 2) 1)) ≡ false → ToCome t c o
      → Left t c o (sat_rank b) c m (sat_rank b)
  unfolding closing ToCome
  closes_second b (a_not o) n e p = absurd (omega arith)
  closes_second b (an_and f o) n e p = absurd (omega arith)
  closes_second b (an_or f o) n e p = absurd (omega arith)
  closes_second true (half_and o) n e p = absurd (false≢true (sym e))
  closes_second false (half_and o) n e p = left_open o p (omega arith) (λ E. refl)
  closes_second true (half_or o) n e p = left_open o p (omega arith) (λ E. refl)
  closes_second false (half_or o) n e p = absurd (false≢true (sym e))

-- SEVERAL LEVELS
module _ {t : List ℕ} {c c' n' r r' : ℕ} {o : List Level} (a : Left t c o r c' n' r') where
  pub left_left : {c'' n'' r'' : ℕ} → Left t c' a.still r' c'' n'' r'' → Left t c o r c'' n'' r''
  left_left b =
      record {
        still = b.still;
        opened = b.opened;
        same = λ E. a.same E ∙ b.same E;
        onward = omega (arith, a.onward, b.onward);
      }

  pub left_next : {c'' n'' : ℕ} → Next t c' a.still r' c'' n'' → Next t c o r c'' n''
  left_next b =
      record {
        part = b.part;
        still = b.still;
        stands = b.stands;
        opened = b.opened;
        same = λ E. a.same E ∙ b.same E;
        onward = omega (arith, a.onward, b.onward);
      }

  -- no level is left
  pub left_none : n' ≤ 2 → (E : Env) → closing E o r ≡ r'
  unfolding closing
  left_none h E =
      let none = none_open a.still (omega (arith, a.opened.number)) in
      a.same E ∙ ap (λ (x : List Level). closing E x r') none

  pub then_closes : (x : ControlFlow Verdict Place) → Closes t c' a.still r' x → Closes t c o r x
  then_closes (Break v) k = λ E. a.same E ∙ k E
  then_closes (Continue p) k = left_next k

pub none_closed : {t : List ℕ} {c n : ℕ} {o : List Level} (r : ℕ) → Open t c n o → Left t c o r c n r
none_closed {o = o} r h = record { still = o; opened = h; same = λ E. refl; onward = omega arith }

-- AN UNKNOWN PART
pub unsettled_same : (E : Env) (o : List Level) → closing E o 1 ≡ closing E (unsettled o) 1
unfolding closing unsettled
unsettled_same E [] = refl
unsettled_same E (denied ∷ o) = unsettled_same E o
unsettled_same E (and_first d ∷ o) = refl
unsettled_same E (or_first d ∷ o) = refl
unsettled_same E (and_second ∷ o) = unsettled_same E o
unsettled_same E (or_second ∷ o) = unsettled_same E o

unsettled_to_come : (t : List ℕ) (c : ℕ) (o : List Level) → ToCome t c o → ToCome t c (unsettled o)
unfolding ToCome unsettled
unsettled_to_come t c [] p = p
unsettled_to_come t c (denied ∷ o) p = unsettled_to_come t c o p
unsettled_to_come t c (and_first d ∷ o) p = p
unsettled_to_come t c (or_first d ∷ o) p = p
unsettled_to_come t c (and_second ∷ o) p = unsettled_to_come t c o p
unsettled_to_come t c (or_second ∷ o) p = unsettled_to_come t c o p

pub unsettled_digit : (o : List Level) → levelled (unsettled o) % 16 ≤ 3
unfolding levelled unsettled
unsettled_digit [] = omega arith
unsettled_digit (denied ∷ o) = unsettled_digit o
unsettled_digit (and_first d ∷ o) = omega arith
unsettled_digit (or_first d ∷ o) = omega arith
unsettled_digit (and_second ∷ o) = unsettled_digit o
unsettled_digit (or_second ∷ o) = unsettled_digit o

-- the levels n, of those from which an unknown part leaves u
pub record Leaves (n : ℕ) (u : List Level) : Type 0 where
  pub still : List Level
  pub number : n ≡ levelled still
  pub leaves : unsettled still ≡ u

pub leaves_first : {n : ℕ} (o : List Level) → n ≡ levelled o → Leaves n (unsettled o)
leaves_first o e = record { still = o; number = e; leaves = refl }

pub leaves_fewer : {n : ℕ} {u : List Level} → Leaves n u → n % 4 < 2 → Leaves (n / 16) u
unfolding levelled unsettled
leaves_fewer {n} {u} a h = go a.still a.number a.leaves
  where
    go : (o : List Level) → n ≡ levelled o → unsettled o ≡ u → Leaves (n / 16) u
    go [] e f = absurd (omega arith)
    go (denied ∷ o) e f = record { still = o; number = omega arith; leaves = f }
    go (and_first d ∷ o) e f = absurd (omega arith)
    go (or_first d ∷ o) e f = absurd (omega arith)
    go (and_second ∷ o) e f = record { still = o; number = omega arith; leaves = f }
    go (or_second ∷ o) e f = record { still = o; number = omega arith; leaves = f }

pub leaves_last : {n : ℕ} {u : List Level} → Leaves n u → 2 ≤ n % 4 → n ≡ levelled u
unfolding levelled unsettled
leaves_last {n} {u} a h = go a.still a.number a.leaves
  where
    go : (o : List Level) → n ≡ levelled o → unsettled o ≡ u → n ≡ levelled u
    go [] e f = e ∙ ap levelled f
    go (denied ∷ o) e f = absurd (omega arith)
    go (and_first d ∷ o) e f = e ∙ ap levelled f
    go (or_first d ∷ o) e f = e ∙ ap levelled f
    go (and_second ∷ o) e f = absurd (omega arith)
    go (or_second ∷ o) e f = absurd (omega arith)

-- the levels left are none, or a second part is next
pub unknown_all : {t : List ℕ} {c n m : ℕ} {o : List Level} → Open t c n o → m ≡ levelled (unsettled o) → m ≡ 2 → (E : Env)
    → closing E o 1 ≡ 1
unfolding closing
unknown_all {o = o} h e z E =
    let none = none_open (unsettled o) (omega arith) in
    unsettled_same E o ∙ ap (λ (x : List Level). closing E x 1) none

-- the innermost level left, if there is one, waits for its second part
data Waiting : List Level → Type 0 where
  for_none : Waiting []
  for_and : (d : Config) (o : List Level) → Waiting (and_first d ∷ o)
  for_or : (d : Config) (o : List Level) → Waiting (or_first d ∷ o)

waiting : (o : List Level) → Waiting (unsettled o)
unfolding unsettled
waiting [] = for_none
waiting (denied ∷ o) = waiting o
waiting (and_first d ∷ o) = for_and d o
waiting (or_first d ∷ o) = for_or d o
waiting (and_second ∷ o) = waiting o
waiting (or_second ∷ o) = waiting o

pub unknown_next : {t : List ℕ} {c n m : ℕ} {o : List Level} → Open t c n o → m ≡ levelled (unsettled o) → (m ≡ 2 → ⊥)
    → Next t c o 1 c (m + 2)
unfolding closing ToCome levelled
unknown_next {t} {c} {n} {m} {o} h e z = go (waiting o) e (unsettled_to_come t c o h.to_come) (λ E. unsettled_same E o)
  where
    go : {u : List Level} → Waiting u → m ≡ levelled u → ToCome t c u → ((E : Env) → closing E o 1 ≡ closing E u 1) → Next t c o 1 c (m + 2)
    go for_none e p s = absurd (z e)
    go (for_and d u) e p s =
        record {
          part = d;
          still = and_second ∷ u;
          stands = p.0;
          opened = record { number = omega arith; to_come = p.1 };
          same = s;
          onward = omega arith;
        }
    go (for_or d u) e p s =
        record {
          part = d;
          still = or_second ∷ u;
          stands = p.0;
          opened = record { number = omega arith; to_come = p.1 };
          same = s;
          onward = omega arith;
        }
