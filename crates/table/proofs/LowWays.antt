-- Looking whether a configuration's height is at most 16, its records one after another: what is still to come along the way to the record at
-- hand, with that record, decides the whole.
use Prim.Native.Nat.{ℕ, zero, suc, ◌+◌, ◌-◌, ◌*◌, ◌^◌, ◌≤◌, ◌<◌}
use mathlib.Core.Bool.{Bool, true, false, cond, ◌&&◌}
use mathlib.Core.Path.{◌≡◌, refl, sym, ap, ◌∙◌}
use mathlib.Core.List.{List, [], ◌∷◌}
use native.Mathlib.Omega.{arith}
use native.Mathlib.Nat.{pow-suc}
use lib.ListN.{length}
use Rattle.table.specs.Records.{configurations, part_kind, part_size}
use Rattle.table.specs.Good.{parts, good_but_height, good_parts, height_at_most}
use Rattle.table.specs.Inside.{Begins}
use Rattle.table.specs.Inside.Ways.{Way, outward, numbered}
use Rattle.table.proofs.Laid.{Laid, none, one, two, fine, size_of, kind_of}
use Rattle.table.proofs.OwnBytes.{first_at}
use Rattle.table.proofs.Heights.{height_good, few_parts, low_step}
use Rattle.table.proofs.WayNumbers.{numbered_pos, numbered_short, outward_less}

and_true : (a : Bool) → (a && true) ≡ a
and_true true = refl
and_true false = refl

and_assoc : (a b d : Bool) → ((a && b) && d) ≡ (a && (b && d))
and_assoc true b d = refl
and_assoc false b d = refl

neither : (p : ℕ) → (p ≡ 0 → ⊥) → good_parts p false false ≡ false
neither zero n = absurd (n refl)
neither (suc zero) n = refl
neither (suc (suc p)) n = refl

numbered_long : (h : ℕ) (w : Way) → 2 ^ h ≤ numbered w → h ≤ length w
unfolding numbered
numbered_long zero w l = omega arith
numbered_long (suc h) [] l = absurd (omega (arith, pow-suc 2 h, positive h))
  where
    positive : (k : ℕ) → 1 ≤ 2 ^ k
    positive zero = omega arith
    positive (suc k) = omega (arith, positive k, pow-suc 2 k)
numbered_long (suc h) (false ∷ w) l = let k = numbered_long h w (omega (arith, pow-suc 2 h)) in omega arith
numbered_long (suc h) (true ∷ w) l = let k = numbered_long h w (omega (arith, pow-suc 2 h)) in omega arith

outward_fewer : (w : Way) → (numbered (outward w) ≡ 1 → ⊥) → numbered (outward w) < numbered w
unfolding numbered outward
outward_fewer [] n = absurd (n refl)
outward_fewer (false ∷ w) n = omega (arith, outward_fewer w n, numbered_pos w)
outward_fewer (true ∷ w) n = omega arith

-- the second parts to come from record j on are there; and whether each is low enough
abbrev Come : List ℕ → ℕ → Way → Type 0
Come t j [] = Unit {0}
Come t j (false ∷ w) = Come t j w
Come t j (true ∷ w) = (j < configurations t) × Come t (j + size_of t j) w

abbrev low_to_come : List ℕ → ℕ → Way → Bool
low_to_come t j [] = true
low_to_come t j (false ∷ w) = low_to_come t j w
low_to_come t j (true ∷ w) = height_at_most t (15 - length w) j && low_to_come t (j + size_of t j) w

-- the way to the record at byte c, of that number, in configuration i
pub record Looking (t : List ℕ) (i c way : ℕ) : Type 0 where
  pub index : ℕ
  pub steps : Way
  pub begins : Begins t c index
  pub number : way ≡ numbered steps
  pub short : way < 65536
  pub to_come : Come t (index + size_of t index) steps
  pub same : height_at_most t 16 i ≡ (height_at_most t (16 - length steps) index && low_to_come t (index + size_of t index) steps)

pub look_first : {t : List ℕ} {c i : ℕ} → Begins t c i → Looking t i c 1
unfolding numbered
look_first {t} {c} {i} b =
    record {
      index = i;
      steps = [];
      begins = b;
      number = refl;
      short = omega arith;
      to_come = tt;
      same = sym (and_true (height_at_most t 16 i));
    }

-- behind a record that is no good one of more parts
data Behind (t : List ℕ) (j : ℕ) (w : Way) : Way → Type 0 where
  ends : low_to_come t j w ≡ true → Behind t j w []
  goes : (v : Way) → j < configurations t → Come t (j + size_of t j) v
      → low_to_come t j w ≡ (height_at_most t (15 - length v) j && low_to_come t (j + size_of t j) v) → Behind t j w (false ∷ v)

behind : (t : List ℕ) (j : ℕ) (w : Way) → Come t j w → Behind t j w (outward w)
unfolding outward
behind t j [] h = ends refl
behind t j (false ∷ w) h = go (behind t j w h)
  where
    go : {v : Way} → Behind t j w v → Behind t j (false ∷ w) v
    go (ends e) = ends e
    go (goes v l k e) = goes v l k e
behind t j (true ∷ w) h = goes w h.0 h.1 refl

module _ {t : List ℕ} {i c way : ℕ} (h : Looking t i c way) where
  few_steps : length h.steps < 16
  few_steps = numbered_short 16 h.steps (rw h.number at h.short)

  pub way_least : 1 ≤ way
  way_least = omega (arith, h.number, numbered_pos h.steps)

  pub own_inside : c + 4 ≤ length t
  own_inside = omega (arith, h.begins.at, h.begins.among, h.begins.long)

  -- a lone event, or a record that is bad for another reason
  module _ (p : ℕ) (is : p ≡ cond (good_but_height t h.index) (parts (part_kind t c)) 0) where
    module _ (lone : p ≡ 0) where
      rest_decides : height_at_most t 16 i ≡ low_to_come t (h.index + size_of t h.index) h.steps
      rest_decides =
          let step = low_step t c h.index (16 - length h.steps) p h.begins is (λ e. omega (arith, few_steps, e)) in
          let low : height_at_most t (16 - length h.steps) h.index ≡ true = rw lone at step in
          h.same ∙ ap (λ (b : Bool). b && low_to_come t (h.index + size_of t h.index) h.steps) low

      pub look_end : (u : ℕ) → u ≡ numbered (outward h.steps) → u ≡ 1 → true ≡ height_at_most t 16 i
      unfolding numbered
      look_end u e z = go (behind t _ h.steps h.to_come) (sym e ∙ z)
        where
          go : {v : Way} → Behind t (h.index + size_of t h.index) h.steps v → numbered v ≡ 1 → true ≡ height_at_most t 16 i
          go (ends x) z = sym (rest_decides ∙ x)
          go (goes v l k x) z = absurd (omega (arith, z, numbered_pos v))

      pub look_on : (u : ℕ) → u ≡ numbered (outward h.steps) → (u ≡ 1 → ⊥) → Looking t i (c + 4 * part_size t c) u
      unfolding numbered
      look_on u e n = go (behind t _ h.steps h.to_come) e
        where
          go : {v : Way} → Behind t (h.index + size_of t h.index) h.steps v → u ≡ numbered v → Looking t i (c + 4 * part_size t c) u
          go (ends x) e' = absurd (n e')
          go (goes v l k x) e' =
              let own = ap (part_size t) h.begins.at in
              let at = h.begins.at in
              let fewer : 16 - suc (length v) ≡ 15 - length v = omega arith in
              record {
                index = h.index + size_of t h.index;
                steps = false ∷ v;
                begins = record { at = omega arith; among = l; long = h.begins.long };
                number = e';
                short = omega (arith, e, h.number, h.short, outward_less h.steps);
                to_come = k;
                same = rw fewer (rest_decides ∙ x);
              }

      pub look_less : (u : ℕ) → u ≡ numbered (outward h.steps) → (u ≡ 1 → ⊥) → u < way
      look_less u e n = omega (arith, e, h.number, outward_fewer h.steps (λ z. n (e ∙ z)))

    module _ (some : p ≡ 0 → ⊥) where
      good : good_but_height t h.index ≡ true
      good = go (good_but_height t h.index) refl
        where
          go : (g : Bool) → good_but_height t h.index ≡ g → good_but_height t h.index ≡ true
          go true g = g
          go false g = absurd (some (rw g at is))

      parts_are : parts (kind_of t h.index) ≡ p
      parts_are = sym (rw (good, h.begins.at) at is)

      laid_out : Laid (size_of t) (configurations t) h.index p
      laid_out = rw parts_are at (fine t h.index _ refl good).laid_out

      left : 16 - length h.steps ≡ suc (15 - length h.steps)
      left = omega (arith, few_steps)

      by_parts : height_at_most t (16 - length h.steps) h.index
          ≡ good_parts p (height_at_most t (15 - length h.steps) (h.index + 1))
          (height_at_most t (15 - length h.steps) (h.index + 1 + size_of t (h.index + 1)))
      by_parts = rw left (height_good t (15 - length h.steps) h.index p good parts_are)

      -- the first part is next
      pub look_down : 2 * way + (p - 1) < 65536 → Looking t i (c + 4) (2 * way + (p - 1))
      unfolding numbered
      look_down s = go laid_out refl (few_parts h.begins is) by_parts
        where
          go : {q : ℕ} → Laid (size_of t) (configurations t) h.index q → p ≡ q → p ≤ 2
              → height_at_most t (16 - length h.steps) h.index
              ≡ good_parts q (height_at_most t (15 - length h.steps) (h.index + 1))
              (height_at_most t (15 - length h.steps) (h.index + 1 + size_of t (h.index + 1)))
              → Looking t i (c + 4) (2 * way + (p - 1))
          go (none z) e l b = absurd (some e)
          go (one f z) e l b =
              let first = h.index + 1 in
              let end : first + size_of t first ≡ h.index + size_of t h.index = omega arith in
              let fewer : 16 - suc (length h.steps) ≡ 15 - length h.steps = omega arith in
              record {
                index = first;
                steps = false ∷ h.steps;
                begins = record { at = first_at t c h.index h.begins.at; among = f; long = h.begins.long };
                number = omega (arith, e, h.number);
                short = s;
                to_come = rw end h.to_come;
                same = rw (end, fewer) (h.same ∙ ap (λ (x : Bool). x && low_to_come t (h.index + size_of t h.index) h.steps) b);
              }
          go (two {more} f m z) e l b =
              let first = h.index + 1 in
              let second = first + size_of t first in
              let end : second + size_of t second ≡ h.index + size_of t h.index = omega arith in
              let fewer : 16 - suc (length h.steps) ≡ 15 - length h.steps = omega arith in
              record {
                index = first;
                steps = true ∷ h.steps;
                begins = record { at = first_at t c h.index h.begins.at; among = f; long = h.begins.long };
                number = omega (arith, e, l, h.number);
                short = s;
                to_come = (m, rw end h.to_come);
                same = rw (end, fewer)
                    (h.same
                    ∙ (ap (λ (x : Bool). x && low_to_come t (h.index + size_of t h.index) h.steps) b
                    ∙ and_assoc (height_at_most t (15 - length h.steps) first) (height_at_most t (15 - length h.steps) second) _));
              }

      -- it would be on the 17th level
      pub look_high : 65536 ≤ 2 * way + (p - 1) → false ≡ height_at_most t 16 i
      unfolding height_at_most
      look_high l =
          let deep : 15 ≤ length h.steps = numbered_long 15 h.steps (omega (arith, l, h.number, few_parts h.begins is)) in
          let no_level : 15 - length h.steps ≡ 0 = omega arith in
          let none_low = rw no_level at by_parts in
          sym (h.same ∙ ap (λ (x : Bool). x && low_to_come t (h.index + size_of t h.index) h.steps) (none_low ∙ neither p some))
