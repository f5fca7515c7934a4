-- Good configurations spell: the whole of each is there within 16 levels and inside the table, and nothing else is spelled there.
use Prim.Native.Nat.{ℕ, zero, suc, ◌+◌, ◌≤◌, ◌<◌}
use mathlib.Core.Bool.{true, ◌&&◌, false≢true}
use mathlib.Core.Path.{◌≡◌, refl, sym, ap, ap₂, ◌∙◌}
use mathlib.Core.List.{List}
use native.Mathlib.Omega.{arith}
use Rattle.junior.specs.Configuration.{Config, Event, Not, And, Or}
use Rattle.table.specs.Records.{configurations, configuration_at, part_kind, part_size, second_part}
use Rattle.table.specs.Good.{parts, good_but_height, good_parts, height_at_most, good_configuration}
use Rattle.table.specs.Spells.{weight, Configured, configuration_of}
use Rattle.table.specs.Reading.{height, ConfigurationAt}
use Rattle.table.specs.Inside.{Framed, ConfigurationsGood}
use Rattle.table.proofs.Laid.{both, Laid, none, one, two, Kind, event, negation, conjunction, disjunction}
use Rattle.table.proofs.Laid.{fine}
use Rattle.table.proofs.Laid.{size_of, kind_of}
use Rattle.table.proofs.OwnBytes.{first_at, second_at}
use Rattle.table.proofs.Heights.{height_good}

-- configuration j, at byte c, is there within h levels
record Found (t : List ℕ) (h c j : ℕ) : Type 0 where
  configured : Configured t c (configuration_of t h c)
  weighs : weight (configuration_of t h c) ≡ part_size t c
  ends : j + part_size t c ≤ configurations t
  low : height (configuration_of t h c) ≤ h

-- the same of all configurations
abbrev Below : List ℕ → ℕ → Type 0
Below t h = (c j : ℕ) → c ≡ configuration_at t j → j < configurations t → height_at_most t h j ≡ true → Found t h c j

-- both parts of an and or an or are there, and its size is theirs
record Both (t : List ℕ) (h c j : ℕ) : Type 0 where
  first : Configured t (c + 4) (configuration_of t h (c + 4))
  second : Configured t (second_part t c) (configuration_of t h (second_part t c))
  size : part_size t c ≡ 1 + weight (configuration_of t h (c + 4)) + weight (configuration_of t h (second_part t c))
  ends : j + part_size t c ≤ configurations t
  first_low : height (configuration_of t h (c + 4)) ≤ h
  second_low : height (configuration_of t h (second_part t c)) ≤ h

both_found : (t : List ℕ) (h c j p : ℕ) → c ≡ configuration_at t j → Laid (size_of t) (configurations t) j (suc (suc p))
    → (height_at_most t h (j + 1) && height_at_most t h (j + 1 + size_of t (j + 1))) ≡ true → Below t h → Both t h c j
both_found t h c j p e (two i m s) low below =
    let k = both {a = height_at_most t h (j + 1)} low in
    let f = below (c + 4) (j + 1) (first_at t c j e) i k.0 in
    let g = below (second_part t c) (j + 1 + size_of t (j + 1)) (second_at t c j e) m k.1 in
    let one = ap (part_size t) (first_at t c j e) in
    let two = ap (part_size t) (second_at t c j e) in
    let all : part_size t c ≡ 1 + part_size t (c + 4) + part_size t (second_part t c) = cc in
    let a = f.weighs in
    let b = g.weighs in
    let z = g.ends in
    record {
      first = f.configured;
      second = g.configured;
      size = omega arith;
      ends = omega arith;
      first_low = f.low;
      second_low = g.low;
    }

found_at : (t : List ℕ) (h c j k : ℕ) → c ≡ configuration_at t j → j < configurations t → part_kind t c ≡ k → Kind k
    → Laid (size_of t) (configurations t) j (parts k)
    → good_parts (parts k) (height_at_most t h (j + 1)) (height_at_most t h (j + 1 + size_of t (j + 1))) ≡ true → Below t h
    → Found t (suc h) c j
unfolding parts configuration_of Configured weight height
found_at t h c j k e l d event (none s) low below =
    let size : part_size t c ≡ 1 = ap (part_size t) e ∙ s in
    record { configured = rw d (d, size, refl); weighs = rw d (sym size); ends = omega arith; low = rw d (omega arith) }
found_at t h c j k e l d negation (one i s) low below =
    let f = first_at t c j e in
    let first = below (c + 4) (j + 1) f i low in
    let size : part_size t c ≡ 1 + part_size t (c + 4) = ap (part_size t) e ∙ (s ∙ ap (λ (x : ℕ). 1 + part_size t x) (sym f)) in
    let a = first.weighs in
    let b = first.ends in
    let g = first.low in
    record {
      configured = rw d (d, omega arith, first.configured);
      weighs = rw d (omega arith);
      ends = omega arith;
      low = rw d (omega arith);
    }
found_at t h c j k e l d conjunction parts low below =
    let o = both_found t h c j 0 e parts low below in
    let a = o.first_low in
    let b = o.second_low in
    record {
      configured = rw d (d, o.size, o.first, o.second);
      weighs = rw d (sym o.size);
      ends = o.ends;
      low = rw d (omega arith);
    }
found_at t h c j k e l d disjunction parts low below =
    let o = both_found t h c j 0 e parts low below in
    let a = o.first_low in
    let b = o.second_low in
    record {
      configured = rw d (d, o.size, o.first, o.second);
      weighs = rw d (sym o.size);
      ends = o.ends;
      low = rw d (omega arith);
    }

module _ (t : List ℕ) (good : ConfigurationsGood t) where
  pub own_good_lem : (j : ℕ) → j < configurations t → (good_but_height t j ≡ true) × (height_at_most t 16 j ≡ true)
  unfolding good_configuration
  own_good_lem j l = both {a = good_but_height t j} (good j l)

  found : (h : ℕ) → Below t h
  unfolding height_at_most
  found zero c j e l low = absurd (false≢true low)
  found (suc h) c j e l low =
      let g = (own_good_lem j l).0 in
      let f = fine t j (kind_of t j) refl g in
      found_at t h c j (kind_of t j) e l (ap (part_kind t) e) f.kind f.laid_out (sym (height_good t h j _ g refl) ∙ low) (found h)

  pub configured : (j : ℕ) → j < configurations t → Configured t (configuration_at t j) (configuration_of t 16 (configuration_at t j))
  configured j l = (found 16 (configuration_at t j) j refl l (own_good_lem j l).1).configured

  -- and it lies within the table
  pub configuration_there : {n m v : ℕ} → Framed t n m v → (j : ℕ) → j < configurations t → ConfigurationAt t (configuration_at t j)
  configuration_there f j l =
      let g = found 16 (configuration_at t j) j refl l (own_good_lem j l).1 in
      let w = g.weighs in
      let e = g.ends in
      let n = f.n_is in
      let m = f.m_is in
      let a = f.long in
      (_, g.configured, omega arith, g.low)

-- what is spelled at byte c is what is found there, with as many levels as records and any more
module _ (t : List ℕ) where
  pub configuration_is : (c more : ℕ) (d : Config) → Configured t c d → configuration_of t (weight d + more) c ≡ d
  unfolding Configured configuration_of weight
  configuration_is c more (Event s) (k, z, e) = let n : 1 + more ≡ suc more = omega arith in rw (n, k) (ap Event e)
  configuration_is c more (Not d) (k, z, h) =
      let n : 1 + weight d + more ≡ suc (weight d + more) = omega arith in
      rw (n, k) (ap Not (configuration_is (c + 4) more d h))
  configuration_is c more (And d e) (k, z, h, g) =
      let n : 1 + weight d + weight e + more ≡ suc (weight d + (weight e + more)) = omega arith in
      let swap : weight d + (weight e + more) ≡ weight e + (weight d + more) = omega arith in
      rw (n, k) (ap₂ And (configuration_is (c + 4) (weight e + more) d h) (rw swap (configuration_is (second_part t c) (weight d + more) e g)))
  configuration_is c more (Or d e) (k, z, h, g) =
      let n : 1 + weight d + weight e + more ≡ suc (weight d + (weight e + more)) = omega arith in
      let swap : weight d + (weight e + more) ≡ weight e + (weight d + more) = omega arith in
      rw (n, k) (ap₂ Or (configuration_is (c + 4) (weight e + more) d h) (rw swap (configuration_is (second_part t c) (weight d + more) e g)))

  pub one_configuration : (c : ℕ) (d e : Config) → Configured t c d → Configured t c e → d ≡ e
  one_configuration c d e h k =
      let swap : weight d + weight e ≡ weight e + weight d = omega arith in
      sym (configuration_is c (weight e) d h) ∙ (ap (λ (n : ℕ). configuration_of t n c) swap ∙ configuration_is c (weight d) e k)
