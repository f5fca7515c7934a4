-- A configuration that is spelled among good ones: where its parts stand, and that it ends before the trailer.
use Prim.Native.Nat.{ℕ, ◌+◌, ◌≤◌, ◌<◌}
use mathlib.Core.Path.{◌≡◌, refl}
use mathlib.Core.List.{List}
use native.Mathlib.Omega.{arith}
use Rattle.junior.specs.Configuration.{Config, Event, Not, And, Or}
use Rattle.table.specs.Records.{configurations, configuration_at, second_part}
use Rattle.table.specs.Good.{parts, good_configuration}
use Rattle.table.specs.Spells.{weight, Configured}
use Rattle.table.specs.Inside.{ConfigurationsGood}
use Rattle.table.proofs.ByParts.{written}
use Rattle.table.proofs.Laid.{both, one_inside, two_inside, Fine, fine, size_of, kind_of}
use Rattle.table.proofs.OwnBytes.{first_at, second_at}

-- configuration j is d
pub record Test (t : List ℕ) (j : ℕ) (d : Config) : Type 0 where
  pub among : j < configurations t
  pub there : Configured t (configuration_at t j) d

-- d and e are the parts of configuration j, an and or an or
abbrev pub TwoParts : List ℕ → ℕ → Config → Config → Type 0
TwoParts t j d e = Test t (j + 1) d × Test t (j + 1 + size_of t (j + 1)) e

-- where the parts of configuration j stand
module _ (t : List ℕ) (j : ℕ) (d : Config) where
  first_there : Configured t (configuration_at t j + 4) d → Configured t (configuration_at t (j + 1)) d
  first_there h = rw (first_at t (configuration_at t j) j refl) at h

  second_there : Configured t (second_part t (configuration_at t j)) d → Configured t (configuration_at t (j + 1 + size_of t (j + 1))) d
  second_there h = rw (second_at t (configuration_at t j) j refl) at h

pub fine_test : {t : List ℕ} → ConfigurationsGood t → {j : ℕ} {d : Config} → Test t j d → (k : ℕ) → kind_of t j ≡ k → Fine t j k
unfolding good_configuration
fine_test {t} good {j} h k e = fine t j k e (both (good j h.among)).0

module _ {t : List ℕ} (good : ConfigurationsGood t) {j : ℕ} {d : Config} where
  pub not_part : Test t j (Not d) → Test t (j + 1) d
  unfolding Configured parts
  not_part h = record { among = one_inside (fine_test good h 1 h.there.0).laid_out; there = first_there t j d h.there.2 }

  module _ {e : Config} where
    pub and_parts : Test t j (And d e) → TwoParts t j d e
    unfolding Configured parts
    and_parts h =
        let m = two_inside (fine_test good h 2 h.there.0).laid_out in
        (record { among = m.0; there = first_there t j d h.there.2 }, record { among = m.1; there = second_there t j e h.there.3 })

    pub or_parts : Test t j (Or d e) → TwoParts t j d e
    unfolding Configured parts
    or_parts h =
        let m = two_inside (fine_test good h 3 h.there.0).laid_out in
        (record { among = m.0; there = first_there t j d h.there.2 }, record { among = m.1; there = second_there t j e h.there.3 })

pub ends_inside : {t : List ℕ} → ConfigurationsGood t → (d : Config) {j : ℕ} → Test t j d → j + weight d ≤ configurations t
unfolding weight
ends_inside good (Event s) h = omega (arith, h.among)
ends_inside good (Not d) h = omega (arith, ends_inside good d (not_part good h))
ends_inside good (And d e) h =
    let (f, s) = and_parts good h in
    omega (arith, written _ _ d f.there, ends_inside good e s)
ends_inside good (Or d e) h =
    let (f, s) = or_parts good h in
    omega (arith, written _ _ d f.there, ends_inside good e s)
