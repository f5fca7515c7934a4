-- A configuration is read from its first record on: what is open around the part at hand makes of its rank that of the whole.
use Prim.Native.Nat.{ℕ, ◌+◌, ◌*◌, ◌^◌, ◌≤◌, ◌<◌}
use mathlib.Core.Bool.{Bool}
use mathlib.Core.Path.{◌≡◌, refl, sym, ap, ◌∙◌}
use mathlib.Core.List.{List, []}
use native.Mathlib.Omega.{arith}
use lib.ListN.{length}
use Rattle.junior.specs.declared.Verdict.{Verdict}
use Rattle.junior.specs.Configuration.{Config, Env, test}
use Rattle.table.specs.Records.{part_kind}
use Rattle.table.specs.Spells.{weight, Configured}
use Rattle.table.specs.Reading.{ConfigurationAt, environment}
use Rattle.table.specs.Inside.Ranks.{rank, absent_rank, RanksAs}
use Rattle.table.specs.Inside.Levels.{Level, levelled, closing, Standing, ToCome, Open, Next}
use Rattle.table.proofs.ByParts.{some_record}
use Rattle.table.proofs.Spelled.{one_configuration}
use Rattle.table.proofs.OpenLevels.{one_word, down, behind_event}

-- the part at byte `at`, and what is open around it
pub record Reading (t : List ℕ) (c : ℕ) (words : List ℕ) (absent at n : ℕ) : Type 0 where
  pub part : Config
  pub still : List Level
  pub stands : Standing t at part still
  pub opened : Open t (at + 4 * weight part) n still
  pub whole : (d : Config) (ended moved : Bool) → Configured t c d → absent ≡ absent_rank ended
      → closing (environment words ended moved) still (rank (test part (environment words ended moved)))
      ≡ rank (test d (environment words ended moved))

module _ {t : List ℕ} {c : ℕ} {words : List ℕ} {absent : ℕ} where
  -- at first it is the whole
  pub whole_read : ConfigurationAt t c → Reading t c words absent c 2
  unfolding closing levelled ToCome
  whole_read (d, h, l, low) =
      record {
        part = d;
        still = [];
        stands = record { configured = h; inside = l; low = omega arith };
        opened = record { number = refl; to_come = tt };
        whole = λ e ended moved k a. ap (λ (x : Config). rank (test x (environment words ended moved))) (one_configuration t c d e h k);
      }

  module _ {at n : ℕ} (h : Reading t c words absent at n) where
    pub own_record : at + 4 ≤ length t
    own_record = omega (arith, h.stands.inside, some_record h.part)

    -- its first part
    pub first_read : (k : ℕ) → part_kind t at ≡ k → (k ≡ 0 → ⊥) → Reading t c words absent (at + 4) (16 * n + k)
    first_read k e z =
        let d = down h.part k h.stands h.opened e z in
        record {
          part = d.part;
          still = d.still;
          stands = d.stands;
          opened = d.opened;
          whole = λ f ended moved g a. sym (d.same (environment words ended moved)) ∙ h.whole f ended moved g a;
        }

    pub fits : n < 2 ^ 64
    fits = rw h.opened.number (one_word h.part h.still h.stands.low)

    module _ (event : part_kind t at ≡ 0) where
      pub open_behind : Open t (at + 4) n h.still
      open_behind = behind_event h.part h.stands h.opened event

    module _ {r : ℕ} (ranks : RanksAs t at words absent r) where
      pub read_out : (v : Verdict) → ((E : Env) → closing E h.still r ≡ rank v) → RanksAs t c words absent (rank v)
      read_out v k d ended moved g a =
          let E = environment words ended moved in
          sym (k E) ∙ (ap (closing E h.still) (ranks h.part ended moved h.stands.configured a) ∙ h.whole d ended moved g a)

      pub second_read : {at' n' : ℕ} → Next t (at + 4) h.still r at' n' → Reading t c words absent at' n'
      second_read x =
          record {
            part = x.part;
            still = x.still;
            stands = x.stands;
            opened = x.opened;
            whole = λ d ended moved g a.
                let E = environment words ended moved in
                sym (x.same E)
                ∙ (ap (closing E h.still) (ranks h.part ended moved h.stands.configured a) ∙ h.whole d ended moved g a);
          }
