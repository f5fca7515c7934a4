-- Verdicts as ranks: of an event, a not, an and, an or, and what a rank is read as; how many records a configuration has.
use Prim.Native.Nat.{ℕ, ◌+◌, ◌-◌, ◌≤◌, min, max}
use mathlib.Core.Bool.{Bool, true, false, cond, ◌||◌}
use mathlib.Core.Path.{◌≡◌, refl, sym, ap, ◌∙◌}
use mathlib.Core.List.{List}
use native.Mathlib.Omega.{arith}
use lib.ListN.{length}
use Rattle.events.specs.Members.{marks}
use Rattle.junior.specs.declared.Verdict.{Verdict}
use Rattle.junior.specs.declared.Verdict.TheVariants.{Sat, Unsat, Unknown}
use Rattle.junior.specs.Configuration.{Config, Event, Not, And, Or, Env, verdict, test}
use Rattle.junior.proofs.Verdicts.{not₃, and₃, or₃, test_event}
use Rattle.table.specs.Records.{part_kind, part_event, part_size, second_part}
use Rattle.table.specs.Spells.{Configured, weight}
use Rattle.table.specs.Reading.{ConfigurationAt, environment, ReadAs}
use Rattle.table.specs.Inside.Ranks.{rank, unranked, absent_rank, RanksAs}

-- the written size is the number of records
pub written : (t : List ℕ) (c : ℕ) (d : Config) → Configured t c d → part_size t c ≡ weight d
unfolding Configured weight
written t c (Event s) h = h.1
written t c (Not d) h = h.1
written t c (And d e) h = h.1
written t c (Or d e) h = h.1

pub some_record : (d : Config) → 1 ≤ weight d
unfolding weight
some_record (Event s) = omega arith
some_record (Not d) = omega arith
some_record (And d e) = omega arith
some_record (Or d e) = omega arith

-- a configuration's own record lies within the table
pub own_inside : (t : List ℕ) (c : ℕ) → ConfigurationAt t c → c + 4 ≤ length t
own_inside t c (d, h, l, k) = omega (arith, some_record d)

-- what stands at byte c, by its kind
data MadeOf (t : List ℕ) (c : ℕ) : ℕ → Config → Type 0 where
  event : {s : ℕ} → part_event t c ≡ s → MadeOf t c 0 (Event s)
  negation : {d : Config} → Configured t (c + 4) d → MadeOf t c 1 (Not d)
  conjunction : {d e : Config} → Configured t (c + 4) d → Configured t (second_part t c) e → MadeOf t c 2 (And d e)
  disjunction : {d e : Config} → Configured t (c + 4) d → Configured t (second_part t c) e → MadeOf t c 3 (Or d e)

made_of : {t : List ℕ} {c k : ℕ} (d : Config) → part_kind t c ≡ k → Configured t c d → MadeOf t c k d
unfolding Configured
made_of (Event s) k h = rw (sym k ∙ h.0) (event h.2)
made_of (Not d) k h = rw (sym k ∙ h.0) (negation h.2)
made_of (And d e) k h = rw (sym k ∙ h.0) (conjunction h.2 h.3)
made_of (Or d e) k h = rw (sym k ∙ h.0) (disjunction h.2 h.3)

-- ranks of three-valued logic
rank_event : (present ended : Bool) → cond present 2 (absent_rank ended) ≡ rank (verdict (present || ended) present)
rank_event true ended = refl
rank_event false true = refl
rank_event false false = refl

pub rank_not : (v : Verdict) → 2 - rank v ≡ rank (not₃ v)
rank_not Sat = refl
rank_not Unsat = refl
rank_not Unknown = refl

pub rank_and : (v w : Verdict) → min (rank v) (rank w) ≡ rank (and₃ v w)
rank_and Sat Sat = refl
rank_and Sat Unsat = refl
rank_and Sat Unknown = refl
rank_and Unsat Sat = refl
rank_and Unsat Unsat = refl
rank_and Unsat Unknown = refl
rank_and Unknown Sat = refl
rank_and Unknown Unsat = refl
rank_and Unknown Unknown = refl

pub rank_or : (v w : Verdict) → max (rank v) (rank w) ≡ rank (or₃ v w)
rank_or Sat Sat = refl
rank_or Sat Unsat = refl
rank_or Sat Unknown = refl
rank_or Unsat Sat = refl
rank_or Unsat Unsat = refl
rank_or Unsat Unknown = refl
rank_or Unknown Sat = refl
rank_or Unknown Unsat = refl
rank_or Unknown Unknown = refl

pub rank_most : (v : Verdict) → rank v ≤ 2
rank_most Sat = omega arith
rank_most Unsat = omega arith
rank_most Unknown = omega arith

ranked : (v : Verdict) → unranked (rank v) ≡ v
unfolding unranked
ranked Sat = refl
ranked Unsat = refl
ranked Unknown = refl

module _ (t : List ℕ) (c : ℕ) (words : List ℕ) (absent : ℕ) where
  pub ranks_read : (v : Verdict) (ended : Bool) → RanksAs t c words absent (rank v) → absent ≡ absent_rank ended → ReadAs t c words ended v
  ranks_read v ended f a d moved h =
      sym (ranked v) ∙ (ap unranked (f d ended moved h a) ∙ ranked (test d (environment words ended moved)))

  pub ranks_event : (event r : ℕ) → part_kind t c ≡ 0 → event ≡ part_event t c → r ≡ cond (marks words event) 2 absent
      → RanksAs t c words absent r
  ranks_event n r k f e d ended moved h a = e ∙ go (made_of d k h)
    where
      E : Env
      E = environment words ended moved

      go : {d : Config} → MadeOf t c 0 d → cond (marks words n) 2 absent ≡ rank (test d E)
      go (event {s} g) = rw (f, g, a, test_event s E) (rank_event (marks words s) ended)
