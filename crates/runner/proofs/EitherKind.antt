-- A function that runs the terms of two kinds: which of them stands there, and what either kind has done, both have.
use Prim.Native.Nat.{ℕ}
use mathlib.Core.Path.{◌≡◌, refl, subst, ◌∙◌}
use mathlib.Core.Logic.{◌≢◌, ◌⊎◌, inl, inr, ⊎_elim}
use mathlib.Core.List.{List}
use Rattle.junior.specs.declared.Flag.{Flag}
use Rattle.junior.specs.Term.{Term}
use Rattle.table.specs.Records.{kind_at}
use Rattle.table.proofs.Loaded.{kind_parts}
use Rattle.steps.specs.Running.{Rooms, Ready, Either}
use Rattle.steps.specs.Kinds.{OfKind}
use Rattle.steps.specs.Lent.{Lent, lent, CanRun, HasRun}
use Rattle.steps.proofs.Dispatch.{by_kind, can_narrow, widen}
use Rattle.runner.proofs.GoesOn.{GoesOnAs}
use Rattle.steps.specs.declared.progress.Progress.{Progress}

-- by its kind as it was read
module _ {a b : ℕ} {table : List ℕ} {i n : ℕ} (read : n ≡ kind_at table i) (is : (n ≡ a) ⊎ (n ≡ b)) where
  one_of_them : {part words : List ℕ} {rooms : Rooms} {tally : List ℕ} {t : Term} → Ready 0 table i part words rooms tally t → Either a b t
  one_of_them h = subst (λ k. (k ≡ a) ⊎ (k ≡ b)) (read ∙ kind_parts h.placed) is

  module _ {U : Term → Type 0} {state : List ℕ} {m : Progress} {rooms : Rooms} where
    pub to_kinds : CanRun 0 U (lent table state m rooms) i → CanRun 0 (Either a b) (lent table state m rooms) i
    to_kinds o = can_narrow (λ before part behind around t h. one_of_them h) o

    pub by_kinds : {L' : Lent} {r : Flag} → HasRun 0 (Either a b) (lent table state m rooms) i L' r → HasRun 0 U (lent table state m rooms) i L' r
    by_kinds run = widen (λ before part behind around t h. one_of_them h) run

module _ {a b : ℕ} {table : List ℕ} {i : ℕ} {state : List ℕ} {m : Progress} {rooms : Rooms} where
  pub which : CanRun 0 (Either a b) (lent table state m rooms) i → (kind_at table i ≡ a) ⊎ (kind_at table i ≡ b)
  which (before, part, behind, o) =
      let (t, w, h) = o.live in ⊎_elim (λ e. inl (kind_parts h.placed ∙ e)) (λ e. inr (kind_parts h.placed ∙ e)) w

  -- the kind that the code has read isn't the second: it is the first
  pub the_first : {n : ℕ} → n ≡ kind_at table i → n ≢ b → CanRun 0 (Either a b) (lent table state m rooms) i → kind_at table i ≡ a
  the_first read other o = ⊎_elim (λ e. e) (λ e. absurd (other (read ∙ e))) (which o)

  pub by_either : {L' : Lent} {r : Flag} → (kind_at table i ≡ a → HasRun 0 (OfKind a) (lent table state m rooms) i L' r)
      → (kind_at table i ≡ b → HasRun 0 (OfKind b) (lent table state m rooms) i L' r)
      → HasRun 0 (Either a b) (lent table state m rooms) i L' r
  by_either first second before part behind o =
      ⊎_elim (λ e. by_kind refl e (first e) before part behind o) (λ e. by_kind refl e (second e) before part behind o)
      (which (before, part, behind, o))

-- one of the kind that stands there goes on as another: so does whatever is run there
pub goes_of_kind : {W U : Term → Type 0} {k : ℕ} {table : List ℕ} {i : ℕ} {state : List ℕ} {m : Progress} {rooms : Rooms} {L₁ : Lent} → kind_at table i ≡ k
    → GoesOnAs W (OfKind k) (lent table state m rooms) i L₁
    → GoesOnAs W U (lent table state m rooms) i L₁
goes_of_kind is on = record { can = on.can; has = λ run. by_kind refl is (on.has run) }
