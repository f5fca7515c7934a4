-- An Until or a Freezable: its body runs, and once that has stopped it goes on as an Until* or as a Freezable*, by its kind.
use Prim.Native.Nat.{ℕ, ◌+◌, ◌*◌, ◌<◌}
use mathlib.Core.Path.{◌≡◌, refl}
use mathlib.Core.Logic.{◌≢◌, ⊎_elim}
use mathlib.Core.List.{List}
use lib.ListN.{get_or}
use Rattle.junior.specs.declared.Flag.{Flag}
use Rattle.junior.specs.declared.Flag.TheVariants.{STOP}
use Rattle.table.specs.Records.{kind_at, size_at}
use Rattle.state.specs.Kinds.{until_kind, freezable_kind}
use Rattle.steps.specs.Running.{Rooms, Any}
use Rattle.steps.specs.Kinds.{Break, Pending}
use Rattle.runner.proofs.Stages.{Starred}
use Rattle.steps.specs.declared.Pass.{Pass}
use Rattle.steps.specs.Lent.{Lent, lent, lent_of, lent_then, Named, CanRun, HasRun}
use Rattle.steps.proofs.Dispatch.{to_kind}
use Rattle.runner.proofs.GoesOn.{GoesOnAs, goes_by_phase}
use Rattle.runner.proofs.EitherKind.{which, by_either, goes_of_kind}
use Rattle.runner.proofs.UntilRuns.{until_first, until_stays, until_starred, starred_already}
use Rattle.runner.proofs.FreezableRuns.{freezable_first, freezable_stays, freezable_pending, freezable_goes_on}
use Rattle.steps.specs.declared.progress.Progress.{Progress}

-- node i goes on in L₁ with its body stopped
pub record BodyStopped (table : List ℕ) (L : Lent) (i : ℕ) (L₁ : Lent) : Type 0 where
  pub to_star : kind_at table i ≡ until_kind → GoesOnAs Starred Break L i L₁
  pub to_pending : kind_at table i ≡ freezable_kind → GoesOnAs Pending Break L i L₁

-- the same of a pass
abbrev pub StoppedIn : Pass → ℕ → Pass → Type 0
StoppedIn p i p' = BodyStopped p.table.now (lent_of p) i (lent_then p p') × Named p p'

module _ {table : List ℕ} {i : ℕ} {state : List ℕ} (on : get_or state (4 * i) 0 ≢ 3) (no_star : get_or state (4 * i) 0 ≢ 1)
    (no_handler : get_or state (4 * i) 0 ≢ 2) {m : Progress} {rooms : Rooms} where
  pub body_first : CanRun 0 Break (lent table state m rooms) i
      → (size_at table (i + 1) < size_at table i) × CanRun 0 Any (lent table state m rooms) (i + 1)
  body_first o =
      ⊎_elim (λ e. until_first on no_star no_handler (to_kind refl e o)) (λ e. freezable_first on no_star (to_kind refl e o)) (which o)

  module _ {state₁ : List ℕ} {m₁ : Progress} {rooms₁ : Rooms} {f : Flag} (run : HasRun 0 Any (lent table state m rooms) (i + 1) (lent table state₁ m₁ rooms₁) f) where
    pub body_goes_on : f ≢ STOP → HasRun 0 Break (lent table state m rooms) i (lent table state₁ m₁ rooms₁) f
    body_goes_on a = by_either (λ e. until_stays on no_star no_handler run a) (λ e. freezable_stays on no_star run a)

    pub body_stopped : f ≡ STOP → CanRun 0 Break (lent table state m rooms) i
        → BodyStopped table (lent table state m rooms) i (lent table state₁ m₁ rooms₁)
    body_stopped s o =
        record {
          to_star = λ e. goes_of_kind e (until_starred on no_star no_handler run s (to_kind refl e o));
          to_pending = λ e. goes_of_kind e (record {
            can = freezable_pending on no_star run s (to_kind refl e o);
            has = λ then. freezable_goes_on on no_star run s then;
          });
        }

-- it had stopped already
pub stopped_already : {table : List ℕ} {i : ℕ} {state : List ℕ} {m : Progress} {rooms : Rooms} → get_or state (4 * i) 0 ≡ 1
    → CanRun 0 Break (lent table state m rooms) i
    → BodyStopped table (lent table state m rooms) i (lent table state m rooms)
stopped_already starred o =
    record {
      to_star = λ e. goes_of_kind e (starred_already starred (to_kind refl e o));
      to_pending = λ e. goes_of_kind e (goes_by_phase (λ t k p. (k, p)) starred (to_kind refl e o));
    }
