-- A When or an If goes into one of its branches. One that has chosen does so by its phase.
use Prim.Native.Nat.{ℕ, ◌*◌}
use mathlib.Core.Bool.{Bool, true, false}
use mathlib.Core.Path.{◌≡◌, refl, sym, ◌∙◌}
use mathlib.Core.Logic.{◌≢◌, inl, inr}
use mathlib.Core.List.{List}
use lib.Dec.{eqb}
use lib.ListN.{get_or}
use borrow.Author.Tests.{eqb-true, eqb-false}
use Rattle.junior.specs.Term.{Term}
use Rattle.state.specs.Kinds.{when_kind, if_kind}
use Rattle.state.specs.StateBytes.{head}
use Rattle.state.proofs.Shape.{Shape, is_done, is_when0, is_when1, is_when2, is_if0, is_if1, is_if2, shape_by}
use Rattle.steps.specs.Running.{Rooms}
use Rattle.table.specs.Records.{kind_at}
use Rattle.steps.specs.Kinds.{OfKind, Choice, InSecond}
use Rattle.runner.proofs.Stages.{InThen}
use Rattle.steps.specs.Lent.{Lent, lent, CanRun}
use Rattle.steps.proofs.Dispatch.{phase_is}
use Rattle.runner.proofs.GoesOn.{GoesOnAs, goes_by_phase}
use Rattle.runner.proofs.EitherKind.{goes_of_kind}
use Rattle.steps.specs.declared.progress.Progress.{Progress}

-- node i, of which U holds, goes into its second branch if `second` says so, else into its first
pub record Branches (U : Term → Type 0) (L : Lent) (i : ℕ) (second : Bool) : Type 0 where
  pub to_second : second ≡ true → GoesOnAs InSecond U L i L
  pub to_first : second ≡ false → GoesOnAs InThen U L i L

-- whichever of the two stands there
pub branches_of_kind : {k : ℕ} {U : Term → Type 0} {table : List ℕ} {i : ℕ} {state : List ℕ} {m : Progress} {rooms : Rooms} {second : Bool} → kind_at table i ≡ k
    → Branches (OfKind k) (lent table state m rooms) i second
    → Branches U (lent table state m rooms) i second
branches_of_kind is b = record { to_second = λ e. goes_of_kind is (b.to_second e); to_first = λ e. goes_of_kind is (b.to_first e) }

-- one that has chosen, hasn't ended and isn't in its second branch is in its first
when_in_first : {t : Term} {ph : ℕ} → Shape t when_kind ph → ph ≢ 3 → ph ≢ 0 → ph ≢ 2 → ph ≡ 1
when_in_first (is_when0 c p q) a b d = absurd (b refl)
when_in_first (is_when1 c x q) a b d = refl
when_in_first (is_when2 c p x) a b d = absurd (d refl)
when_in_first (is_done p e) a b d = absurd (a refl)

if_in_first : {t : Term} {ph : ℕ} → Shape t if_kind ph → ph ≢ 3 → ph ≢ 0 → ph ≢ 2 → ph ≡ 1
if_in_first (is_if0 v p q) a b d = absurd (b refl)
if_in_first (is_if1 v x q) a b d = refl
if_in_first (is_if2 v p x) a b d = absurd (d refl)
if_in_first (is_done p e) a b d = absurd (a refl)

in_first : (t : Term) → Choice t → (head t).phase ≢ 3 → (head t).phase ≢ 0 → (head t).phase ≢ 2 → (head t).phase ≡ 1
in_first t (inl e) a b d = when_in_first (shape_by t e refl) a b d
in_first t (inr e) a b d = if_in_first (shape_by t e refl) a b d

module _ {U : Term → Type 0} (are : (t : Term) → U t → Choice t) {table : List ℕ} {i : ℕ} {state : List ℕ} {m : Progress} {rooms : Rooms}
    (on : get_or state (4 * i) 0 ≢ 3) (chose : get_or state (4 * i) 0 ≢ 0) (o : CanRun 0 U (lent table state m rooms) i) where
  first_phase : get_or state (4 * i) 0 ≢ 2 → get_or state (4 * i) 0 ≡ 1
  first_phase other =
      let (before, part, behind, s) = o in
      let (t, u, h) = s.live in
      let p = phase_is s.around h in
      p ∙ in_first t (are t u) (λ e. on (p ∙ e)) (λ e. chose (p ∙ e)) (λ e. other (p ∙ e))

  pub by_own_phase : {second : Bool} → second ≡ eqb (get_or state (4 * i) 0) 2 → Branches U (lent table state m rooms) i second
  by_own_phase says =
      record {
        to_second = λ e. goes_by_phase (λ t u p. p) (eqb-true _ _ (sym says ∙ e)) o;
        to_first = λ e. goes_by_phase (λ t u p. (are t u, p)) (first_phase (eqb-false _ _ (sym says ∙ e))) o;
      }
