-- An If that is reached, over all that is lent.
use Prim.Native.Nat.{ℕ, ◌*◌, ◌<◌}
use mathlib.Core.Bool.{Bool}
use mathlib.Core.Path.{◌≡◌, ap, sym, ◌∙◌}
use mathlib.Core.Logic.{◌≢◌}
use mathlib.Core.List.{List}
use native.Mathlib.Omega.{arith}
use lib.Dec.{eqb}
use lib.ListN.{get_or}
use borrow.Author.Tests.{eqb-true, eqb-false, le-leb, lt-leb}
use Rattle.junior.specs.declared.Flag.{Flag}
use Rattle.junior.specs.Term.{Term}
use Rattle.table.specs.Records.{argument_at, kind_at}
use Rattle.state.specs.Kinds.{if_kind}
use Rattle.steps.specs.Running.{Rooms, Ready, values_in}
use Rattle.steps.specs.Progress.{tally_of}
use Rattle.steps.specs.Kinds.{OfKind, InSecond, Choice}
use Rattle.runner.proofs.Stages.{InThen}
use Rattle.steps.specs.Lent.{Lent, lent, Around, Stands, CanRun, HasRun}
use Rattle.steps.proofs.Kept.{kept_same}
use Rattle.steps.proofs.Dispatch.{phase_is, to_kind}
use Rattle.runner.proofs.If.{If0, if0_by, if_names, first_live, second_live, first_goes, second_goes}
use Rattle.runner.proofs.GoesOn.{stands_as, went_as}
use Rattle.runner.proofs.Branches.{Branches, branches_of_kind}
use Rattle.steps.specs.declared.progress.Progress.{Progress}

-- the value that its argument names
read_of : (tally : List ℕ) {a b value : ℕ} → a ≡ b → value ≡ values_in tally a → value ≡ values_in tally b
read_of tally names reads = reads ∙ ap (values_in tally) names

-- one that chooses by it
module _ {table : List ℕ} {i : ℕ} {state : List ℕ} (is : get_or state (4 * i) 0 ≡ 0) where
  choosing : {before part behind : List ℕ} → Around state i before part behind → {t : Term} → OfKind if_kind t
      → {words : List ℕ} {rooms : Rooms} {tally : List ℕ} → Ready 0 table i part words rooms tally t → If0 t
  choosing a {t} w h = if0_by t (w, sym (phase_is a h) ∙ is)

  module _ {m : Progress} {rooms : Rooms} where
    first_stands : {before part behind : List ℕ} → Stands 0 (OfKind if_kind) (lent table state m rooms) i before part behind
        → Stands 1 InThen (lent table state m rooms) i before part behind
    first_stands o = let (t, w, h) = o.live in stands_as o (first_live (choosing o.around w h) h)

    second_stands : {before part behind : List ℕ} → Stands 0 (OfKind if_kind) (lent table state m rooms) i before part behind
        → Stands 1 InSecond (lent table state m rooms) i before part behind
    second_stands o = let (t, w, h) = o.live in stands_as o (second_live (choosing o.around w h) h)

    -- its value can be read
    pub if_asks : CanRun 0 (OfKind if_kind) (lent table state m rooms) i → {a : ℕ} → a ≡ argument_at table i
        → a < 16
    if_asks (before, part, behind, o) e =
        let (t, w, h) = o.live in omega (arith, if_names (choosing o.around w h) h)

    now_first : CanRun 0 (OfKind if_kind) (lent table state m rooms) i → CanRun 1 InThen (lent table state m rooms) i
    now_first (before, part, behind, o) = (_, _, _, first_stands o)

    now_second : CanRun 0 (OfKind if_kind) (lent table state m rooms) i → CanRun 1 InSecond (lent table state m rooms) i
    now_second (before, part, behind, o) = (_, _, _, second_stands o)

    module _ {a value : ℕ} (names : a ≡ argument_at table i) (reads : value ≡ values_in (tally_of m) a) where
      if_second : value ≡ 0 → {L' : Lent} {r : Flag} → HasRun 1 InSecond (lent table state m rooms) i L' r
          → HasRun 0 (OfKind if_kind) (lent table state m rooms) i L' r
      if_second z run before part behind o =
          let g = run before part behind (second_stands o) in
          let no = lt-leb 1 (values_in (tally_of m) (argument_at table i)) (omega (arith, read_of (tally_of m) names reads)) in
          went_as (kept_same m) g (λ t w h. second_goes (choosing o.around w h) h no g.runs)

      if_first : value ≢ 0 → {L' : Lent} {r : Flag} → HasRun 1 InThen (lent table state m rooms) i L' r
          → HasRun 0 (OfKind if_kind) (lent table state m rooms) i L' r
      if_first n run before part behind o =
          let g = run before part behind (first_stands o) in
          let yes = le-leb 1 (values_in (tally_of m) (argument_at table i)) (omega (arith, read_of (tally_of m) names reads)) in
          went_as (kept_same m) g (λ t w h. first_goes (choosing o.around w h) h yes g.runs)

      pub if_chooses : {second : Bool} → second ≡ eqb value 0 → CanRun 0 (OfKind if_kind) (lent table state m rooms) i
          → Branches (OfKind if_kind) (lent table state m rooms) i second
      if_chooses says o =
          record {
            to_second = λ e. record { can = now_second o; has = λ run. if_second (eqb-true _ _ (sym says ∙ e)) run };
            to_first = λ e. record { can = now_first o; has = λ run. if_first (eqb-false _ _ (sym says ∙ e)) run };
          }

-- the same of a node of either kind that is read to be an If
pub if_branches : {table : List ℕ} {i : ℕ} {state : List ℕ} {m : Progress} {rooms : Rooms} {n : ℕ} → n ≡ kind_at table i → n ≡ if_kind → get_or state (4 * i) 0 ≡ 0
    → {a value : ℕ} → a ≡ argument_at table i → value ≡ values_in (tally_of m) a → {second : Bool} → second ≡ eqb value 0
    → CanRun 0 Choice (lent table state m rooms) i
    → Branches Choice (lent table state m rooms) i second
if_branches read is zero names reads says o = branches_of_kind (sym read ∙ is) (if_chooses zero names reads says (to_kind read is o))
