-- A Control, rules 26 to 28, over all that is lent.
use Prim.Native.Nat.{ℕ, ◌+◌, ◌-◌, ◌*◌, ◌<◌}
use mathlib.Core.Bool.{true, false}
use mathlib.Core.Path.{◌≡◌, refl, ◌∙◌}
use mathlib.Core.Logic.{◌≢◌}
use mathlib.Core.List.{List, ◌++◌}
use native.Mathlib.Omega.{arith}
use lib.Dec.{lit<}
use lib.ListN.{length, get_or, take, drop}
use borrow.Rule.Slice.PartMut.{mid_of, put_mid}
use Rattle.junior.specs.declared.Flag.{Flag}
use Rattle.junior.specs.declared.Flag.TheVariants.{SUSP, STOP}
use Rattle.steps.proofs.Tally.{byte_read}
use Rattle.events.specs.Members.{marks}
use Rattle.junior.specs.Term.{Term}
use Rattle.table.specs.Records.{argument_at, size_at}
use Rattle.state.specs.Kinds.{control_kind}
use Rattle.steps.specs.Running.{Rooms, Ready, Any}
use Rattle.steps.proofs.Children.{own_in}
use Rattle.runner.proofs.Control.{Controls, controls_by, control_asks, control_runs, control_waits, control_stops}
use Rattle.steps.specs.Progress.{words_of}
use Rattle.steps.specs.Kinds.{OfKind}
use Rattle.steps.specs.Lent.{lent, Stands, Went, CanRun, HasRun}
use Rattle.steps.proofs.Context.{outer}
use Rattle.steps.proofs.Kept.{kept_same}
use Rattle.steps.proofs.Dispatch.{phase_is}
use Rattle.runner.proofs.Falling.{weigh, child_rank, form_rank, smaller_by}
use Rattle.steps.proofs.ChildContext.{child_stands}
use Rattle.steps.specs.declared.progress.Progress.{Progress}

module _ {table : List ℕ} {i : ℕ} {state : List ℕ} (on : get_or state (4 * i) 0 ≢ 3) {m : Progress} {rooms : Rooms} {before part behind : List ℕ}
    (o : Stands 0 (OfKind control_kind) (lent table state m rooms) i before part behind) {a : ℕ} (names : a ≡ argument_at table i) where
  as_control : {t : Term} → OfKind control_kind t → {words tally : List ℕ} → Ready 0 table i part words rooms tally t → Controls t
  as_control {t} w h = controls_by t (w, λ e. on (phase_is o.around h ∙ e))

  the : Controls o.live.0
  the = as_control o.live.1 o.live.2

  -- its event is present
  module _ (present : marks (words_of m) a ≡ true) where
    pub body_stands : Stands 0 Any (lent table state m rooms) (i + 1) (before ++ take 4 part) (mid_of 4 (length part - 4) part)
        (drop (length part - 4) (drop 4 part) ++ behind)
    body_stands =
        child_stands o.around o.holds 4 (length part - 4) (own_in o.live.2 3 (lit< tt)) (omega arith)
        (control_asks names present the o.live.2 1 refl).1

    pub body_smaller : size_at table (i + 1) < size_at table i
    body_smaller = smaller_by table i (i + 1) (control_asks names present the o.live.2 1 refl).0

    module _ {state₁ : List ℕ} {m₁ : Progress} {rooms₁ : Rooms} {f : Flag} (run : HasRun 0 Any (lent table state m rooms) (i + 1) (lent table state₁ m₁ rooms₁) f) where
      pub body_went : Went 0 Any (lent table state m rooms) (i + 1) (before ++ take 4 part) (mid_of 4 (length part - 4) part)
          (drop (length part - 4) (drop 4 part) ++ behind) (lent table state₁ m₁ rooms₁) f
      body_went = run _ _ _ body_stands

      pub control_went : Went 0 (OfKind control_kind) (lent table state m rooms) i before part behind (lent table state₁ m₁ rooms₁) f
      control_went =
          record {
            part' = put_mid 4 (length part - 4) part body_went.part';
            around = outer o.around 4 (length part - 4) body_went.around;
            kept = body_went.kept;
            runs = λ t w h. control_runs names present (as_control w h) h body_went.runs;
          }

  -- it is not: the Control answers whether the end is declared
  module _ (absent : marks (words_of m) a ≡ false) where
    pub control_went_waits : m.ended ≡ false
        → Went 0 (OfKind control_kind) (lent table state m rooms) i before part behind (lent table state m rooms) SUSP
    control_went_waits z =
        record {
          part' = part;
          around = o.around;
          kept = kept_same m;
          runs = λ t w h P at. control_waits names absent (as_control w h) h (byte_read m.ended ∙ z) P;
        }

    pub control_went_stops : m.ended ≡ true
        → Went 0 (OfKind control_kind) (lent table state m rooms) i before part behind (lent table state m rooms) STOP
    control_went_stops z =
        record {
          part' = part;
          around = o.around;
          kept = kept_same m;
          runs = λ t w h P at. control_stops names absent (as_control w h) h (byte_read m.ended ∙ z) P;
        }

-- in the words of the needs
module _ {table : List ℕ} {i : ℕ} {state : List ℕ} {m : Progress} {rooms : Rooms} (on : get_or state (4 * i) 0 ≢ 3) {a : ℕ} (names : a ≡ argument_at table i) where
  module _ (present : marks (words_of m) a ≡ true) where
    pub control_body : CanRun 0 (OfKind control_kind) (lent table state m rooms) i → {k : ℕ} → weigh table i form_rank ≡ k
        → (weigh table (i + 1) child_rank < k) × CanRun 0 Any (lent table state m rooms) (i + 1)
    control_body (before, part, behind, o) e =
        (omega (arith, body_smaller on o names present), (_, _, _, body_stands on o names present))

    pub control_run : {state₁ : List ℕ} {m₁ : Progress} {rooms₁ : Rooms} {f : Flag} → HasRun 0 Any (lent table state m rooms) (i + 1) (lent table state₁ m₁ rooms₁) f
        → HasRun 0 (OfKind control_kind) (lent table state m rooms) i (lent table state₁ m₁ rooms₁) f
    control_run run before part behind o = control_went on o names present run

  module _ (absent : marks (words_of m) a ≡ false) where
    pub control_rests : m.ended ≡ false → HasRun 0 (OfKind control_kind) (lent table state m rooms) i (lent table state m rooms) SUSP
    control_rests z before part behind o = control_went_waits on o names absent z

    pub control_ends : m.ended ≡ true → HasRun 0 (OfKind control_kind) (lent table state m rooms) i (lent table state m rooms) STOP
    control_ends z before part behind o = control_went_stops on o names absent z
