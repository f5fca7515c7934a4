-- A Freezable in its body, rules 40 and 41, over all that is lent.
use Prim.Native.Nat.{ℕ, ◌+◌, ◌-◌, ◌*◌, ◌<◌}
use mathlib.Core.Path.{◌≡◌, refl, ◌∙◌}
use mathlib.Core.Logic.{◌≢◌}
use mathlib.Core.List.{List, ◌++◌}
use native.Mathlib.Omega.{arith}
use lib.Dec.{lit<}
use lib.ListN.{length, get_or, take, drop}
use borrow.Rule.Slice.PartMut.{mid_of, put_mid}
use Rattle.junior.specs.declared.Flag.{Flag}
use Rattle.junior.specs.declared.Flag.TheVariants.{STOP}
use Rattle.junior.specs.Term.{Term}
use Rattle.table.specs.Records.{size_at}
use Rattle.state.specs.Kinds.{freezable_kind}
use Rattle.steps.specs.Running.{Rooms, Ready, Any}
use Rattle.steps.specs.Kinds.{OfKind, Pending}
use Rattle.steps.specs.Lent.{Lent, lent, Around, Stands, Went, CanRun, HasRun}
use Rattle.steps.proofs.Children.{own_in}
use Rattle.steps.proofs.Context.{outer, phase_at_lem}
use Rattle.steps.proofs.Kept.{still}
use Rattle.steps.proofs.Dispatch.{phase_is}
use Rattle.steps.proofs.ChildContext.{child_stands}
use Rattle.runner.proofs.Freezable.{Freezes, freezes_by, body_asks, freezable_waits, pending_asks, freezable_stops}
use Rattle.runner.proofs.Falling.{smaller_by}
use Rattle.runner.proofs.GoesOn.{went_as}
use Rattle.steps.specs.declared.progress.Progress.{Progress}

-- in its body: that runs
module _ {table : List ℕ} {i : ℕ} {state : List ℕ} (on : get_or state (4 * i) 0 ≢ 3) (no_star : get_or state (4 * i) 0 ≢ 1) where
  in_body : {before part behind : List ℕ} → Around state i before part behind → {t : Term} → OfKind freezable_kind t
      → {words : List ℕ} {rooms : Rooms} {tally : List ℕ} → Ready 0 table i part words rooms tally t → Freezes t
  in_body a w h =
      let at = phase_at_lem a (own_in h 0 (lit< tt)) in
      freezes_by (w, λ e. on (phase_is a h ∙ e)) h (λ e. no_star (at ∙ e))

  module _ {m : Progress} {rooms : Rooms} {before part behind : List ℕ}
      (o : Stands 0 (OfKind freezable_kind) (lent table state m rooms) i before part behind) where
    the : Freezes o.live.0
    the = in_body o.around o.live.1 o.live.2

    body_stands : Stands 0 Any (lent table state m rooms) (i + 1) (before ++ take 4 part) (mid_of 4 (length part - 4) part)
        (drop (length part - 4) (drop 4 part) ++ behind)
    body_stands =
        child_stands o.around o.holds 4 (length part - 4) (own_in o.live.2 3 (lit< tt)) (omega arith)
        (body_asks the o.live.2 1 refl).1

    body_smaller : size_at table (i + 1) < size_at table i
    body_smaller = smaller_by table i (i + 1) (body_asks the o.live.2 1 refl).0

    module _ {state₁ : List ℕ} {m₁ : Progress} {rooms₁ : Rooms} {f : Flag} (run : HasRun 0 Any (lent table state m rooms) (i + 1) (lent table state₁ m₁ rooms₁) f) where
      body_went : Went 0 Any (lent table state m rooms) (i + 1) (before ++ take 4 part) (mid_of 4 (length part - 4) part)
          (drop (length part - 4) (drop 4 part) ++ behind) (lent table state₁ m₁ rooms₁) f
      body_went = run _ _ _ body_stands

      abbrev part₁ : List ℕ
      part₁ = put_mid 4 (length part - 4) part body_went.part'

      around₁ : Around state₁ i before part₁ behind
      around₁ = outer o.around 4 (length part - 4) body_went.around

      freezable_went : f ≢ STOP → Went 0 (OfKind freezable_kind) (lent table state m rooms) i before part behind (lent table state₁ m₁ rooms₁) f
      freezable_went a =
          record {
            part' = part₁;
            around = around₁;
            kept = body_went.kept;
            runs = λ t w h. freezable_waits body_went.runs (in_body o.around w h) h a;
          }

      module _ (stopped : f ≡ STOP) where
        now_pending : Stands 1 Pending (lent table state₁ m₁ rooms₁) i before part₁ behind
        now_pending =
            record {
              around = around₁;
              holds = still o.holds body_went.kept;
              live = pending_asks body_went.runs the o.live.2 stopped;
            }

        pending_went : {L' : Lent} {r : Flag} → HasRun 1 Pending (lent table state₁ m₁ rooms₁) i L' r
            → Went 0 (OfKind freezable_kind) (lent table state m rooms) i before part behind L' r
        pending_went then =
            let g = then before part₁ behind now_pending in
            went_as body_went.kept g
            (λ t w h. freezable_stops body_went.runs (in_body o.around w h) h stopped g.runs)

  -- in the words of the needs
  module _ {m : Progress} {rooms : Rooms} where
    pub freezable_first : CanRun 0 (OfKind freezable_kind) (lent table state m rooms) i
        → (size_at table (i + 1) < size_at table i) × CanRun 0 Any (lent table state m rooms) (i + 1)
    freezable_first (before, part, behind, o) = (body_smaller o, (_, _, _, body_stands o))

    module _ {state₁ : List ℕ} {m₁ : Progress} {rooms₁ : Rooms} {f : Flag} (run : HasRun 0 Any (lent table state m rooms) (i + 1) (lent table state₁ m₁ rooms₁) f) where
      pub freezable_stays : f ≢ STOP → HasRun 0 (OfKind freezable_kind) (lent table state m rooms) i (lent table state₁ m₁ rooms₁) f
      freezable_stays a before part behind o = freezable_went o run a

      pub freezable_pending : f ≡ STOP → CanRun 0 (OfKind freezable_kind) (lent table state m rooms) i
          → CanRun 1 Pending (lent table state₁ m₁ rooms₁) i
      freezable_pending e (before, part, behind, o) = (_, _, _, now_pending o run e)

      pub freezable_goes_on : f ≡ STOP → {L' : Lent} {r : Flag} → HasRun 1 Pending (lent table state₁ m₁ rooms₁) i L' r
          → HasRun 0 (OfKind freezable_kind) (lent table state m rooms) i L' r
      freezable_goes_on e then before part behind o = pending_went o run e then
