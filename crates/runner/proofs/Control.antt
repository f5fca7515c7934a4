-- A Control, rules 26 to 28: while its event is present its body runs; otherwise it waits, and stops at the end of the instant.
use Prim.Native.Nat.{ℕ, ◌+◌, ◌-◌, ◌<◌}
use mathlib.Core.Bool.{true, false}
use lib.Dec.{ltb}
use mathlib.Core.Path.{◌≡◌, refl, subst, ◌∙◌}
use mathlib.Core.Logic.{◌≢◌}
use mathlib.Core.List.{List}
use native.Mathlib.Omega.{arith}
use lib.ListN.{length}
use borrow.Rule.Slice.PartMut.{mid_of, put_mid}
use Rattle.events.specs.Members.{marks}
use Rattle.junior.specs.declared.Flag.{Flag}
use Rattle.junior.specs.declared.Flag.TheVariants.{SUSP, STOP}
use Rattle.junior.specs.declared.Verdict.TheVariants.{Sat}
use Rattle.junior.specs.Configuration.{Event, test}
use Rattle.junior.specs.Term.{Term, control, prog}
use Rattle.junior.specs.Trace.{Place, first, collect}
use Rattle.junior.specs.Rules.{r26, r27, r28}
use Rattle.junior.specs.Inside.{Going, Controlled}
use Rattle.junior.proofs.Verdicts.{test_event}
use Rattle.table.specs.Records.{argument_at}
use Rattle.table.specs.Spells.{Spells}
use Rattle.state.specs.Kinds.{control_kind}
use Rattle.state.proofs.Shape.{Shape, is_done, is_control, shape_by}
use Rattle.state.proofs.Frames.{control_body}
use Rattle.steps.specs.Running.{Rooms, Ready, Ran, Live, Runs, Any, Kind, env_of, end_declared}
use Rattle.steps.proofs.Children.{falling, only_cut, first_at}
use Rattle.steps.proofs.Done.{phase_0_left, ran_alone, ran_kept}
use Rattle.runner.proofs.Only.{only_asks, only_ran}

pub data Controls : Term → Type 0 where
  controls : (s : ℕ) (x : Term) → Controls (control s x)

controls_of : {t : Term} {ph : ℕ} → Shape t control_kind ph → ph ≢ 3 → Controls t
controls_of (is_control s x) n = controls s x
controls_of (is_done p e) n = absurd (n refl)

pub controls_by : (t : Term) → Kind control_kind t → Controls t
controls_by t w = controls_of (shape_by t w.0 refl) w.1

module _ {table : List ℕ} {i : ℕ} {state words : List ℕ} {rooms : Rooms} {tally : List ℕ} {a : ℕ} (names : a ≡ argument_at table i) where
  event_is : (s : ℕ) (x : Term) → Ready 0 table i state words rooms tally (control s x) → a ≡ s
  unfolding prog Spells
  event_is s x h = names ∙ h.placed.spelled.1

  -- its event is present
  module _ (on : marks words a ≡ true) where
    body_goes : (s : ℕ) (x : Term) → Ready 0 table i state words rooms tally (control s x) → Going (marks words) x
    unfolding Going
    body_goes s x h =
        let e : marks words s ≡ true = rw (event_is s x h) at on in
        subst (λ b. Controlled b (Going (marks words) x) x) e h.going

    pub control_asks : {t : Term} → Controls t → Ready 0 table i state words rooms tally t
        → {k : ℕ} (rank : ℕ) → falling table i rank ≡ k
        → (falling table (i + 1) 3 < k) × Live 0 Any table (i + 1) (mid_of 4 (length state - 4) state) words rooms tally
    control_asks (controls s x) h rank falls =
        only_asks (control_body s) h (omega arith) h.wide (body_goes s x h) rank falls

    pub control_runs : {t : Term} → Controls t → Ready 0 table i state words rooms tally t
        → {s words' : List ℕ} {rooms' : Rooms} {tally' : List ℕ} {α : Flag}
        → Runs 0 Any table (i + 1) (mid_of 4 (length state - 4) state) words rooms tally s words' rooms' tally' α
        → (P : Place)
        → P.node ≡ i
        → Ran P t words rooms tally (put_mid 4 (length state - 4) state s) words' rooms' tally' α
    unfolding collect
    control_runs (controls s x) h {α = α} run P at =
        let o = control_body s in
        let g = only_ran o h (omega arith) h.wide (body_goes s x h) run (first P) (first_at at) in
        let e : marks words s ≡ true = rw (event_is s x h) at on in
        let sat : test (Event s) (env_of words tally) ≡ Sat = test_event s (env_of words tally) ∙ rw e in
        ran_kept o h (only_cut h o) g g.lengths refl (phase_0_left α) (r26 sat g.rewrites) refl

  -- it is not
  module _ (off : marks words a ≡ false) where
    pub control_waits : {t : Term} → Controls t → Ready 0 table i state words rooms tally t
        → ltb 0 (end_declared tally) ≡ false → (P : Place) → Ran P t words rooms tally state words rooms tally SUSP
    unfolding collect
    control_waits (controls s x) h z P =
        let e : marks words s ≡ false = rw (event_is s x h) at off in
        ran_alone (r28 (test_event s (env_of words tally) ∙ rw (e, z))) refl h.bytes

    pub control_stops : {t : Term} → Controls t → Ready 0 table i state words rooms tally t
        → ltb 0 (end_declared tally) ≡ true → (P : Place) → Ran P t words rooms tally state words rooms tally STOP
    unfolding collect
    control_stops (controls s x) h z P =
        let e : marks words s ≡ false = rw (event_is s x h) at off in
        ran_alone (r27 (test_event s (env_of words tally) ∙ rw (e, z))) refl h.bytes
