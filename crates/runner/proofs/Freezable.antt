-- A Freezable in its body, rules 40 and 41: if that stops, the Freezable is pending.
use Prim.Native.Nat.{ℕ, ◌+◌, ◌-◌, ◌<◌}
use mathlib.Core.Path.{◌≡◌, refl, ap, ◌∙◌}
use mathlib.Core.Logic.{◌≢◌}
use mathlib.Core.List.{List, ◌∷◌, append-nil}
use native.Mathlib.Omega.{arith}
use lib.ListN.{length, drop}
use borrow.Rule.Slice.PartMut.{mid_of, put_mid}
use Rattle.junior.specs.declared.Flag.{Flag}
use Rattle.junior.specs.declared.Flag.TheVariants.{STOP}
use Rattle.junior.specs.Program.{Freezable, kind}
use Rattle.junior.specs.Term.{Term, freezable0, freezable*, prog}
use Rattle.junior.specs.Trace.{Place, first}
use Rattle.junior.specs.Rules.{r40, r41}
use Rattle.junior.specs.Figures.{LoopsStop}
use Rattle.junior.specs.Inside.{Going, pot}
use Rattle.junior.proofs.Kept.{kept}
use Rattle.junior.proofs.Going.{stands}
use Rattle.state.specs.Kinds.{freezable_kind}
use Rattle.state.specs.StateBytes.{below}
use Rattle.state.proofs.Parts.{own_phase}
use Rattle.state.proofs.Shape.{Shape, is_done, is_freezable0, is_freezable*, shape_by}
use Rattle.state.proofs.Frames.{freezable_body}
use Rattle.steps.specs.Running.{Rooms, Ready, Ran, Live, Runs, Any, Kind}
use Rattle.steps.specs.Kinds.{Pending}
use Rattle.steps.proofs.Children.{at_node, falling, only_cut, first_at, phase_is}
use Rattle.steps.proofs.Done.{later, ready_as, room_after, few, ran_flag, ran_then, ran_long, back_long, phase_0_left, back_kept, ran_kept}
use Rattle.runner.proofs.Only.{only_asks, only_ran}

pub data Freezes : Term → Type 0 where
  in_body : (s : ℕ) (x : Term) → Freezes (freezable0 s x)

freezes_of : {t : Term} {ph : ℕ} → Shape t freezable_kind ph → ph ≢ 3 → ph ≢ 1 → Freezes t
freezes_of (is_freezable0 s x) a b = in_body s x
freezes_of (is_freezable* s x) a b = absurd (b refl)
freezes_of (is_done p e) a b = absurd (a refl)

pub freezes_by : {table : List ℕ} {i : ℕ} {state words : List ℕ} {rooms : Rooms} {tally : List ℕ} {t : Term} → Kind freezable_kind t
    → Ready 0 table i state words rooms tally t
    → own_phase state ≢ 1
    → Freezes t
freezes_by {t = t} w h a = freezes_of (shape_by t w.0 refl) w.1 (λ e. a (phase_is h ∙ e))

module _ {table : List ℕ} {i : ℕ} {state words : List ℕ} {rooms : Rooms} {tally : List ℕ} where
  pub body_asks : {t : Term} → Freezes t → Ready 0 table i state words rooms tally t
      → {k : ℕ} (rank : ℕ) → falling table i rank ≡ k
      → (falling table (i + 1) 3 < k) × Live 0 Any table (i + 1) (mid_of 4 (length state - 4) state) words rooms tally
  unfolding Going
  body_asks (in_body s x) h rank falls = only_asks (freezable_body s) h (omega arith) h.wide h.going rank falls

  module _ {s₁ words' : List ℕ} {rooms' : Rooms} {tally' : List ℕ} {α : Flag}
      (run : Runs 0 Any table (i + 1) (mid_of 4 (length state - 4) state) words rooms tally s₁ words' rooms' tally' α) where
    body_ran : (s : ℕ) (x : Term) → Ready 0 table i state words rooms tally (freezable0 s x) → (P : Place) → P.node ≡ i
        → Ran (first P) x words rooms tally s₁ words' rooms' tally' α
    unfolding Going
    body_ran s x h P at = only_ran (freezable_body s) h (omega arith) h.wide h.going run (first P) (first_at at)

    -- it goes on, or has ended
    pub freezable_waits : {t : Term} → Freezes t → Ready 0 table i state words rooms tally t → α ≢ STOP → (P : Place) → P.node ≡ i
        → Ran P t words rooms tally (put_mid 4 (length state - 4) state s₁) words' rooms' tally' α
    freezable_waits (in_body s x) h w P at =
        let g = body_ran s x h P at in
        let o = freezable_body s in
        ran_kept o h (only_cut h o) g g.lengths refl (phase_0_left α) (r40 g.rewrites w) refl

    -- it has stopped: the Freezable goes on as pending
    pending : (s : ℕ) (x : Term) (h : Ready 0 table i state words rooms tally (freezable0 s x))
        → {P : Place} (g : Ran P x words rooms tally s₁ words' rooms' tally' STOP)
        → Ready 1 table i (put_mid 4 (length state - 4) state s₁) words' rooms' tally' (freezable* s g.to)
    unfolding Going prog below pot LoopsStop
    pending s x h g =
        let o = freezable_body s in
        let u = only_cut h o in
        ready_as h (ap (Freezable s) (kept g.rewrites)) (back_long o h u s₁ (omega arith) (ran_long g)) g.lengths
        (ap (drop 1) (back_kept o h u s₁ refl) ∙ ap (λ l. 0 ∷ 0 ∷ 0 ∷ l) (append-nil s₁ ∙ g.bytes))
        (stands g.rewrites h.going)
        (room_after h g (freezable* s g.to) (λ k. simp (kept g.rewrites) (omega (arith, few k g h.loops))))

    pub pending_asks : {t : Term} → Freezes t → Ready 0 table i state words rooms tally t → α ≡ STOP
        → Live 1 Pending table i (put_mid 4 (length state - 4) state s₁) words' rooms' tally'
    unfolding kind prog
    pending_asks (in_body s x) h z =
        let g = ran_flag z (body_ran s x h (at_node i) refl) in
        (freezable* s g.to, (refl, refl), pending s x h g)

    pub freezable_stops : {t : Term} → Freezes t → Ready 0 table i state words rooms tally t → α ≡ STOP
        → {state'' words'' : List ℕ} {rooms'' : Rooms} {tally'' : List ℕ} {β : Flag}
        → Runs 1 Pending table i (put_mid 4 (length state - 4) state s₁) words' rooms' tally' state'' words'' rooms'' tally'' β
        → (P : Place)
        → P.node ≡ i
        → Ran P t words rooms tally state'' words'' rooms'' tally'' β
    unfolding kind prog
    freezable_stops (in_body s x) h z then P at =
        let g = ran_flag z (body_ran s x h P at) in
        let k = then (freezable* s g.to) (refl, refl) (pending s x h g) P at in
        ran_then h g k (r41 g.rewrites (later g.lengths k.rewrites))
