-- A Loop, rules 12, 4 and 5. Rule 13 never comes about (L5).
use Prim.Native.Nat.{ℕ, ◌+◌, ◌-◌, ◌≤◌, ◌<◌}
use mathlib.Core.Bool.{true}
use mathlib.Core.Path.{◌≡◌, refl, ap, sym, ◌∙◌}
use mathlib.Core.Logic.{◌≢◌}
use mathlib.Core.List.{List, ◌∷◌, append-nil}
use native.Mathlib.Omega.{arith}
use lib.ListN.{length, drop, set}
use borrow.Rule.Slice.PartMut.{mid_of, put_mid}
use Rattle.junior.specs.declared.Flag.{Flag}
use Rattle.junior.specs.declared.Flag.TheVariants.{TERM}
use Rattle.junior.specs.Program.{Program, Loop, kind}
use Rattle.junior.specs.Term.{Term, loop0, loop1, prog, fresh}
use Rattle.junior.specs.Trace.{Place, first}
use Rattle.junior.specs.Rules.{r12, r4_loop, r5_loop}
use Rattle.junior.specs.Figures.{LoopsStop, stops}
use Rattle.junior.specs.Inside.{Going, pot}
use Rattle.junior.proofs.Fresh.{prog_fresh, held_fresh, fresh_at_rest}
use Rattle.junior.proofs.Held.{ends_unheld}
use Rattle.junior.proofs.NeverRoundTwice.{never_round_twice}
use Rattle.junior.proofs.Going.{rest_going}
use Rattle.junior.proofs.Figures.{pot_fresh}
use Rattle.state.specs.Kinds.{loop_kind}
use Rattle.state.specs.StateBytes.{below}
use Rattle.state.proofs.Parts.{fresh_zeros, own_phase}
use Rattle.state.proofs.Shape.{Shape, is_done, is_loop0, is_loop1, shape_by}
use Rattle.state.proofs.Frames.{loop_body}
use Rattle.steps.specs.Running.{Rooms, Ready, Ran, Live, Runs, Any, Kind}
use Rattle.runner.proofs.Stages.{Beginning}
use Rattle.steps.proofs.Children.{at_node, falling, only_cut, first_at, phase_is}
use Rattle.steps.proofs.Done.{later, same_lengths, ready_as, room_for, room_after, few, ran_flag, ran_zeros, ran_long, ran_then}
use Rattle.steps.proofs.Done.{back_kept, back_long, back_in, own_stays, ran_kept, ran_phase}
use Rattle.runner.proofs.Only.{only_asks, only_ran}

-- a Loop that is to begin its body
pub data Begins : Term → Type 0 where
  begins : (p : Program) → Begins (loop0 p)

begins_of : {t : Term} → Shape t loop_kind 0 → Begins t
begins_of (is_loop0 p) = begins p

pub begins_by : (t : Term) → Beginning t → Begins t
begins_by t w = begins_of (shape_by t w.0 w.1)

-- a fresh body that stops leaves nothing due after it
pot_begun : (k : Program → ℕ) (p : Program) → stops p ≡ true → pot k (loop1 (fresh p)) ≤ pot k (loop0 p)
unfolding pot
pot_begun k p e =
    simp (prog_fresh p, held_fresh p, e) (omega (arith, pot_fresh k p))

module _ {table : List ℕ} {i : ℕ} {state words : List ℕ} {rooms : Rooms} {tally : List ℕ} where
  -- the same bytes but for the phase: a Loop in its fresh body
  in_body : (p : Program) → Ready 1 table i state words rooms tally (loop0 p) → Ready 1 table i state words rooms tally (loop1 (fresh p))
  unfolding prog below Going LoopsStop
  in_body p h =
      ready_as h (ap Loop (prog_fresh p)) refl (same_lengths words tally)
      (h.bytes ∙ ap (λ l. 0 ∷ 0 ∷ 0 ∷ l) (sym (fresh_zeros p)))
      (rest_going _ (fresh p) (fresh_at_rest p))
      (room_for h (λ k. pot_begun k p h.loops.0))

  pub begin_asks : {t : Term} → Begins t → Ready 1 table i state words rooms tally t → {k : ℕ} (rank : ℕ) → falling table i rank ≡ k
      → (falling table (i + 1) 3 < k) × Live 0 Any table (i + 1) (mid_of 4 (length state - 4) state) words rooms tally
  unfolding Going
  begin_asks (begins p) h rank falls =
      let b = in_body p h in only_asks loop_body b (omega arith) b.wide b.going rank falls

  module _ {s words' : List ℕ} {rooms' : Rooms} {tally' : List ℕ} {α : Flag}
      (run : Runs 0 Any table (i + 1) (mid_of 4 (length state - 4) state) words rooms tally s words' rooms' tally' α) where
    body_ran : (p : Program) → Ready 1 table i state words rooms tally (loop0 p) → (P : Place) → P.node ≡ i
        → Ran (first P) (fresh p) words rooms tally s words' rooms' tally' α
    unfolding Going
    body_ran p h P at =
        let b = in_body p h in only_ran loop_body b (omega arith) b.wide b.going run (first P) (first_at at)

    -- it doesn't end
    goes_on : (p : Program) → Ready 1 table i state words rooms tally (loop0 p) → α ≢ TERM
    unfolding prog
    goes_on p h = never_round_twice.body p h.loops (body_ran p h (at_node i) refl).rewrites

    pub begin_writes : {t : Term} → Begins t → Ready 1 table i state words rooms tally t → 0 < length (put_mid 4 (length state - 4) state s)
    begin_writes (begins p) h =
        let b = in_body p h in
        back_in loop_body b (only_cut b loop_body) s (omega arith) (ran_long (body_ran p h (at_node i) refl)) 0 (omega arith)

    pub begin_ran : {t : Term} → Begins t → Ready 1 table i state words rooms tally t → (P : Place) → P.node ≡ i
        → Ran P t words rooms tally (set (put_mid 4 (length state - 4) state s) 0 1) words' rooms' tally' α
    begin_ran (begins p) h P at =
        let b = in_body p h in
        let g = body_ran p h P at in
        let w = goes_on p h in
        ran_phase loop_body b (only_cut b loop_body) g g.lengths (omega arith) refl loop_body (own_stays α w) (r12 g.rewrites w) refl

-- a Loop in the rest of its body
pub data Loops : Term → Type 0 where
  loops : (x : Term) → Loops (loop1 x)

loops_of : {t : Term} {ph : ℕ} → Shape t loop_kind ph → ph ≢ 3 → ph ≢ 0 → Loops t
loops_of (is_loop1 x) a b = loops x
loops_of (is_loop0 p) a b = absurd (b refl)
loops_of (is_done p e) a b = absurd (a refl)

module _ {table : List ℕ} {i : ℕ} {state words : List ℕ} {rooms : Rooms} {tally : List ℕ} where
  pub loops_by : {t : Term} → Kind loop_kind t → Ready 0 table i state words rooms tally t → own_phase state ≢ 0 → Loops t
  loops_by {t} w h n = loops_of (shape_by t w.0 refl) w.1 (λ e. n (phase_is h ∙ e))

  pub loop_asks : {t : Term} → Loops t → Ready 0 table i state words rooms tally t → {k : ℕ} (rank : ℕ) → falling table i rank ≡ k
      → (falling table (i + 1) 3 < k) × Live 0 Any table (i + 1) (mid_of 4 (length state - 4) state) words rooms tally
  unfolding Going
  loop_asks (loops x) h rank falls = only_asks loop_body h (omega arith) h.wide h.going rank falls

  module _ {s words' : List ℕ} {rooms' : Rooms} {tally' : List ℕ} {α : Flag}
      (run : Runs 0 Any table (i + 1) (mid_of 4 (length state - 4) state) words rooms tally s words' rooms' tally' α) where
    rest_ran : (x : Term) → Ready 0 table i state words rooms tally (loop1 x) → (P : Place) → P.node ≡ i
        → Ran (first P) x words rooms tally s words' rooms' tally' α
    unfolding Going
    rest_ran x h P at = only_ran loop_body h (omega arith) h.wide h.going run (first P) (first_at at)

    -- it waits
    pub loop_waits : {t : Term} → Loops t → Ready 0 table i state words rooms tally t → α ≢ TERM → (P : Place) → P.node ≡ i
        → Ran P t words rooms tally (put_mid 4 (length state - 4) state s) words' rooms' tally' α
    loop_waits (loops x) h w P at =
        let g = rest_ran x h P at in
        ran_kept loop_body h (only_cut h loop_body) g g.lengths refl (own_stays α w) (r5_loop g.rewrites w) refl

    -- it has ended: the Loop begins anew
    anew : (x : Term) → Ready 0 table i state words rooms tally (loop1 x) → α ≡ TERM
        → Ready 1 table i (put_mid 4 (length state - 4) state s) words' rooms' tally' (loop0 (prog x))
    unfolding Going prog below pot LoopsStop
    anew x h z =
        let u = only_cut h loop_body in
        let g = ran_flag z (rest_ran x h (at_node i) refl) in
        ready_as h refl (back_long loop_body h u s (omega arith) (ran_long g)) g.lengths
        (ap (drop 1) (back_kept loop_body h u s refl)
        ∙ ap (λ l. 0 ∷ 0 ∷ 0 ∷ l) (append-nil s ∙ ran_zeros g))
        tt
        (room_after h g (loop0 (prog x)) (λ k. simp (ends_unheld g.rewrites) (omega (arith, few k g h.loops.1))))

    pub anew_asks : {t : Term} → Loops t → Ready 0 table i state words rooms tally t → α ≡ TERM
        → Live 1 Beginning table i (put_mid 4 (length state - 4) state s) words' rooms' tally'
    unfolding prog kind
    anew_asks (loops x) h z = (loop0 (prog x), (refl, refl), anew x h z)

    pub loop_again : {t : Term} → Loops t → Ready 0 table i state words rooms tally t → α ≡ TERM
        → {state'' words'' : List ℕ} {rooms'' : Rooms} {tally'' : List ℕ} {β : Flag}
        → Runs 1 Beginning table i (put_mid 4 (length state - 4) state s) words' rooms' tally' state'' words'' rooms'' tally'' β
        → (P : Place)
        → P.node ≡ i
        → Ran P t words rooms tally state'' words'' rooms'' tally'' β
    unfolding prog kind
    loop_again (loops x) h z then P at =
        let g = ran_flag z (rest_ran x h P at) in
        let k = then (loop0 (prog x)) (refl, refl) (anew x h z) P at in
        ran_then h g k (r4_loop g.rewrites (later g.lengths k.rewrites))
