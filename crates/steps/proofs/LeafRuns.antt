-- What the forms without children do, over all that is lent: rules 1, 2, 3 and 16.
use Prim.Native.Nat.{ℕ, ◌+◌, ◌*◌, ◌<◌}
use mathlib.Core.Bool.{true}
use mathlib.Core.Path.{◌≡◌, refl, ap, sym, subst, ◌∙◌}
use mathlib.Core.Logic.{◌≢◌}
use mathlib.Core.List.{List}
use native.Mathlib.Omega.{arith}
use lib.Dec.{lit<, ltb}
use lib.ListN.{length, get_or, set}
use borrow.Author.Tests.{lt-ltb}
use Rattle.events.specs.Events.{put}
use Rattle.events.specs.Members.{places, marks}
use Rattle.junior.specs.declared.Flag.{Flag}
use Rattle.junior.specs.declared.Flag.TheVariants.{STOP, TERM}
use Rattle.junior.specs.Program.{size}
use Rattle.junior.specs.Term.{Term, prog}
use Rattle.junior.specs.Trace.{Place, collect}
use Rattle.junior.specs.Rules.{r1}
use Rattle.table.specs.Records.{argument_at}
use Rattle.table.specs.Spells.{Spells}
use Rattle.state.specs.Kinds.{nothing_kind, stop_kind, atom_kind, generate_kind}
use Rattle.state.specs.StateBytes.{below}
use Rattle.state.proofs.Shape.{Shape, is_done, is_nothing, is_generate, shape_by}
use Rattle.steps.specs.Running.{Rooms, rooms_of, Ready, Ran}
use Rattle.steps.proofs.LoadedNode.{generate_placed}
use Rattle.steps.proofs.Children.{own_in}
use Rattle.steps.proofs.Done.{ran_alone}
use Rattle.steps.proofs.LeafParts.{done_ran, stop_ran, atom_room, atom_ran, generate_ran}
use Rattle.steps.specs.Progress.{words_of, Put}
use Rattle.steps.specs.Kinds.{OfKind}
use Rattle.steps.specs.Lent.{lent, CanRun, HasRun}
use Rattle.steps.proofs.Context.{put_phase}
use Rattle.steps.proofs.Kept.{kept_same, kept_then, words_wide}
use Rattle.steps.proofs.Dispatch.{phase_is}
use Rattle.steps.specs.declared.progress.Progress.{Progress}

-- by words and a tally that are the same
pub ran_in : {P : Place} {t : Term} {words : List ℕ} {rooms : Rooms} {tally state' words' : List ℕ} {rooms' : Rooms} {tally' words'' tally'' : List ℕ} {α : Flag}
    → words'' ≡ words'
    → tally'' ≡ tally'
    → Ran P t words rooms tally state' words' rooms' tally' α
    → Ran P t words rooms tally state' words'' rooms' tally'' α
ran_in {P} {t} {words} {rooms} {tally} {state'} {words'} {rooms'} {tally'} {words''} {tally''} {α} e f g =
    subst (λ (w : List ℕ). Ran P t words rooms tally state' w rooms' tally'' α) (sym e)
    (subst (λ (l : List ℕ). Ran P t words rooms tally state' words' rooms' l α) (sym f) g)

nothing_ran : {table : List ℕ} {i : ℕ} {state words : List ℕ} {rooms : Rooms} {tally : List ℕ} {P : Place} {t : Term} {ph : ℕ} → Shape t nothing_kind ph
    → Ready 0 table i state words rooms tally t
    → Ran P t words rooms tally (set state 0 0) words rooms tally TERM
unfolding collect below size prog
nothing_ran is_nothing h = ran_alone r1 refl (ap (λ (l : List ℕ). set l 0 0) h.bytes)
nothing_ran (is_done p k) h = done_ran (is_done p k) h

pub event_below : {e a : ℕ} → e ≡ a → a < places → e < places
event_below e l = omega arith

event_of : {table : List ℕ} {i : ℕ} {part words : List ℕ} {rooms : Rooms} {tally : List ℕ} {t : Term} {ph : ℕ} → Shape t generate_kind ph → ph ≢ 3
    → Ready 0 table i part words rooms tally t
    → argument_at table i < places
unfolding prog Spells
event_of (is_done p k) n h = absurd (n refl)
event_of (is_generate s) n h = omega (arith, generate_placed h.placed, h.placed.spelled.1)

module _ {table : List ℕ} {i : ℕ} {state : List ℕ} {m : Progress} {rooms : Rooms} where
  pub nothing_run : HasRun 0 (OfKind nothing_kind) (lent table state m rooms) i (lent table (set state (4 * i) 0) m rooms) TERM
  nothing_run before part behind o =
      record {
        part' = set part 0 0;
        around = put_phase o.around 0 (own_in o.live.2 0 (lit< tt));
        kept = kept_same m;
        runs = λ t w h P at. nothing_ran (shape_by t w refl) h;
      }

  module _ (on : get_or state (4 * i) 0 ≢ 3) where
    pub stop_run : HasRun 0 (OfKind stop_kind) (lent table state m rooms) i (lent table (set state (4 * i) 3) m rooms) STOP
    stop_run before part behind o =
        record {
          part' = set part 0 3;
          around = put_phase o.around 3 (own_in o.live.2 0 (lit< tt));
          kept = kept_same m;
          runs = λ t w h P at. stop_ran (shape_by t w refl) (λ e. on (phase_is o.around h ∙ e)) h;
        }

    pub atom_fits : CanRun 0 (OfKind atom_kind) (lent table state m rooms) i → m.done < length rooms.row
    atom_fits (before, part, behind, o) =
        let (t, w, h) = o.live in atom_room (shape_by t w refl) (λ e. on (phase_is o.around h ∙ e)) h

    -- the atom a goes into the row, which then has d
    pub atom_run : (a d : ℕ) → a ≡ argument_at table i → d ≡ m.done + 1
        → {row' : List ℕ} → row' ≡ set rooms.row (m.done) a
        → HasRun 0 (OfKind atom_kind) (lent table state m rooms) i (lent table state (record m { done = d }) (rooms_of row' rooms.store)) TERM
    atom_run a d names counts {row'} is before part behind o =
        record {
          part' = part;
          around = o.around;
          kept = record { long = refl; ended = refl; base = refl };
          runs = λ t w h P at.
              rw (is, counts) (atom_ran (shape_by t w refl) (λ e. on (phase_is o.around h ∙ e)) h a names);
        }

    pub event_placed : CanRun 0 (OfKind generate_kind) (lent table state m rooms) i → argument_at table i < places
    event_placed (before, part, behind, o) =
        let (t, w, h) = o.live in event_of (shape_by t w refl) (λ e. on (phase_is o.around h ∙ e)) h

    pub generate_run : (e : ℕ) → e ≡ argument_at table i → e < places → {m₁ : Progress} → Put e true m m₁
        → HasRun 0 (OfKind generate_kind) (lent table state m rooms) i (lent table state (record m₁ { moved = true }) rooms) TERM
    generate_run e names there {m₁} q before part behind o =
        let in_set : put e true (marks (words_of m)) ≡ put e (ltb e (64 * length (words_of m))) (marks (words_of m)) =
        rw (lt-ltb e (64 * length (words_of m)) (omega (arith, words_wide o.holds))) in
        record {
          part' = part;
          around = o.around;
          kept = kept_then q.kept (record { long = refl; ended = refl; base = refl });
          runs = λ t w h P at.
              ran_in refl (ap (λ (l : List ℕ). set l 1 1) q.tally)
              (generate_ran (shape_by t w refl) (λ z. on (phase_is o.around h ∙ z)) h e names (words_of m₁) q.wide (q.events ∙ in_set));
        }
