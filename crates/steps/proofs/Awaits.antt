-- An Await, rules 22 to 25, over all that is lent; what reading a node's test comes to.
use Prim.Native.Nat.{ℕ, ◌*◌}
use mathlib.Core.Bool.{Bool, true, false, ◌||◌}
use mir.Val.{bool_byte}
use mathlib.Core.Path.{◌≡◌, refl, sym, ap, ◌∙◌}
use mathlib.Core.Logic.{◌≢◌}
use mathlib.Core.List.{List}
use native.Mathlib.Omega.{arith}
use lib.Dec.{lit<, ltb}
use lib.ListN.{get_or, set}
use borrow.Author.Tests.{eqb-true}
use Rattle.events.specs.Members.{marks}
use Rattle.junior.specs.declared.Flag.TheVariants.{SUSP, STOP, TERM}
use Rattle.junior.specs.declared.Verdict.TheVariants.{Sat, Unsat, Unknown}
use Rattle.junior.specs.Configuration.{Config, Event, Not, And, Or, test, fixed, eval, verdict}
use Rattle.table.specs.Records.{part_kind, part_event}
use Rattle.table.specs.Spells.{Configured, tested}
use Rattle.state.specs.Kinds.{await_kind}
use Rattle.state.proofs.Shape.{shape_by}
use Rattle.steps.specs.Running.{Rooms, TestRead}
use Rattle.steps.proofs.Children.{own_in}
use Rattle.steps.proofs.LeafParts.{await_has, await_waits, await_fails, await_ends, await_stops}
use Rattle.steps.proofs.Tally.{byte_read}
use Rattle.steps.specs.Progress.{words_of, tally_of}
use Rattle.steps.specs.Kinds.{OfKind}
use Rattle.steps.specs.Tests.{CanTest, TestIs, lone_event}
use Rattle.steps.specs.Lent.{lent, CanRun, HasRun}
use Rattle.steps.proofs.Context.{put_phase}
use Rattle.steps.proofs.Kept.{kept_same}
use Rattle.steps.proofs.Dispatch.{phase_is}
use Rattle.steps.specs.declared.progress.Progress.{Progress}

-- a lone event is read by its presence and by whether the end is declared
lone_read : (table : List ℕ) (c : ℕ) (words : List ℕ) (d : Config) → Configured table c d → part_kind table c ≡ 0
    → (b : Bool) → marks words (part_event table c) ≡ b → (eoi moved : Bool)
    → verdict (b || eoi) b ≡ test d (record { now = marks words; eoi = eoi; move = moved })
unfolding Configured test fixed eval
lone_read table c words (Event s) h k b a eoi moved = rw (← h.2, a)
lone_read table c words (Not d) h k b a eoi moved = absurd (omega (arith, h.0))
lone_read table c words (And d e) h k b a eoi moved = absurd (omega (arith, h.0))
lone_read table c words (Or d e) h k b a eoi moved = absurd (omega (arith, h.0))

lone_ranked : (table : List ℕ) (i : ℕ) (m : Progress) → lone_event table i ≡ true
    → (b : Bool) → marks (words_of m) (part_event table (tested table i)) ≡ b
    → TestRead table i (words_of m) (tally_of m) (verdict (b || ltb 0 (bool_byte m.ended)) b)
lone_ranked table i m lone b a d h = lone_read table (tested table i) (words_of m) d h (eqb-true _ _ lone) b a _ _

lone_sat : (table : List ℕ) (i : ℕ) (m : Progress) → lone_event table i ≡ true
    → marks (words_of m) (part_event table (tested table i)) ≡ true → TestIs table i m Sat
lone_sat table i m lone here = lone_ranked table i m lone true here

lone_absent : (table : List ℕ) (i : ℕ) (m : Progress) → lone_event table i ≡ true
    → marks (words_of m) (part_event table (tested table i)) ≡ false → {b : Bool} → m.ended ≡ b → TestIs table i m (verdict b false)
lone_absent table i m lone off z d h =
    ap (λ (b : Bool). verdict b false) (sym (byte_read m.ended ∙ z)) ∙ lone_ranked table i m lone false off d h

module _ {table : List ℕ} {i : ℕ} {state : List ℕ} {m : Progress} {rooms : Rooms} (on : get_or state (4 * i) 0 ≢ 3) where
  pub await_tests : CanRun 0 (OfKind await_kind) (lent table state m rooms) i → CanTest table i m
  await_tests (before, part, behind, o) =
      let (t, w, h) = o.live in
      record { has = await_has (shape_by t w refl) (λ e. on (phase_is o.around h ∙ e)) h; holds = o.holds }

  pub await_suspends : TestIs table i m Unknown → HasRun 0 (OfKind await_kind) (lent table state m rooms) i (lent table state m rooms) SUSP
  await_suspends reads before part behind o =
      record {
        part' = part;
        around = o.around;
        kept = kept_same m;
        runs = λ t w h P at. await_waits reads (shape_by t w refl) (λ e. on (phase_is o.around h ∙ e)) h refl;
      }

  pub await_refused : TestIs table i m Unsat → HasRun 0 (OfKind await_kind) (lent table state m rooms) i (lent table state m rooms) STOP
  await_refused reads before part behind o =
      record {
        part' = part;
        around = o.around;
        kept = kept_same m;
        runs = λ t w h P at. await_fails reads (shape_by t w refl) (λ e. on (phase_is o.around h ∙ e)) h refl;
      }

  pub await_met : TestIs table i m Sat → m.ended ≡ false → HasRun 0 (OfKind await_kind) (lent table state m rooms) i (lent table state m rooms) TERM
  await_met reads z before part behind o =
      record {
        part' = part;
        around = o.around;
        kept = kept_same m;
        runs = λ t w h P at.
            await_ends reads (shape_by t w refl) (λ e. on (phase_is o.around h ∙ e)) h refl (byte_read m.ended ∙ z);
      }

  pub await_met_late : TestIs table i m Sat → m.ended ≡ true
      → HasRun 0 (OfKind await_kind) (lent table state m rooms) i (lent table (set state (4 * i) 3) m rooms) STOP
  await_met_late reads z before part behind o =
      record {
        part' = set part 0 3;
        around = put_phase o.around 3 (own_in o.live.2 0 (lit< tt));
        kept = kept_same m;
        runs = λ t w h P at.
            await_stops reads (shape_by t w refl) (λ e. on (phase_is o.around h ∙ e)) h refl (byte_read m.ended ∙ z);
      }

  -- one that is present
  module _ (lone : lone_event table i ≡ true) (here : marks (words_of m) (part_event table (tested table i)) ≡ true) where
    pub lone_met : m.ended ≡ false → HasRun 0 (OfKind await_kind) (lent table state m rooms) i (lent table state m rooms) TERM
    lone_met z = await_met (lone_sat table i m lone here) z

    pub lone_met_late : m.ended ≡ true
        → HasRun 0 (OfKind await_kind) (lent table state m rooms) i (lent table (set state (4 * i) 3) m rooms) STOP
    lone_met_late z = await_met_late (lone_sat table i m lone here) z

  -- one that is absent: whether the end is declared decides
  module _ (lone : lone_event table i ≡ true) (absent : marks (words_of m) (part_event table (tested table i)) ≡ false) where
    pub lone_waits : m.ended ≡ false → HasRun 0 (OfKind await_kind) (lent table state m rooms) i (lent table state m rooms) SUSP
    lone_waits z = await_suspends (lone_absent table i m lone absent z)

    pub lone_refused : m.ended ≡ true → HasRun 0 (OfKind await_kind) (lent table state m rooms) i (lent table state m rooms) STOP
    lone_refused z = await_refused (lone_absent table i m lone absent z)
