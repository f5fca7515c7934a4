-- A Local, rules 35 to 39, over all that is lent.
use Prim.Native.Nat.{ℕ, ◌+◌, ◌-◌, ◌*◌, ◌<◌}
use mathlib.Core.Bool.{Bool, and-true}
use mathlib.Core.Path.{◌≡◌, refl, sym, subst, ◌∙◌}
use mathlib.Core.Logic.{◌≢◌}
use mathlib.Core.List.{List, ◌++◌}
use native.Mathlib.Omega.{arith}
use lib.Dec.{lit<, eqb}
use lib.ListN.{length, get_or, take, drop, set}
use borrow.Author.Tests.{lt-ltb}
use borrow.Rule.Slice.PartMut.{mid_of, put_mid}
use Rattle.junior.specs.declared.Flag.{Flag}
use Rattle.events.specs.Members.{places, marks}
use Rattle.junior.specs.Term.{Term, prog}
use Rattle.table.specs.Records.{argument_at, size_at}
use Rattle.table.specs.Spells.{Spells}
use Rattle.state.specs.Kinds.{local_kind}
use Rattle.state.proofs.Parts.{own_phase}
use Rattle.steps.specs.Running.{Rooms, Ready, Live, Runs, Any, sign_after}
use Rattle.steps.proofs.LoadedNode.{local_placed}
use Rattle.steps.proofs.Children.{own_in}
use Rattle.runner.proofs.Local.{Locals, locals, locals_by, Marked, local_asks, local_writes, local_ran}
use Rattle.steps.specs.Progress.{words_of, tally_of, Put}
use Rattle.steps.specs.Kinds.{OfKind}
use Rattle.steps.specs.Lent.{lent, Around, Stands, Went, CanRun, HasRun}
use Rattle.steps.proofs.Context.{phase_at_lem, phase_in, put_phase, inner, outer}
use Rattle.steps.proofs.Kept.{kept_then, still, words_wide}
use Rattle.steps.proofs.LeafRuns.{ran_in}
use Rattle.steps.proofs.Dispatch.{phase_is}
use Rattle.runner.proofs.Falling.{smaller_by}
use Rattle.steps.specs.declared.progress.Progress.{Progress}

-- the row's words are marked as the present laws say it
marked_by : {e : ℕ} {b : Bool} {m m' : Progress} → Put e b m m' → 64 * length (words_of m) ≡ places → e < places
    → Marked e b (words_of m) (words_of m')
marked_by {e = e} {m = m} q wide there =
    record {
      long = q.wide;
      now_marked = q.events ∙ rw (lt-ltb e (64 * length (words_of m)) (omega arith), and-true);
    }

event_there : {table : List ℕ} {i : ℕ} {part words : List ℕ} {rooms : Rooms} {tally : List ℕ} {t : Term} → Locals t → Ready 0 table i part words rooms tally t
    → argument_at table i < places
unfolding prog Spells
event_there (locals b e x) h = omega (arith, local_placed h.placed, h.placed.spelled.1)

module _ {table : List ℕ} {i : ℕ} {state : List ℕ} (on : get_or state (4 * i) 0 ≢ 3) {m : Progress} {rooms : Rooms} {before part behind : List ℕ}
    (o : Stands 0 (OfKind local_kind) (lent table state m rooms) i before part behind) where
  as_local : {t : Term} → OfKind local_kind t → {words tally : List ℕ} → Ready 0 table i part words rooms tally t → Locals t
  as_local {t} w h = locals_by t (w, λ e. on (phase_is o.around h ∙ e))

  pub local_event : argument_at table i < places
  local_event = event_there (as_local o.live.1 o.live.2) o.live.2

  module _ {e : ℕ} (names : e ≡ argument_at table i) {m₁ : Progress} (q : Put e (eqb (get_or state (4 * i) 0) 1) m m₁) where
    there : e < places
    there = omega (arith, local_event)

    inside_marked : Marked e (eqb (own_phase part) 1) (words_of m) (words_of m₁)
    inside_marked =
        rw (phase_at_lem o.around (own_in o.live.2 0 (lit< tt))) at (marked_by q (words_wide o.holds) there)

    asks : (size_at table (i + 1) < size_at table i) × Live 0 Any table (i + 1) (mid_of 4 (length part - 4) part) (words_of m₁) rooms (tally_of m)
    asks =
        let (l, v) = local_asks names inside_marked (as_local o.live.1 o.live.2) o.live.2 1 refl in
        (smaller_by table i (i + 1) l, v)

    pub body_stands : Stands 0 Any (lent table state m₁ rooms) (i + 1) (before ++ take 4 part) (mid_of 4 (length part - 4) part)
        (drop (length part - 4) (drop 4 part) ++ behind)
    body_stands =
        record {
          around = inner o.around 4 (length part - 4) (own_in o.live.2 3 (lit< tt)) (omega arith);
          holds = still o.holds q.kept;
          live =
              subst (λ (l : List ℕ). Live 0 Any table (i + 1) (mid_of 4 (length part - 4) part) (words_of m₁) rooms l) (sym q.tally) asks.1;
        }

    pub body_smaller : size_at table (i + 1) < size_at table i
    body_smaller = asks.0

    module _ {state₁ : List ℕ} {m₂ : Progress} {rooms₁ : Rooms} {f : Flag} (run : HasRun 0 Any (lent table state m₁ rooms) (i + 1) (lent table state₁ m₂ rooms₁) f) where
      pub body_went : Went 0 Any (lent table state m₁ rooms) (i + 1) (before ++ take 4 part) (mid_of 4 (length part - 4) part)
          (drop (length part - 4) (drop 4 part) ++ behind) (lent table state₁ m₂ rooms₁) f
      body_went = run _ _ _ body_stands

      abbrev pub part₁ : List ℕ
      part₁ = put_mid 4 (length part - 4) part body_went.part'

      pub around₁ : Around state₁ i before part₁ behind
      around₁ = outer o.around 4 (length part - 4) body_went.around

      -- it ran with the tally of the entry
      abbrev Body : List ℕ → Type 0
      Body tally =
          Runs 0 Any table (i + 1) (mid_of 4 (length part - 4) part) (words_of m₁) rooms tally
          body_went.part' (words_of m₂) rooms₁ (tally_of m₂) f

      body_runs : Body (tally_of m)
      body_runs = subst Body q.tally body_went.runs

      writes : 0 < length part₁
      writes = local_writes names inside_marked body_runs (as_local o.live.1 o.live.2) o.live.2

      pub phase_there : 4 * i < length state₁
      phase_there = phase_in around₁ writes

      pub local_went : {outside present : Bool} → outside ≡ marks (words_of m) e → present ≡ marks (words_of m₂) e
          → {m₃ : Progress} → Put e outside m₂ m₃ → {ph : ℕ} → ph ≡ sign_after f present
          → Went 0 (OfKind local_kind) (lent table state m rooms) i before part behind (lent table (set state₁ (4 * i) ph) m₃ rooms₁) f
      local_went was found {m₃} q₃ {ph} after =
          let wide = words_wide (still (still o.holds q.kept) body_went.kept) in
          record {
            part' = set part₁ 0 ph;
            around = put_phase around₁ ph writes;
            kept = kept_then q.kept (kept_then body_went.kept q₃.kept);
            runs = λ t w h P at.
                ran_in refl q₃.tally
                (local_ran names inside_marked body_runs (as_local w h) h was found (marked_by q₃ wide there) after P at);
          }

-- in the words of the needs
module _ {table : List ℕ} {i : ℕ} {state : List ℕ} {m : Progress} {rooms : Rooms} (on : get_or state (4 * i) 0 ≢ 3) {e : ℕ} (names : e ≡ argument_at table i) where
  pub local_enters : CanRun 0 (OfKind local_kind) (lent table state m rooms) i → e < places
  local_enters (before, part, behind, o) = omega (arith, local_event on o)

  module _ {m₁ : Progress} (q : Put e (eqb (get_or state (4 * i) 0) 1) m m₁) where
    pub local_body : CanRun 0 (OfKind local_kind) (lent table state m rooms) i
        → (size_at table (i + 1) < size_at table i) × CanRun 0 Any (lent table state m₁ rooms) (i + 1)
    local_body (before, part, behind, o) = (body_smaller on o names q, (_, _, _, body_stands on o names q))

    module _ {state₁ : List ℕ} {m₂ : Progress} {rooms₁ : Rooms} {f : Flag} (run : HasRun 0 Any (lent table state m₁ rooms) (i + 1) (lent table state₁ m₂ rooms₁) f) where
      pub local_writes_in : CanRun 0 (OfKind local_kind) (lent table state m rooms) i → 4 * i < length state₁
      local_writes_in (before, part, behind, o) = phase_there on o names q run

      pub local_done : {outside : Bool} → outside ≡ marks (words_of m) e → {present : Bool} {m₃ : Progress}
          → (present ≡ marks (words_of m₂) e) × Put e outside m₂ m₃ → {ph : ℕ} → ph ≡ sign_after f present
          → HasRun 0 (OfKind local_kind) (lent table state m rooms) i (lent table (set state₁ (4 * i) ph) m₃ rooms₁) f
      local_done was (found, q₃) after before part behind o = local_went on o names q run was found q₃ after
