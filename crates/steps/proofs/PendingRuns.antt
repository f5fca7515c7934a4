-- A pending Freezable, rules 42 to 45, over all that is lent.
use Prim.Native.Nat.{ℕ, ◌+◌, ◌-◌, ◌*◌, ◌≤◌, ◌<◌}
use mathlib.Core.Bool.{true, false, ◌&&◌, not}
use mathlib.Core.Path.{◌≡◌, refl, ap, sym, subst, ◌∙◌}
use mathlib.Core.List.{List}
use native.Mathlib.Omega.{arith}
use lib.Dec.{lit<, eqb}
use lib.ListN.{length, get_or, set, replicate, length-replicate}
use borrow.Author.Tests.{eqb-true, not-true}
use borrow.Rule.Slice.PartMut.{put_mid}
use Rattle.events.specs.Members.{places, marks}
use Rattle.table.specs.Records.{argument_at, size_at}
use Rattle.table.proofs.Loaded.{size_stands}
use Rattle.junior.specs.declared.Flag.TheVariants.{SUSP, STOP, TERM}
use Rattle.state.specs.Kinds.{freezable_kind}
use Rattle.steps.specs.Running.{Rooms, rooms_of, Ran}
use Rattle.steps.specs.Kinds.{OfKind, Pending}
use Rattle.steps.specs.Progress.{words_of, tally_of}
use Rattle.steps.specs.Parking.{stays_pending, piece_from, Parked}
use Rattle.steps.specs.Lent.{lent, Around, Stands, CanRun, HasRun}
use Rattle.steps.proofs.Children.{own_in, unseen}
use Rattle.steps.proofs.Context.{byte_in, phase_in, put_phase, put_part, part_there, phase_at_lem}
use Rattle.steps.proofs.Kept.{kept_same}
use Rattle.steps.proofs.FlagNumbers.{set_there}
use Rattle.steps.proofs.Tested.{both_true}
use Rattle.steps.proofs.Tally.{byte_read}
use Rattle.steps.proofs.LoadedNode.{freezable_argument}
use Rattle.steps.proofs.Dispatch.{phase_is}
use Rattle.steps.proofs.LeafRuns.{ran_in}
use Rattle.steps.proofs.Pending.{pends_by, pending_room, pending_freezes, pending_freezes_late, pending_waits, pending_stops}
use Rattle.steps.specs.declared.progress.Progress.{Progress}

module _ {table : List ℕ} {i : ℕ} {state : List ℕ} {m : Progress} {rooms : Rooms} {before part behind : List ℕ}
    (o : Stands 1 Pending (lent table state m rooms) i before part behind) where
  -- its bytes are those of its size
  part_long : 4 * size_at table i ≡ length part
  part_long = let h = o.live.2 in omega (arith, h.long, size_stands h.placed)

  one_node_lem : 1 ≤ size_at table i
  one_node_lem = omega (arith, part_long, own_in o.live.2 3 (lit< tt))

  state_ends : 4 * i + 4 * size_at table i ≤ length state
  state_ends = let k = 4 * size_at table i in omega (arith, byte_in o.around (length part - 1) (omega (arith, part_long, one_node_lem)), part_long, one_node_lem)

  store_ends : m.parked + 4 * size_at table i ≤ length rooms.store
  store_ends = omega (arith, part_long, pending_room (pends_by o.live.0 o.live.1) o.live.2)

  module _ {a : ℕ} {state₁ : List ℕ} {m₁ : Progress} {store₁ : List ℕ} (p : Parked table i a state m rooms.store state₁ m₁ store₁) where
    around_cleared : Around state₁ i before (replicate (length part) 0) behind
    around_cleared = rw (p.state_is, part_long) (put_part o.around (replicate (length part) 0))

    stored : store₁ ≡ put_mid (m.parked) (length part) rooms.store (piece_from a (i + 1) part)
    stored = p.store_is ∙ rw (part_long, part_there o.around)

    counted : tally_of m₁ ≡ set (tally_of m) 3 (m.parked + length part)
    counted = ap tally_of p.progress_is ∙ ap (λ k. set (tally_of m) 3 (m.parked + k)) part_long

-- whether the end is declared is as it was
pub end_as_was : {table : List ℕ} {i a : ℕ} {state : List ℕ} {m : Progress} {store state₁ : List ℕ} {m₁ : Progress} {store₁ : List ℕ} → Parked table i a state m store state₁ m₁ store₁
    → m₁.ended ≡ m.ended
end_as_was p = ap (λ x. x.ended) p.progress_is

-- in the words of the needs
module _ {table : List ℕ} {i : ℕ} {state : List ℕ} {m : Progress} {rooms : Rooms} where
  pub pending_placed : CanRun 1 Pending (lent table state m rooms) i → argument_at table i < places
  pending_placed (before, part, behind, o) = freezable_argument o.live.2.placed o.live.1.0

  pub parks_one : CanRun 1 Pending (lent table state m rooms) i → 1 ≤ size_at table i
  parks_one (before, part, behind, o) = one_node_lem o

  pub parks_from : CanRun 1 Pending (lent table state m rooms) i → 4 * i + 4 * size_at table i ≤ length state
  parks_from (before, part, behind, o) = state_ends o

  pub parks_to : CanRun 1 Pending (lent table state m rooms) i → m.parked + 4 * size_at table i ≤ length rooms.store
  parks_to (before, part, behind, o) = store_ends o

  module _ {a : ℕ} (names : a ≡ argument_at table i) where
    module _ (on : marks (words_of m) a ≡ true) {state₁ : List ℕ} {m₁ : Progress} {store₁ : List ℕ} (p : Parked table i a state m rooms.store state₁ m₁ store₁) where
      pub cleared_writes : CanRun 1 Pending (lent table state m rooms) i → 4 * i < length state₁
      cleared_writes (before, part, behind, o) =
          phase_in (around_cleared o p) (omega (arith, length-replicate {A = ℕ} (length part) 0, own_in o.live.2 0 (lit< tt)))

      pub freezes_now : m.ended ≡ false
          → HasRun 1 Pending (lent table state m rooms) i (lent table state₁ m₁ (rooms_of rooms.row store₁)) TERM
      freezes_now z before part behind o =
          record {
            part' = replicate (length part) 0;
            around = around_cleared o p;
            kept = rw p.progress_is (record { long = refl; ended = refl; base = refl });
            runs = λ t w h P at.
                ran_in (ap words_of p.progress_is) (counted o p)
                (pending_freezes names on (stored o p) (pends_by t w) h (byte_read m.ended ∙ z) P at);
          }

      pub freezes_late : m.ended ≡ true
          → HasRun 1 Pending (lent table state m rooms) i (lent table (set state₁ (4 * i) 3) m₁ (rooms_of rooms.row store₁)) STOP
      freezes_late z before part behind o =
          record {
            part' = set (replicate (length part) 0) 0 3;
            around =
                put_phase (around_cleared o p) 3
                (omega (arith, length-replicate {A = ℕ} (length part) 0, own_in o.live.2 0 (lit< tt)));
            kept = rw p.progress_is (record { long = refl; ended = refl; base = refl });
            runs = λ t w h P at.
                ran_in (ap words_of p.progress_is) (counted o p)
                (pending_freezes_late names on (stored o p) (pends_by t w) h (byte_read m.ended ∙ z) P at);
          }

    module _ (off : marks (words_of m) a ≡ false) where
      pub pending_suspends : m.ended ≡ false
          → HasRun 1 Pending (lent table state m rooms) i (lent table (set state (4 * i) 1) m rooms) SUSP
      pending_suspends z before part behind o =
          record {
            part' = set part 0 1;
            around = put_phase o.around 1 (own_in o.live.2 0 (lit< tt));
            kept = kept_same m;
            runs = λ t w h P at. pending_waits names off (pends_by t w) h (byte_read m.ended ∙ z) P;
          }

      pub pending_refused : m.ended ≡ true
          → HasRun 1 Pending (lent table state m rooms) i (lent table (set state (4 * i) 0) m rooms) STOP
      pending_refused z before part behind o =
          record {
            part' = set part 0 0;
            around = put_phase o.around 0 (own_in o.live.2 0 (lit< tt));
            kept = kept_same m;
            runs = λ t w h P at. pending_stops names off (pends_by t w) h (byte_read m.ended ∙ z) P;
          }

-- a Freezable that is pending, its event absent and the end not declared, has run with everything as it was
module _ {table : List ℕ} {i : ℕ} {state : List ℕ} {m : Progress} {rooms : Rooms} where
  pub pending_stays : stays_pending table i (get_or state (4 * i) 0) m ≡ true
      → HasRun 0 (OfKind freezable_kind) (lent table state m rooms) i (lent table state m rooms) SUSP
  pending_stays e before part behind o =
      let phase = get_or state (4 * i) 0 in
      let on = marks (words_of m) (argument_at table i) in
      let (p, q) = both_true (eqb phase 1) (not m.ended && not on) e in
      let (z, off) = both_true (not m.ended) (not on) q in
      let starred = eqb-true phase 1 p in
      let there = sym (phase_at_lem o.around (own_in o.live.2 0 (lit< tt))) ∙ starred in
      record {
        part' = part;
        around = o.around;
        kept = kept_same m;
        runs = λ t w h P at.
            subst (λ (l : List ℕ). Ran P t (words_of m) rooms (tally_of m) l (words_of m) rooms (tally_of m) SUSP) (set_there part 0 1 there)
            (pending_waits refl (not-true on off) (pends_by t (w, sym (phase_is o.around h) ∙ starred)) (unseen h 1) (byte_read m.ended ∙ not-true m.ended z) P);
      }
