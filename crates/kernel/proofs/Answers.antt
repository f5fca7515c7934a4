-- From the state's own bytes to the whole room, and from what the parts of an instant promise to its answer.
use Prim.Native.Nat.{ℕ, ◌+◌, ◌*◌, ◌≤◌, ◌<◌}
use mathlib.Core.Path.{◌≡◌, ap, sym, ◌∙◌}
use mathlib.Core.List.{List, [], ◌++◌, append-nil}
use native.Mathlib.Omega.{arith}
use lib.ListN.{length, get_or, take, drop, length-drop, drop_of_length-le}
use lib.Seq.{length-take-le, take_all}
use Rattle.events.specs.Events.{Events}
use Rattle.junior.specs.Values.{Values}
use Rattle.junior.specs.Trace.{parks}
use Rattle.std.specs.Prelude.{Ok}
use Rattle.table.specs.Records.{nodes}
use Rattle.state.specs.StateBytes.{state_bytes}
use Rattle.state.specs.Pieces.{pieces_bytes}
use Rattle.state.proofs.Standing.{standing}
use Rattle.store.specs.Store.{in_use, two}
use Rattle.store.proofs.Room.{room_fits}
use Rattle.kernel.specs.declared.passes.Ending.{Ending}
use Rattle.kernel.specs.Answer.{rooms, instant_outcome, Run, Answered}
use Rattle.kernel.specs.Passes.{Startable, RanFree}
use Rattle.kernel.proofs.Accepted.{admitted}
use Rattle.kernel.proofs.FreePart.{good_fits, few_parked, begun_empty, in_store}
use Rattle.kernel.proofs.Outcomes.{Passed}

pub startable : (t s : List ℕ) {X : Events} {row store : List ℕ} → Passed t s X (rooms row store) → ((i : ℕ) → get_or s i 0 < 256)
    → Startable t (take (4 * nodes t) s) row (drop (2 + in_use store) store)
startable t s {store = store} p b =
    let o = admitted t p.verdict in
    let (x, program, bytes, at_rest) = standing t s o.placed b p.room p.rest in
    let fits = room_fits store p.parked (good_fits t store p.store_passes) p.parking_room in
    record {
      term = x;
      program = program;
      placed = rw program o.placed;
      loops = rw program o.loops;
      long = length-take-le (4 * nodes t) s p.room;
      bytes = bytes;
      at_rest = at_rest;
      few = rw program o.few;
      room = rw (program, ← o.A_is) p.row_room;
      parking_room = rw (program, ← o.F_is) (simp length-drop (omega arith));
    }

-- what was run in the state's own bytes and the store's free part was run in the rooms
run_in_rooms : {t s : List ℕ} {X : Events} {value : Values} {row store s' row' free' : List ℕ} {r : Ending} → Passed t s X (rooms row store)
    → (o : RanFree t (take (4 * nodes t) s) X value row (drop (2 + in_use store) store) s' row' free' r)
    → Run t s X value (rooms row store) (s' ++ drop (4 * nodes t) s)
    (rooms row' (two (in_use store + r.parked) ++ drop 2 (take (2 + in_use store) store ++ free'))) r.answer
run_in_rooms {t} {s} {store = store} {free' = free'} {r = r} p ran =
    let o = ran.run in
    let b = pieces_bytes (parks o.result.acts) in
    let long = length-take-le (4 * nodes t) s p.room in
    let all : take (4 * nodes t) (take (4 * nodes t) s) ≡ take (4 * nodes t) s = take_all (4 * nodes t) (take (4 * nodes t) s) (omega arith) in
    let none : drop (4 * nodes t) (take (4 * nodes t) s) ≡ [] =
    drop_of_length-le (take (4 * nodes t) s) {i = 4 * nodes t} (omega arith) in
    let few : length b ≤ p.parked = few_parked p.verdict o in
    let fits = room_fits store p.parked (good_fits t store p.store_passes) p.parking_room in
    let written : free' ≡ b ++ drop (length b) (drop (2 + in_use store) store) =
    ap (drop 2) (o.store_is ∙ begun_empty b (drop (2 + in_use store) store)) in
    record {
      term = o.term;
      program = o.program;
      bytes = sym all ∙ o.bytes;
      at_rest = o.at_rest;
      result = o.result;
      instant = o.instant;
      events_are = o.events_are;
      count_is = o.count_is;
      lowest_is = o.lowest_is;
      atoms_are = o.atoms_are;
      finished_is = o.finished_is;
      waits_node_is = o.waits_node_is;
      waits_event_is = o.waits_event_is;
      state_is =
          ap
          (λ l. l ++ drop (4 * nodes t) s)
          (o.state_is ∙ (ap (λ l. state_bytes o.result.to ++ l) none ∙ append-nil (state_bytes o.result.to)));
      row_is = o.row_is;
      store_is =
          ap (λ (n : ℕ). two (in_use store + n) ++ drop 2 (take (2 + in_use store) store ++ free')) ran.parked_is
          ∙ in_store b store (omega arith) free' written;
    }

pub answered_ran : {t s : List ℕ} {X : Events} {value : Values} {row store s' row' free' : List ℕ} {r : Ending} → Passed t s X (rooms row store)
    → Ok tt ≡ instant_outcome t s X (rooms row store)
    → RanFree t (take (4 * nodes t) s) X value row (drop (2 + in_use store) store) s' row' free' r
    → Answered t s X value (rooms row store) (s' ++ drop (4 * nodes t) s)
    (rooms row' (two (in_use store + r.parked) ++ drop 2 (take (2 + in_use store) store ++ free'))) (Ok r.answer)
answered_ran p i o = record { outcome_is = i; leaves = run_in_rooms p o }
