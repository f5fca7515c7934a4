-- A pending Freezable, rules 42 to 45: its body is parked if its event is present, else it waits, and stops at the end of the instant.
use Prim.Native.Nat.{ℕ, suc, ◌+◌, ◌-◌, ◌*◌, ◌≤◌}
use mathlib.Core.Bool.{true, false}
use lib.Dec.{ltb}
use mathlib.Core.Path.{◌≡◌, refl, ap, sym, subst, ◌∙◌}
use mathlib.Core.List.{List, ◌∷◌, ◌++◌, append-nil}
use native.Mathlib.Omega.{arith}
use lib.ListN.{length, take, drop, set, replicate, length-set}
use lib.Seq.{drop-drop, get_or-set_same, get_or-set_other}
use borrow.Rule.Slice.PartMut.{put_mid}
use Rattle.events.specs.Members.{marks}
use Rattle.junior.specs.declared.Flag.{Flag}
use Rattle.junior.specs.declared.Flag.TheVariants.{SUSP, STOP, TERM}
use Rattle.junior.specs.Program.{Program, Freezable, size, kind}
use Rattle.junior.specs.Term.{Term, done, freezable*, prog}
use Rattle.junior.specs.Trace.{Place, piece, collect, parks}
use Rattle.junior.specs.Rules.{left_first, Rewrites, answers, freezes, r42, r43, r44, r45}
use Rattle.junior.specs.Inside.{pot}
use Rattle.junior.proofs.Verdicts.{test_event}
use Rattle.table.specs.Records.{argument_at}
use Rattle.table.specs.Spells.{Spells}
use Rattle.table.proofs.Tree.{size_pos}
use Rattle.state.specs.Kinds.{freezable_kind}
use Rattle.state.specs.StateBytes.{below, state_bytes, zeros}
use Rattle.state.specs.Pieces.{piece_bytes, pieces_bytes}
use Rattle.state.proofs.Parts.{len_bytes}
use Rattle.state.proofs.Shape.{Shape, is_freezable*, shape_by}
use Rattle.steps.specs.Running.{Rooms, rooms_of, Ready, Wrote, Ran, left, values_in, env_of, end_declared, bytes_parked}
use Rattle.steps.specs.Kinds.{Pending}
use Rattle.steps.specs.Parking.{piece_from}
use Rattle.steps.proofs.Children.{byte_is, own_and_below}
use Rattle.steps.proofs.Done.{ran_alone, row_stays, values_apart}

pub data Pends : Term → Type 0 where
  pends : (s : ℕ) (x : Term) → Pends (freezable* s x)

pends_of : {t : Term} → Shape t freezable_kind 1 → Pends t
pends_of (is_freezable* s x) = pends s x

pub pends_by : (t : Term) → Pending t → Pends t
pends_by t w = pends_of (shape_by t w.0 w.1)

-- the bytes counted as parked are none of the environment
parked_apart : (words tally : List ℕ) (n : ℕ) → env_of words (set tally 3 n) ≡ env_of words tally
parked_apart words tally n = rw (get_or-set_other tally 3 1 n 0 (λ e. omega arith), get_or-set_other tally 3 2 n 0 (λ e. omega arith))

-- the tally when the bytes of the state are parked
abbrev counted : List ℕ → List ℕ → List ℕ
counted tally state = set tally 3 (bytes_parked tally + length state)

-- zeros marked as phase 3 are the bytes of a node that reads as Nothing
zeros_done : (p : Program) → set (zeros p) 0 3 ≡ state_bytes (done p)
unfolding below
zeros_done p =
    let n : 4 * size p ≡ suc (suc (suc (suc (4 * size p - 4)))) = omega (arith, size_pos p) in
    ap (λ (k : ℕ). set (replicate k 0) 0 3) n

module _ {table : List ℕ} {i : ℕ} {state words : List ℕ} {rooms : Rooms} {tally : List ℕ} where
  -- there is room for all of its bytes
  pub pending_room : {t : Term} → Pends t → Ready 1 table i state words rooms tally t
      → bytes_parked tally + length state ≤ length rooms.store
  unfolding pot kind prog size
  pending_room (pends s x) h = omega (arith, h.parking_room, h.long)

  -- its body's bytes; all of its own with the phase written anew
  body_there : (s : ℕ) (x : Term) → Ready 1 table i state words rooms tally (freezable* s x) → drop 4 state ≡ state_bytes x
  unfolding below
  body_there s x h = ap (drop 4) (own_and_below h (omega arith))

  pending_bytes : (s : ℕ) (x : Term) → Ready 1 table i state words rooms tally (freezable* s x)
      → (ph : ℕ) → set state 0 ph ≡ ph ∷ 0 ∷ 0 ∷ 0 ∷ state_bytes x
  unfolding below
  pending_bytes s x h ph =
      let b = byte_is h in
      ap (λ l. set l 0 ph) (own_and_below h (omega arith)) ∙ rw (b 1 (omega arith), b 2 (omega arith), b 3 (omega arith))

  module _ {a : ℕ} (names : a ≡ argument_at table i) where
    event_is : (s : ℕ) (x : Term) → Ready 1 table i state words rooms tally (freezable* s x) → a ≡ s
    unfolding prog Spells
    event_is s x h = names ∙ h.placed.spelled.1

    -- its event is present: it is parked, and what it leaves in the state is to be marked if it goes on in sight
    module _ (on : marks words a ≡ true) {store' : List ℕ}
        (is : store' ≡ put_mid (bytes_parked tally) (length state) rooms.store (piece_from a (i + 1) state)) where
      parked : (s : ℕ) (x : Term) → Ready 1 table i state words rooms tally (freezable* s x) → {P : Place} → P.node ≡ i
          → {α : Flag} {to : Term} {state' : List ℕ}
          → Rewrites (left_first (values_in tally)) P (freezable* s x) (env_of words tally)
          (answers α to (env_of words tally) (freezes P s x (env_of words tally)))
          → state' ≡ left α to
          → Ran P (freezable* s x) words rooms tally state' words (rooms_of rooms.row store') (counted tally state) α
      unfolding collect pieces_bytes prog size
      parked s x h {P} at {to = to} d b =
          let n = bytes_parked tally + length state in
          let there : i + 1 ≡ suc P.node = omega arith in
          let bytes : piece_from a (i + 1) state ≡ pieces_bytes (parks (freezes P s x (env_of words tally))) =
          rw (there, event_is s x h, body_there s x h) (sym (append-nil (piece_bytes (piece s (suc P.node) x)))) in
          let long : length (piece_from a (i + 1) state) ≡ length state =
          ap length (ap (λ l. 0 ∷ 0 ∷ 0 ∷ 0 ∷ l) (body_there s x h)) ∙ omega (arith, len_bytes x, h.long) in
          record {
            to = to;
            acts = freezes P s x (env_of words tally);
            rewrites = rw (parked_apart words tally n) d;
            bytes = b;
            wrote = record {
              atoms_in = row_stays rooms tally (counted tally state) (get_or-set_other tally 3 0 n 0 (λ z. omega arith));
              pieces_in =
                  subst (λ (l : List ℕ). Wrote l rooms.store (bytes_parked tally) store' (bytes_parked (counted tally state))) bytes
                  (record {
                    done_is = get_or-set_same tally 3 n 0 (omega (arith, h.tallied)) ∙ omega (arith, long);
                    row_is =
                        is
                        ∙ ap (λ l. take (bytes_parked tally) rooms.store ++ (piece_from a (i + 1) state ++ l))
                        (drop-drop (length state) (bytes_parked tally) rooms.store
                        ∙ ap (λ k. drop (bytes_parked tally + k) rooms.store) (sym long));
                  });
            };
            lengths = record { of_words = refl; of_tally = length-set tally 3 n; of_values = values_apart tally 3 n (omega arith) };
          }

      pub pending_freezes : {t : Term} → Pends t → Ready 1 table i state words rooms tally t → ltb 0 (end_declared tally) ≡ false
          → (P : Place) → P.node ≡ i
          → Ran P t words rooms tally (replicate (length state) 0) words (rooms_of rooms.row store') (counted tally state) TERM
      unfolding prog
      pending_freezes (pends s x) h z P at =
          let e : marks words s ≡ true = rw (event_is s x h) at on in
          parked s x h at (r42 (test_event s (env_of words tally) ∙ rw e) z) (ap (λ k. replicate k 0) h.long)

      pub pending_freezes_late : {t : Term} → Pends t → Ready 1 table i state words rooms tally t → ltb 0 (end_declared tally) ≡ true
          → (P : Place) → P.node ≡ i
          → Ran P t words rooms tally (set (replicate (length state) 0) 0 3) words (rooms_of rooms.row store') (counted tally state) STOP
      unfolding prog
      pending_freezes_late (pends s x) h z P at =
          let e : marks words s ≡ true = rw (event_is s x h) at on in
          parked s x h at (r43 (test_event s (env_of words tally) ∙ rw e) z)
          (ap (λ k. set (replicate k 0) 0 3) h.long ∙ zeros_done (Freezable s (prog x)))

    -- it is not
    module _ (off : marks words a ≡ false) where
      pub pending_waits : {t : Term} → Pends t → Ready 1 table i state words rooms tally t → ltb 0 (end_declared tally) ≡ false
          → (P : Place) → Ran P t words rooms tally (set state 0 1) words rooms tally SUSP
      unfolding collect below
      pending_waits (pends s x) h z P =
          let e : marks words s ≡ false = rw (event_is s x h) at off in
          ran_alone (r45 (test_event s (env_of words tally) ∙ rw (e, z))) refl (pending_bytes s x h 1)

      pub pending_stops : {t : Term} → Pends t → Ready 1 table i state words rooms tally t → ltb 0 (end_declared tally) ≡ true
          → (P : Place) → Ran P t words rooms tally (set state 0 0) words rooms tally STOP
      unfolding collect below
      pending_stops (pends s x) h z P =
          let e : marks words s ≡ false = rw (event_is s x h) at off in
          ran_alone (r44 (test_event s (env_of words tally) ∙ rw (e, z))) refl (pending_bytes s x h 0)
