-- What the forms without children do when they run, and a node that reads as Nothing.
use Prim.Native.Nat.{ℕ, suc, ◌+◌, ◌-◌, ◌*◌, ◌<◌}
use mathlib.Core.Bool.{true, false}
use mathlib.Core.Path.{◌≡◌, refl, ap, sym, ◌∙◌}
use mathlib.Core.Logic.{◌≢◌}
use mathlib.Core.List.{List, [], ◌∷◌}
use native.Mathlib.Omega.{arith}
use native.Mathlib.Numerals.{add-one}
use lib.Dec.{ltb}
use lib.ListN.{length, set, replicate, length-set}
use lib.Seq.{set_split, get_or-set_same, get_or-set_other}
use borrow.Author.Tests.{lt-ltb}
use Rattle.events.specs.Events.{put}
use Rattle.events.specs.Members.{marks}
use Rattle.junior.specs.declared.Flag.TheVariants.{SUSP, STOP, TERM}
use Rattle.junior.specs.declared.Verdict.{Verdict}
use Rattle.junior.specs.declared.Verdict.TheVariants.{Sat, Unsat, Unknown}
use Rattle.junior.specs.Configuration.{generated}
use Rattle.junior.specs.Program.{Program, Atom, Generate, size, kind}
use Rattle.junior.specs.Term.{Term, done, prog}
use Rattle.junior.specs.Trace.{Place, did_atom, did_generate, collect}
use Rattle.junior.specs.Rules.{r1_on, r2, r3, r16, r22, r23, r24, r25}
use Rattle.junior.specs.Inside.{pot}
use Rattle.table.specs.Records.{argument_at}
use Rattle.table.specs.Spells.{Spells}
use Rattle.table.proofs.Tree.{size_pos}
use Rattle.state.specs.Kinds.{stop_kind, atom_kind, generate_kind, await_kind}
use Rattle.state.specs.StateBytes.{zeros, below, state_bytes}
use Rattle.state.specs.Pieces.{pieces_bytes}
use Rattle.state.proofs.Shape.{Shape, is_done, is_stop, is_atom, is_generate, is_await, is_local, no_sign}
use Rattle.steps.specs.Running.{Rooms, rooms_of, Ready, Ran, HasTest, TestRead, env_of, atoms_done}
use Rattle.steps.proofs.LoadedNode.{generate_placed, await_test}
use Rattle.steps.proofs.Done.{ran_alone, leaves_as, leaves_none, store_stays, values_apart}

-- all bytes of a node in phase 3 are zero but the phase
done_zeros : (p : Program) → set (state_bytes (done p)) 0 0 ≡ zeros p
unfolding below
done_zeros p =
    let n : suc (suc (suc (suc (4 * size p - 4)))) ≡ 4 * size p = omega (arith, size_pos p) in
    ap (λ (k : ℕ). replicate k 0) n

-- the atoms counted in the tally are none of the environment
count_apart : (words tally : List ℕ) (n : ℕ) → env_of words (set tally 0 n) ≡ env_of words tally
count_apart words [] n = refl
count_apart words (a ∷ l) n = refl

moved : (words words' tally : List ℕ) (s : ℕ) → length tally ≡ 6 → marks words' ≡ put s true (marks words)
    → env_of words' (set tally 1 1) ≡ generated s (env_of words tally)
moved words words' [] s n e = absurd (omega arith)
moved words words' (a ∷ []) s n e = absurd (omega arith)
moved words words' (a ∷ b ∷ l) s n e = rw e

module _ {table : List ℕ} {i : ℕ} {state words : List ℕ} {rooms : Rooms} {tally : List ℕ} where
  pub done_ran : {P : Place} {t : Term} {k : ℕ} → Shape t k 3 → Ready 0 table i state words rooms tally t
      → Ran P t words rooms tally (set state 0 0) words rooms tally TERM
  unfolding collect prog
  done_ran (is_done p k) h = ran_alone r1_on refl (ap (λ (l : List ℕ). set l 0 0) h.bytes ∙ done_zeros p)
  done_ran (is_local b s u k) h = absurd (no_sign b k)

  pub stop_ran : {P : Place} {t : Term} {ph : ℕ} → Shape t stop_kind ph → ph ≢ 3 → Ready 0 table i state words rooms tally t
      → Ran P t words rooms tally (set state 0 3) words rooms tally STOP
  unfolding collect below size
  stop_ran (is_done p k) n h = absurd (n refl)
  stop_ran is_stop n h = ran_alone r2 refl (ap (λ (l : List ℕ). set l 0 3) h.bytes)

  pub atom_room : {t : Term} {ph : ℕ} → Shape t atom_kind ph → ph ≢ 3 → Ready 0 table i state words rooms tally t
      → atoms_done tally < length rooms.row
  unfolding pot kind
  atom_room (is_done p k) n h = absurd (n refl)
  atom_room (is_atom a) n h = omega (arith, h.room)

  pub atom_ran : {P : Place} {t : Term} {ph : ℕ} → Shape t atom_kind ph → ph ≢ 3 → Ready 0 table i state words rooms tally t
      → (a : ℕ) → a ≡ argument_at table i
      → Ran P t words rooms tally state words (rooms_of (set rooms.row (atoms_done tally) a) rooms.store) (set tally 0 (atoms_done tally + 1)) TERM
  unfolding collect pieces_bytes below prog size Spells
  atom_ran (is_done p k) n h a e = absurd (n refl)
  atom_ran (is_atom b) n h a e =
      let at = atoms_done tally in
      let same : a ≡ b = e ∙ h.placed.spelled.1 in
      record {
        to = done (Atom b);
        acts = did_atom b ∷ [];
        rewrites = rw (count_apart words tally (at + 1)) r3;
        bytes = h.bytes;
        wrote = record {
          atoms_in = record {
            done_is = get_or-set_same tally 0 (at + 1) 0 (omega (arith, h.tallied));
            row_is = rw (same, add-one) (set_split rooms.row at b (atom_room (is_atom b) n h));
          };
          pieces_in = store_stays rooms tally (set tally 0 (at + 1)) (get_or-set_other tally 0 3 (at + 1) 0 (λ z. omega arith));
        };
        lengths = record { of_words = refl; of_tally = length-set tally 0 (at + 1); of_values = values_apart tally 0 (at + 1) (omega arith) };
      }

  pub generate_ran : {P : Place} {t : Term} {ph : ℕ} → Shape t generate_kind ph → ph ≢ 3 → Ready 0 table i state words rooms tally t
      → (s : ℕ) → s ≡ argument_at table i
      → (words' : List ℕ) → length words' ≡ length words → marks words' ≡ put s (ltb s (64 * length words)) (marks words)
      → Ran P t words rooms tally state words' rooms (set tally 1 1) TERM
  unfolding collect below prog size Spells
  generate_ran (is_done p k) n h s e words' l m = absurd (n refl)
  generate_ran (is_generate b) n h s e words' l m =
      let same : s ≡ b = e ∙ h.placed.spelled.1 in
      let there = lt-ltb b (64 * length words) (omega (arith, generate_placed h.placed, h.wide)) in
      record {
        to = done (Generate b);
        acts = did_generate b ∷ [];
        rewrites = rw (moved words words' tally b h.tallied (rw (same, there) at m)) r16;
        bytes = h.bytes;
        wrote =
            leaves_as refl
            (leaves_none rooms tally (set tally 1 1) (get_or-set_other tally 1 0 1 0 (λ z. omega arith)) (get_or-set_other tally 1 3 1 0 (λ z. omega arith)));
        lengths = record { of_words = l; of_tally = length-set tally 1 1; of_values = values_apart tally 1 1 (omega arith) };
      }

  -- an Await's configuration can be read, and the Await goes by what it is read as
  pub await_has : {t : Term} {ph : ℕ} → Shape t await_kind ph → ph ≢ 3 → Ready 0 table i state words rooms tally t → HasTest table i tally
  unfolding prog
  await_has (is_done p k) n h = absurd (n refl)
  await_has (is_await c) n h = await_test h.tallied h.placed

  module _ {v : Verdict} (reads : TestRead table i words tally v) where
    pub await_waits : {P : Place} {t : Term} {ph : ℕ} → Shape t await_kind ph → ph ≢ 3 → Ready 0 table i state words rooms tally t
        → v ≡ Unknown → Ran P t words rooms tally state words rooms tally SUSP
    unfolding collect prog Spells
    await_waits (is_done p k) n h e = absurd (n refl)
    await_waits (is_await c) n h e = ran_alone (r25 (sym (reads c h.placed.spelled.1) ∙ e)) refl h.bytes

    pub await_fails : {P : Place} {t : Term} {ph : ℕ} → Shape t await_kind ph → ph ≢ 3 → Ready 0 table i state words rooms tally t
        → v ≡ Unsat → Ran P t words rooms tally state words rooms tally STOP
    unfolding collect prog Spells
    await_fails (is_done p k) n h e = absurd (n refl)
    await_fails (is_await c) n h e = ran_alone (r24 (sym (reads c h.placed.spelled.1) ∙ e)) refl h.bytes

    pub await_ends : {P : Place} {t : Term} {ph : ℕ} → Shape t await_kind ph → ph ≢ 3 → Ready 0 table i state words rooms tally t
        → v ≡ Sat → (env_of words tally).eoi ≡ false → Ran P t words rooms tally state words rooms tally TERM
    unfolding collect below prog size Spells
    await_ends (is_done p k) n h e o = absurd (n refl)
    await_ends (is_await c) n h e o = ran_alone (r22 (sym (reads c h.placed.spelled.1) ∙ e) o) refl h.bytes

    pub await_stops : {P : Place} {t : Term} {ph : ℕ} → Shape t await_kind ph → ph ≢ 3 → Ready 0 table i state words rooms tally t
        → v ≡ Sat → (env_of words tally).eoi ≡ true → Ran P t words rooms tally (set state 0 3) words rooms tally STOP
    unfolding collect below prog size Spells
    await_stops (is_done p k) n h e o = absurd (n refl)
    await_stops (is_await c) n h e o =
        ran_alone (r23 (sym (reads c h.placed.spelled.1) ∙ e) o) refl (ap (λ (l : List ℕ). set l 0 3) h.bytes)
