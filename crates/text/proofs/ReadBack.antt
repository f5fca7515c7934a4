-- What was printed of a table, read again, gives the same program and figures, unless the copies of shared configurations bring 2 or
-- 22 (02, L3).
use Prim.Native.Nat.{ℕ}
use mathlib.Core.Path.{◌≡◌, refl, ap, subst, ◌∙◌}
use mathlib.Core.List.{List}
use native.Mathlib.Omega.{arith}
use lib.ListN.{take, length}
use lib.Seq.{take_at}
use Rattle.std.specs.Prelude.{Result, Ok, Err}
use Rattle.junior.specs.Program.{Program}
use Rattle.table.specs.declared.TableRefusal.{TableRefusal}
use Rattle.table.specs.Spells.{tree_of}
use Rattle.table.specs.Verdict.{verdict_of, number_of}
use Rattle.table.proofs.Little.{below_or}
use Rattle.table.proofs.Accepted.{accepted, one_refusal, not_both}
use Rattle.text.specs.declared.ReadRefusal.{ReadRefusal}
use Rattle.text.specs.declared.ReadRefusal.TheVariants as answered
use Rattle.form.specs.Form.{Says, whole}
use Rattle.form.specs.Spelling.{spell}
use Rattle.form.specs.Made.{tests, table_of, needed}
use Rattle.letters.specs.Text.{beginning}
use Rattle.text.specs.Answers.{Reads, fails, no_room, refused, read, Prints, printed, Fits}
use Rattle.text.specs.ReadBack.{Back, same, too_long, too_many}
use Rattle.form.proofs.OneReading.{one_reading}
use Rattle.form.proofs.Spelled.{says_spell}
use Rattle.form.proofs.AcceptedForm.{accepted_form}
use Rattle.form.proofs.RoundTrip.{round_trip, round_trip_refused}

module _ (t : List ℕ) (a : number_of (verdict_of t) ≡ 0) (room : List ℕ) where
  back_refused : Fits (needed (tree_of t)) room → {why : TableRefusal} → verdict_of (table_of (tree_of t)) ≡ Err why
      → Back t room room (Err (answered.Table why))
  back_refused f n =
      below_or
      2048
      (tests (tree_of t))
      (λ m. rw (one_refusal n (round_trip_refused t a f.1 m)) (too_many f m))
      (λ m. absurd (not_both (ap number_of (round_trip t a f.1 m).0 ∙ a) n))

  back_read : Fits (needed (tree_of t)) room → number_of (verdict_of (table_of (tree_of t))) ≡ 0
      → Back t room (beginning (table_of (tree_of t)) room) (Ok (needed (tree_of t)))
  unfolding number_of
  back_read f e =
      below_or
      2048
      (tests (tree_of t))
      (λ m. let two = ap number_of (round_trip_refused t a f.1 m) in absurd (omega arith))
      (λ m. let back = round_trip t a f.1 m in same f m back.0 back.1)

  says : Says (whole (tree_of t)) (spell (tree_of t))
  says = says_spell (tree_of t) (accepted_form (accepted t a).loaded).in_form

  only : (p : Program) → Says (whole p) (spell (tree_of t)) → p ≡ tree_of t
  only p d = one_reading p (tree_of t) (spell (tree_of t)) d says

  spelling_back : {after : List ℕ} {r : Result ℕ ReadRefusal} → Reads (spell (tree_of t)) room after r → Back t room after r
  spelling_back (fails k f) = absurd (f.unread (tree_of t) says)
  spelling_back (no_room p s n) = too_long (rw (only p s) at n)
  spelling_back (refused p s f n) = back_refused (rw (only p s) at f) (rw (only p s) at n)
  spelling_back (read p s f e) = rw (only p s) (back_read (rw (only p s) at f) (rw (only p s) at e))

pub read_back : {t paper text room after : List ℕ} {n : ℕ} {r : Result ℕ ReadRefusal} → Prints t paper text (Ok n)
    → Reads (take n text) room after r
    → Back t room after r
read_back {t} {paper} {text} {room} {after} {n} {r} (printed a l) d =
    let w = spell (tree_of t) in
    spelling_back t a room (subst (λ (x : List ℕ). Reads x room after r) (take_at w _ (length w) refl) d)
