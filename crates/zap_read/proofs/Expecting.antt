-- What an answer of reading tells of how a text may go on.
use Prim.Native.Nat.{ℕ, suc, ◌<◌, ◌≤◌}
use mathlib.Core.Bool.{Bool, true, false}
use mathlib.Core.Path.{◌≡◌, refl, subst, sym, ap, ◌∙◌}
use mathlib.Core.List.{List, [], ◌++◌, append_assoc, append-nil}
use native.Mathlib.Omega.{arith}
use lib.Dec.{eqb}
use lib.ListN.{length, take, drop, take-append-drop, length-append}
use lib.Seq.{take_all}
use borrow.Author.Tests.{eqb-true, eqb-false}
use Rattle.std.specs.Prelude.{Result, Ok, Err}
use Rattle.text.specs.declared.ReadRefusal.{ReadRefusal}
use Rattle.text.specs.declared.ReadRefusal.TheVariants as answered
use Rattle.form.specs.Form.{Says, whole}
use Rattle.form.specs.Fails.{Begins, Fails}
use Rattle.form.specs.Made.{table_of}
use Rattle.text.specs.Answers.{Reads, fails, no_room, refused, read}
use Rattle.form.proofs.MadeLength.{table_length}
use Rattle.zap_read.specs.Told.{Told, HasReading}

failed : {text room after : List ℕ} {k : ℕ} → Reads text room after (Err (answered.Fails k)) → Fails text k
failed (fails k f) = f

pub fails_within : {text room after : List ℕ} {r : Result ℕ ReadRefusal} → Reads text room after r → {k : ℕ} → r ≡ Err (answered.Fails k)
    → k ≤ length text
fails_within {text} {room} {after} o e = (failed (subst (Reads text room after) e o)).within

-- a text that fails has no reading
pub fails_not_whole : {text room after : List ℕ} {r : Result ℕ ReadRefusal} → Reads text room after r → {k : ℕ} → r ≡ Err (answered.Fails k)
    → HasReading text → ⊥
fails_not_whole {text} {room} {after} o e (p, d) = (failed (subst (Reads text room after) e o)).unread p d

-- some text begins as a text that fails exactly if it fails at its length
pub fails_begins : {text : List ℕ} {k : ℕ} → Fails text k → Told (eqb k (length text)) (Begins text)
fails_begins {text} {k} there = go (eqb k (length text)) refl
  where
    go : (b : Bool) → eqb k (length text) ≡ b → Told b (Begins text)
    go true h = subst Begins (take_all k text (omega (arith, eqb-true k (length text) h))) there.so_far
    go false h = λ (p, x, d).
        let lt : k < length text = omega (arith, eqb-false k (length text) h, there.within) in
        let whole_text = append_assoc (take (suc k) text) (drop (suc k) text) x in
        let split = ap (λ (l : List ℕ). l ++ x) (sym (take-append-drop (suc k) text)) ∙ whole_text in
        there.no_further lt (p, drop (suc k) text ++ x, subst (Says (whole p)) split d)

-- a table that was read is within its room
read_fits : {text room after : List ℕ} {n : ℕ} → Reads text room after (Ok n) → n ≤ length after
read_fits {room = room} (read p d f v) =
    omega (arith, f.0, table_length p, length-append (table_of p) (drop (length (table_of p)) room))

pub read_within : {text room after : List ℕ} {r : Result ℕ ReadRefusal} → Reads text room after r → {n : ℕ} → r ≡ Ok n
    → n ≤ length after
read_within {text} {room} {after} o e = read_fits (subst (Reads text room after) e o)

-- any other answer is of a text with a reading
pub others_whole : {text room after : List ℕ} {r : Result ℕ ReadRefusal} → Reads text room after r
    → ((k : ℕ) → r ≡ Err (answered.Fails k) → ⊥) → HasReading text
others_whole (fails k f) o = absurd (o k refl)
others_whole (no_room p d n) o = (p, d)
others_whole (refused p d f n) o = (p, d)
others_whole (read p d f n) o = (p, d)

pub whole_begins : {text : List ℕ} → HasReading text → Begins text
whole_begins {text} (p, d) = (p, [], subst (Says (whole p)) (sym (append-nil text)) d)
