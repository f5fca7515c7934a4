-- Reading has one answer, and leaves one room (01, "What the contracts owe").
use Prim.Native.Nat.{ℕ}
use mathlib.Core.Path.{◌≡◌, refl, ap, sym, ◌∙◌}
use mathlib.Core.List.{List}
use Rattle.std.specs.Prelude.{Result, Err}
use Rattle.text.specs.declared.ReadRefusal.{ReadRefusal}
use Rattle.text.specs.declared.ReadRefusal.TheVariants as answered
use Rattle.table.proofs.Accepted.{one_refusal, not_both}
use Rattle.text.specs.Answers.{Reads, fails, no_room, refused, read}
use Rattle.text.specs.Exports.{ReadInPlaces, read_places}
use Rattle.form.proofs.FailsHere.{same_place}
use Rattle.form.proofs.OneReading.{one_reading}

pub one_read : {text room r1 r2 : List ℕ} {a1 a2 : Result ℕ ReadRefusal} → Reads text room r1 a1 → Reads text room r2 a2 → (r1 ≡ r2) × (a1 ≡ a2)
one_read (fails j f) (fails k g) = (refl, ap (λ k. Err (answered.Fails k)) (same_place f g))
one_read (fails j f) (no_room p d n) = absurd (f.unread p d)
one_read (fails j f) (refused p d h n) = absurd (f.unread p d)
one_read (fails j f) (read p d h n) = absurd (f.unread p d)
one_read (no_room p d n) (fails k g) = absurd (g.unread p d)
one_read (refused p d h n) (fails k g) = absurd (g.unread p d)
one_read (read p d h n) (fails k g) = absurd (g.unread p d)
one_read {text} (no_room p d n) (no_room q e m) = (refl, refl)
one_read {text} (no_room p d n) (refused q e h m) = absurd (n (rw (one_reading p q text d e) h))
one_read {text} (no_room p d n) (read q e h m) = absurd (n (rw (one_reading p q text d e) h))
one_read {text} (refused p d h n) (no_room q e m) = absurd (m (rw (one_reading q p text e d) h))
one_read {text} (read p d h n) (no_room q e m) = absurd (m (rw (one_reading q p text e d) h))
one_read {text} (refused p d h n) (refused q e i m) =
    (refl, ap (λ w. Err (answered.Table w)) (one_refusal n (rw (one_reading q p text e d) at m)))
one_read {text} (read p d h n) (read q e i m) = (rw (one_reading p q text d e), rw (one_reading p q text d e))
one_read {text} (refused p d h n) (read q e i m) = absurd (not_both m (rw (one_reading p q text d e) at n))
one_read {text} (read p d h n) (refused q e i m) = absurd (not_both n (rw (one_reading q p text e d) at m))

-- nor has the call for C two
pub one_read_in_places : {text room r1 r2 p1 p2 : List ℕ} → ReadInPlaces text room r1 p1 → ReadInPlaces text room r2 p2
    → (r1 ≡ r2) × (p1 ≡ p2)
one_read_in_places a b =
    let (room, answer) = one_read a.reads b.reads in
    (room, a.written ∙ (ap read_places answer ∙ sym b.written))
