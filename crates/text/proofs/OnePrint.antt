-- Printing has one outcome: no table and room allow two answers, or two contents of the room afterwards.
use Prim.Native.Nat.{ℕ}
use mathlib.Core.Path.{◌≡◌, refl, ap, sym, ◌∙◌}
use mathlib.Core.List.{List}
use native.Mathlib.Omega.{arith}
use Rattle.std.specs.Prelude.{Result, Err}
use Rattle.text.specs.declared.PrintRefusal.{PrintRefusal}
use Rattle.table.proofs.Accepted.{one_refusal, not_both}
use Rattle.text.specs.declared.PrintRefusal.TheVariants as told
use Rattle.text.specs.Answers.{Prints, refused, no_room, printed}
use Rattle.text.specs.Exports.{PrintedInPlaces, print_places}

pub one_print : {t room r₁ r₂ : List ℕ} {a₁ a₂ : Result ℕ PrintRefusal} → Prints t room r₁ a₁ → Prints t room r₂ a₂
    → (r₁ ≡ r₂) × (a₁ ≡ a₂)
one_print (refused n) (refused m) = (refl, ap (λ w. Err (told.Table w)) (one_refusal n m))
one_print (refused n) (no_room e l) = absurd (not_both e n)
one_print (refused n) (printed e l) = absurd (not_both e n)
one_print (no_room e l) (refused n) = absurd (not_both e n)
one_print (no_room e l) (no_room f m) = (refl, refl)
one_print (no_room e l) (printed f m) = absurd (omega arith)
one_print (printed e l) (refused n) = absurd (not_both e n)
one_print (printed e l) (no_room f m) = absurd (omega arith)
one_print (printed e l) (printed f m) = (refl, refl)

-- nor has the call for C two
pub one_print_in_places : {t room r₁ r₂ p₁ p₂ : List ℕ} → PrintedInPlaces t room r₁ p₁ → PrintedInPlaces t room r₂ p₂
    → (r₁ ≡ r₂) × (p₁ ≡ p₂)
one_print_in_places a b =
    let (room, answer) = one_print a.prints b.prints in
    (room, a.written ∙ (ap print_places answer ∙ sym b.written))
