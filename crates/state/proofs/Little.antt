-- Little laws about truth values.
use mathlib.Core.Bool.{Bool, true, false, cond, ◌||◌}
use mathlib.Core.Path.{◌≡◌, refl, sym}

-- a test taken apart
pub either_true : {A : Type 0} (a b : Bool) → (a || b) ≡ true → (a ≡ true → A) → (b ≡ true → A) → A
either_true true b e f g = f refl
either_true false b e f g = g e

pub cond_same : (b c : Bool) → cond b c c ≡ c
cond_same true c = refl
cond_same false c = refl

-- two tests that hold together
pub same_truth : (a b : Bool) → (a ≡ true → b ≡ true) → (b ≡ true → a ≡ true) → a ≡ b
same_truth true b f g = sym (f refl)
same_truth false true f g = g refl
same_truth false false f g = refl
