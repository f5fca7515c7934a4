-- The names of a pass's table and slices: they stay, one call after another.
use mathlib.Core.Path.{◌≡◌, refl, ◌∙◌}

pub all_same : {A B C D : Type 0} {a : A} {b : B} {c : C} {d : D} → (a ≡ a) × (b ≡ b) × (c ≡ c) × (d ≡ d)
all_same = (refl, refl, refl, refl)

pub named_then : {A B C D : Type 0} {a a₁ a₂ : A} {b b₁ b₂ : B} {c c₁ c₂ : C} {d d₁ d₂ : D}
    → (a₁ ≡ a) × (b₁ ≡ b) × (c₁ ≡ c) × (d₁ ≡ d) → (a₂ ≡ a₁) × (b₂ ≡ b₁) × (c₂ ≡ c₁) × (d₂ ≡ d₁)
    → (a₂ ≡ a) × (b₂ ≡ b) × (c₂ ≡ c) × (d₂ ≡ d)
named_then (a, b, c, d) (a', b', c', d') = (a' ∙ a, b' ∙ b, c' ∙ c, d' ∙ d)
