-- What no arm of the choice by kinds takes.
use Prim.Native.Nat.{ℕ}
use mathlib.Core.List.{[], ◌∷◌}
use Rattle.steps.proofs.Dispatch.{none_of}

-- the arm of a RepeatExt is beside that of a Repeat: in the order of the kinds
pub each_told : {n : ℕ} → none_of (14 ∷ 13 ∷ 11 ∷ 10 ∷ 9 ∷ 7 ∷ 15 ∷ 6 ∷ 5 ∷ 2 ∷ 1 ∷ 0 ∷ []) n
    → none_of (15 ∷ 14 ∷ 13 ∷ 11 ∷ 10 ∷ 9 ∷ 7 ∷ 6 ∷ 5 ∷ 2 ∷ 1 ∷ 0 ∷ []) n
each_told (((((((rest, n15), n7), n9), n10), n11), n13), n14) = (((((((rest, n7), n9), n10), n11), n13), n14), n15)
