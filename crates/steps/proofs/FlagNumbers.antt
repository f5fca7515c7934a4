-- Flags as they stand in a byte; and a Par whose branches leave its bytes as they were.
use Prim.Native.Nat.{ℕ, zero, suc, ◌+◌, ◌<◌}
use mathlib.Core.Path.{◌≡◌, refl, ap, sym, ◌∙◌}
use mathlib.Core.List.{List, [], ◌∷◌}
use native.Mathlib.Omega.{arith}
use lib.ListN.{get_or, set}
use Rattle.junior.specs.declared.Flag.{Flag}
use Rattle.junior.specs.declared.Flag.TheVariants.{SUSP, STOP, TERM}
use Rattle.state.specs.StateBytes.{code}
use Rattle.steps.specs.Flags.{flag_of, ParEnds}

-- a number below 3 is the code of the flag that it stands for
pub code_of : (n : ℕ) → n < 3 → code (flag_of n) ≡ n
code_of zero l = refl
code_of (suc zero) l = refl
code_of (suc (suc n)) l = omega arith

flag_of_code : (α : Flag) → flag_of (code α) ≡ α
flag_of_code SUSP = refl
flag_of_code STOP = refl
flag_of_code TERM = refl

-- a flag's code is no other flag's, and below 3
pub code_same : (α β : Flag) → code α ≡ code β → α ≡ β
code_same α β e = sym (flag_of_code α) ∙ (ap flag_of e ∙ flag_of_code β)

pub code_below : (α : Flag) → code α < 3
code_below SUSP = omega arith
code_below STOP = omega arith
code_below TERM = omega arith

-- a byte that is there already
pub set_there : (s : List ℕ) (n v : ℕ) → get_or s n 0 ≡ v → set s n v ≡ s
set_there [] n v e = refl
set_there (x ∷ s) zero v e = ap (λ (y : ℕ). y ∷ s) (sym e)
set_there (x ∷ s) (suc n) v e = ap (λ (l : List ℕ). x ∷ l) (set_there s n v e)

-- where both branches are suspended, nothing is to be written
pub second_stays : {at second : ℕ} {s : List ℕ} → get_or s (at + 1) 0 ≡ 0 → ParEnds SUSP SUSP at second s s SUSP
second_stays {at} {s = s} z = record { bytes = sym (set_there s (at + 1) 0 z); flag = refl }
