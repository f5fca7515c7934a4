-- The flag that stands in a byte, 0 SUSP, 1 STOP, 2 TERM; and a Par's branches joined, by the bytes of the whole state.
use Rattle.std.specs.Prelude.{ℕ, zero, suc, ◌+◌, ◌*◌, cond, ◌≡◌, ◌≢◌, List, set}
use Rattle.junior.specs.declared.Flag.{Flag}
use Rattle.junior.specs.declared.Flag.TheVariants.{SUSP, STOP, TERM}
use Rattle.junior.specs.Flags.{γ, δ₁, δ₂}
use Rattle.state.specs.StateBytes.{code}
use Rattle.steps.specs.Running.{ended, gone, flag_is_term}

abbrev pub flag_of : ℕ → Flag
flag_of zero = SUSP
flag_of (suc zero) = STOP
flag_of (suc (suc n)) = TERM

-- the bytes s of a state whose Par at byte `at` has heard α and β from its branches, the second standing at byte `second`
abbrev pub par_end_at : Flag → Flag → ℕ → ℕ → List ℕ → List ℕ
par_end_at α β at second s =
    let flags = cond (flag_is_term (γ α β)) 0 (code (δ₁ α β) + 4 * code (δ₂ α β)) in
    ended β second (gone (γ α β)) (ended α (at + 4) (gone (γ α β)) (set s (at + 1) flags))

pub record ParEnds (f g : Flag) (at second : ℕ) (s s' : List ℕ) (r : Flag) : Type 0 where
  pub bytes : s' ≡ par_end_at f g at second s
  pub flag : r ≡ γ f g

-- what the Par at byte `above` answers whose first branch is suspended and whose second, at byte `at`, has answered r; a Par that is that very node, r
pub record Heard (r : Flag) (above at : ℕ) (s s' : List ℕ) (q : Flag) : Type 0 where
  pub itself : above ≡ at → (s' ≡ s) × (q ≡ r)
  pub above_it : above ≢ at → ParEnds SUSP r above at s s' q
