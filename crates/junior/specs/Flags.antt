-- Termination flags and the tables of Par (000, 2.3 and 2.4).
use Rattle.junior.specs.declared.Flag.{Flag}
use Rattle.junior.specs.declared.Flag.TheVariants.{SUSP, STOP, TERM}

-- γ: the flag of a Par whose branches have the flags α and β
abbrev pub γ : Flag → Flag → Flag
γ SUSP SUSP = SUSP
γ SUSP STOP = SUSP
γ SUSP TERM = SUSP
γ STOP SUSP = SUSP
γ STOP STOP = STOP
γ STOP TERM = STOP
γ TERM SUSP = SUSP
γ TERM STOP = STOP
γ TERM TERM = TERM

-- δ₁: the first branch's flag from now on: a STOP becomes SUSP again once the second doesn't suspend
abbrev pub δ₁ : Flag → Flag → Flag
δ₁ SUSP β = SUSP
δ₁ STOP SUSP = STOP
δ₁ STOP STOP = SUSP
δ₁ STOP TERM = SUSP
δ₁ TERM β = TERM

-- δ₂: the second branch's, likewise
abbrev pub δ₂ : Flag → Flag → Flag
δ₂ α SUSP = SUSP
δ₂ SUSP STOP = STOP
δ₂ STOP STOP = SUSP
δ₂ TERM STOP = SUSP
δ₂ α TERM = TERM
