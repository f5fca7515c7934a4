-- What a bool of this program tells, and what trying bytes in a text leaves of it.
use Rattle.std.specs.Prelude.{ℕ, ◌+◌, ◌≡◌, Bool, true, false, List, take, drop}
use Rattle.junior.specs.Program.{Program}
use Rattle.form.specs.Form.{Says, whole}

-- true: it holds; false: it doesn't
abbrev pub Told : Bool → Type 0 → Type 0
Told true X = X
Told false X = X → ⊥

-- the text has a reading
abbrev pub HasReading : List ℕ → Type 0
HasReading text = (p : Program) × Says (whole p) text

-- all bytes but the one at k are as they were
abbrev pub OthersKept : ℕ → List ℕ → List ℕ → Type 0
OthersKept k old new = (take k new ≡ take k old) × (drop (k + 1) new ≡ drop (k + 1) old)
