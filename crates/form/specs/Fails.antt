-- Where a text fails that has no reading: at the first byte where no reading goes on, or at its length if it only ends early.
use Rattle.std.specs.Prelude.{ℕ, suc, ◌<◌, ◌≤◌, List, ◌++◌, length, take}
use Rattle.junior.specs.Program.{Program}
use Rattle.form.specs.Form.{Says, whole}

-- some text of the form begins so
abbrev pub Begins : List ℕ → Type 0
Begins w = (p : Program) × (x : List ℕ) × Says (whole p) (w ++ x)

-- k is the length of the longest beginning of the text that some text of the form has
pub record Fails (text : List ℕ) (k : ℕ) : Type 0 where
  pub within : k ≤ length text
  pub so_far : Begins (take k text)
  pub no_further : k < length text → Begins (take (suc k) text) → ⊥
  pub unread : (p : Program) → Says (whole p) text → ⊥
