-- What reading a byte does, what it counts, and what reading a text tells.
use Rattle.std.specs.Prelude.{ℕ, suc, ◌-◌, cond, ◌≡◌, List, ◌++◌, eqb, ltb, get_or, Option, None, Some, Result, Ok, Err}
use Rattle.junior.specs.Program.{Program, size}
use Rattle.scanner.specs.declared.levels.Frame.{Frame}
use Rattle.scanner.specs.declared.scan.Place.{Place}
use Rattle.form.specs.declared.Sizes.{Sizes}
use Rattle.form.specs.Form.{Says, whole}
use Rattle.form.specs.Fails.{Fails}
use Rattle.form.specs.Made.{named, tests}
use Rattle.form.specs.Inside.Machine.{Stack, dead, on, step}
use Rattle.form.specs.Inside.Counted.{a_node, a_test, an_event}
use Rattle.form.specs.Inside.Rows.{code_at}
use Rattle.scanner.specs.Rules.{held}
use Rattle.scanner.specs.Places.{Lies}

-- the bracket at i, or behind the J at i
unfoldable pub opened_at : ℕ → ℕ → ℕ
opened_at b i = cond (eqb b 40) i (suc i)

abbrev pub Somewhere : List ℕ → ℕ → Place → List Frame → Type 0
Somewhere t i at ring = (σ : Stack) × Lies t i at ring σ

-- what byte i does to a reader that stands before it, the ring being that, and then ring'
abbrev pub Taken : List ℕ → ℕ → Place → List Frame → List Frame → Option Place → Type 0
Taken t i at ring ring' None =
    (σ : Stack) → Lies t i at ring σ → step (held at.pc at.number ++ σ) (get_or t i 0) ≡ dead
Taken t i at ring ring' (Some next) =
    (σ : Stack) → Lies t i at ring σ
    → (τ : Stack) × Lies t (suc i) next ring' τ
    × (step (held at.pc at.number ++ σ) (get_or t i 0) ≡ on (held next.pc next.number ++ τ))

-- what the byte b adds at the code x
unfoldable pub tally_code : ℕ → ℕ → Sizes → Sizes
tally_code x b k =
    cond (eqb x 128) (a_node k)
    (cond (eqb x 133) (cond (eqb b 44) (a_node k) k)
    (cond (eqb x 134) (a_test k) (cond (eqb x 136) (cond (eqb b 110) k (a_test k)) k)))

-- what it adds within a number that is v so far
unfoldable pub tally_number : ℕ → ℕ → ℕ → Sizes → Sizes
unfolding code_at
tally_number p v b k = cond (eqb b (code_at p)) (cond (ltb (code_at (p - 1)) 139) (an_event v k) k) k

unfoldable pub tally_at : ℕ → Option ℕ → ℕ → Sizes → Sizes
unfolding code_at tally_code tally_number
tally_at p None b k = tally_code (code_at p) b k
tally_at p (Some v) b k = tally_number p v b k

-- what reading a text tells
abbrev pub Tells : List ℕ → Result Sizes ℕ → Type 0
Tells t (Err k) = Fails t k
Tells t (Ok k) =
    (p : Program) × Says (whole p) t × (k.nodes ≡ size p) × (k.tests ≡ tests p) × (k.events ≡ named p)
