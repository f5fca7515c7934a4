-- When the body of a Local is run again in an instant: why an activation's last answer is its first other than SUSP.
use Rattle.std.specs.Prelude.{ℕ, suc, ◌+◌, ◌<◌, true, ◌≡◌, ◌≢◌, ◌⊎◌, List, [], ◌∷◌}
use Rattle.junior.specs.declared.Flag.{Flag}
use Rattle.junior.specs.declared.Flag.TheVariants.{SUSP, STOP, TERM}
use Rattle.junior.specs.Program.{Program, Nothing, Stop, Atom, Seq, Par, Loop, Repeat, Generate, Await, When}
use Rattle.junior.specs.Program.{Until, Control, Local, Freezable, If, size}
use Rattle.junior.specs.Trace.{Act, did_atom, did_generate, did_park, decided, waits, scope_answered}

-- of the program whose node is i, node n stands in the body of the Until at node m, or of the Freezable (000, 4.9: "As Until, Freezable performs weak
-- preemption")
unfoldable pub PreemptionAround : Program → ℕ → ℕ → ℕ → Type 0
PreemptionAround Nothing i m n = ⊥
PreemptionAround Stop i m n = ⊥
PreemptionAround (Atom a) i m n = ⊥
PreemptionAround (Seq p q) i m n = PreemptionAround p (suc i) m n ⊎ PreemptionAround q (suc i + size p) m n
PreemptionAround (Par p q) i m n = PreemptionAround p (suc i) m n ⊎ PreemptionAround q (suc i + size p) m n
PreemptionAround (Loop p) i m n = PreemptionAround p (suc i) m n
PreemptionAround (Repeat k p) i m n = PreemptionAround p (suc i) m n
PreemptionAround (Generate s) i m n = ⊥
PreemptionAround (Await c) i m n = ⊥
PreemptionAround (When c p q) i m n = PreemptionAround p (suc i) m n ⊎ PreemptionAround q (suc i + size p) m n
PreemptionAround (Until c p q) i m n =
    ((m ≡ i) × (i < n) × (n < suc i + size p)) ⊎ (PreemptionAround p (suc i) m n ⊎ PreemptionAround q (suc i + size p) m n)
PreemptionAround (Control s p) i m n = PreemptionAround p (suc i) m n
PreemptionAround (Local s p) i m n = PreemptionAround p (suc i) m n
PreemptionAround (Freezable s p) i m n = ((m ≡ i) × (i < n) × (n < suc i + size p)) ⊎ PreemptionAround p (suc i) m n
PreemptionAround (If v p q) i m n = PreemptionAround p (suc i) m n ⊎ PreemptionAround q (suc i + size p) m n

-- the body of the Local at n answers in these acts
unfoldable pub Answers : ℕ → List Act → Type 0
Answers n [] = ⊥
Answers n (did_atom a ∷ l) = Answers n l
Answers n (did_generate s ∷ l) = Answers n l
Answers n (did_park x ∷ l) = Answers n l
Answers n (decided P c b E ∷ l) = Answers n l
Answers n (waits P c E ∷ l) = Answers n l
Answers n (scope_answered m α b ∷ l) = (m ≡ n) ⊎ Answers n l

-- it doesn't, or not before an Until or a Freezable around it is decided true and with that leaves its body, for its handler or parked
unfoldable pub Silent : (ℕ → ℕ → Type 0) → ℕ → List Act → Type 0
Silent around n [] = Unit {0}
Silent around n (did_atom a ∷ l) = Silent around n l
Silent around n (did_generate s ∷ l) = Silent around n l
Silent around n (did_park x ∷ l) = Silent around n l
Silent around n (decided P c b E ∷ l) = ((b ≡ true) × around P.node n) ⊎ Silent around n l
Silent around n (waits P c E ∷ l) = Silent around n l
Silent around n (scope_answered m α b ∷ l) = (m ≢ n) × Silent around n l

-- A body that suspends is run again in the instant. One that stops isn't, unless a Repeat begins the Until or Freezable around it anew, which is a
-- new activation; and so is whatever a body answers after TERM, its node being fresh again.
abbrev pub Next : (ℕ → ℕ → Type 0) → Flag → ℕ → List Act → Type 0
Next around SUSP n l = Answers n l
Next around STOP n l = Silent around n l
Next around TERM n l = Unit {0}

unfoldable pub Activations : (ℕ → ℕ → Type 0) → List Act → Type 0
Activations around [] = Unit {0}
Activations around (did_atom a ∷ l) = Activations around l
Activations around (did_generate s ∷ l) = Activations around l
Activations around (did_park x ∷ l) = Activations around l
Activations around (decided P c b E ∷ l) = Activations around l
Activations around (waits P c E ∷ l) = Activations around l
Activations around (scope_answered n α b ∷ l) = Next around α n l × Activations around l
