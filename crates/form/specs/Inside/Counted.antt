-- What the reading machine counts: nodes, configuration records, and one above the highest event named.
use Rattle.std.specs.Prelude.{ℕ, suc, cond, List, [], ◌∷◌, eqb}
use Rattle.form.specs.declared.Sizes.{Sizes}
use Rattle.form.specs.Made.{larger}
use Rattle.form.specs.Inside.Machine.{byte, prog, name, parts, conf, inner, joint, num}
use Rattle.form.specs.Inside.Machine.{tail, event, plain, value, cap, end_byte, Stack, Next, dead, on, step}

abbrev pub counts : ℕ → ℕ → ℕ → Sizes
counts n m v = record { nodes = n; tests = m; events = v }

-- before the first byte
abbrev pub none : Sizes
none = counts 0 0 1

abbrev pub a_node : Sizes → Sizes
a_node k = counts (suc k.nodes) k.tests k.events

abbrev pub a_test : Sizes → Sizes
a_test k = counts k.nodes (suc k.tests) k.events

abbrev pub an_event : ℕ → Sizes → Sizes
an_event s k = counts k.nodes k.tests (larger k.events (suc s))

-- A node begins with each program, and with each comma behind a second or later part; a record with each
-- configuration; an event is named where its number has ended.
unfoldable pub counted : Stack → ℕ → Sizes → Sizes
counted [] b k = k
counted (byte c ∷ σ) b k = k
counted (prog ∷ σ) b k = a_node k
counted (name p ∷ σ) b k = k
counted (parts ∷ σ) b k = cond (eqb b 44) (a_node k) k
counted (conf e ∷ σ) b k = a_test k
counted (inner ∷ σ) b k = cond (eqb b 110) k (a_test k)
counted (joint ∷ σ) b k = k
counted (num n e ∷ σ) b k = k
counted (tail event v e ∷ σ) b k = cond (eqb b (end_byte e)) (an_event v k) k
counted (tail plain v e ∷ σ) b k = k
counted (tail value v e ∷ σ) b k = k
counted (tail cap v e ∷ σ) b k = k

abbrev pub going : Next → (Stack → Sizes) → Sizes → Sizes
going dead f k = k
going (on τ) f k = f τ

-- the counts behind a text, as far as the machine reads it
unfoldable pub tally : Stack → List ℕ → Sizes → Sizes
unfolding step counted
tally σ [] k = k
tally σ (b ∷ w) k = going (step σ b) (λ τ. tally τ w (counted σ b k)) k
