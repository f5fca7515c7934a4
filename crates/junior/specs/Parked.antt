-- What an instant parks (L8): pieces, each the body of a Freezable of its event, "with no repetition of count or cap 0 above it" (refusal 25), its
-- state at rest. So what an instant parks is never to blame for 25; that its bytes are at most F is so too (law `at_most-F`).
use Rattle.std.specs.Prelude.{ℕ, suc, ◌+◌, ◌*◌, ◌≤◌, ◌≡◌, List, [], ◌∷◌}
use Rattle.junior.specs.Program.{Program, Freezable, One, loop, repeat, control, local, freezable, Two, size}
use Rattle.junior.specs.Values.{most}
use Rattle.junior.specs.Term.{prog}
use Rattle.junior.specs.Trace.{Piece, Act, parks}
use Rattle.junior.specs.AtRest.{AtRest}

-- a node runs its one part at least once: it is no repetition of count or cap 0
abbrev pub SomeRuns : {p q : Program} → One p q → Type 0
SomeRuns (loop p) = Unit {0}
SomeRuns (repeat n p) = 1 ≤ most n
SomeRuns (control s p) = Unit {0}
SomeRuns (local s p) = Unit {0}
SomeRuns (freezable s p) = Unit {0}

-- x stands at node j of p, p itself being node 0, and every repetition above it has some runs
pub data Reached : Program → ℕ → Program → Type 0 where
  itself : {p : Program} → Reached p 0 p
  in_part : {p q x : Program} {j : ℕ} (f : One p q) → SomeRuns f → Reached q j x → Reached p (1 + j) x
  in_first : {p q r x : Program} {j : ℕ} (f : Two p q r) → Reached q j x → Reached p (1 + j) x
  in_second : {p q r x : Program} {j : ℕ} (f : Two p q r) → Reached r j x → Reached p (1 + size q + j) x

-- x is parked by the program p, whose node is n
pub record Parked (p : Program) (n : ℕ) (x : Piece) : Type 0 where
  pub place : ℕ
  pub freezable : Reached p place (Freezable x.event (prog x.state))
  -- the body's node is the one behind the Freezable's
  pub node_is : x.node ≡ suc (n + place)
  pub at_rest : AtRest x.state

-- all of a list are so
pub data All {A : Type 0} (So : A → Type 0) : List A → Type 0 where
  no_more : All So []
  next : {x : A} {l : List A} → So x → All So l → All So (x ∷ l)

-- so is every piece that these acts park
abbrev pub Parks : Program → ℕ → List Act → Type 0
Parks p n l = All (Parked p n) (parks l)

-- what pieces weigh together, by what each weighs
unfoldable pub together : (Piece → ℕ) → List Piece → ℕ
together weight [] = 0
together weight (x ∷ l) = weight x + together weight l

-- the bytes of a piece in the store: "event (16), body's node (16), then four state bytes for each node of the body"
abbrev pub stored_length : Piece → ℕ
stored_length x = 4 + 4 * size (prog x.state)
