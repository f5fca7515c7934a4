-- Loading figures (01): which programs stop, by request L2's rule in place of 01's, and one figure over own weights.
use Rattle.std.specs.Prelude.{ℕ, ◌+◌, ◌*◌, min, max, Bool, true, false, cond, not, ◌&&◌, ◌||◌, ◌≡◌, eqb}
use Rattle.junior.specs.Configuration.{early_true, early_false}
use Rattle.junior.specs.Program.{Program, kind, size, Nothing, Stop, Atom, Seq, Par, Loop, Repeat, Generate, Await}
use Rattle.junior.specs.Program.{When, Until, Control, Local, Freezable, If}
use Rattle.junior.specs.Values.{most, surely}

-- needed only if possible
abbrev pub only_if : Bool → Bool → Bool
only_if possible so = not possible || so

-- Freshly begun, it can't end in that same instant. Await, When and Until by L2: "Await stops if its configuration can't be early true. When
-- needs its then branch to stop only if early true is possible, its else branch only if early false is. Until needs its body to stop, and its
-- handler only if early true is possible." (01 had: Await doesn't stop; When and Until do if both parts do.) L8: "Freezable never
-- counts as stopping". L14: "If .. stops if both branches stop ..; RepeatExt never counts as stopping".
unfoldable pub stops : Program → Bool
stops Nothing = false
stops Stop = true
stops (Atom a) = false
stops (Seq p q) = stops p || stops q
stops (Par p q) = stops p || stops q
stops (Loop p) = true
stops (Repeat n p) = surely n && stops p
stops (Generate s) = false
stops (Await c) = not (early_true c)
stops (When c p q) = only_if (early_true c) (stops p) && only_if (early_false c) (stops q)
stops (Until c p q) = stops p && only_if (early_true c) (stops q)
stops (Control s p) = stops p
stops (Local s p) = stops p
stops (Freezable s p) = false
stops (If v p q) = stops p && stops q

-- every Loop's body stops
unfoldable pub LoopsStop : Program → Type 0
LoopsStop Nothing = Unit {0}
LoopsStop Stop = Unit {0}
LoopsStop (Atom a) = Unit {0}
LoopsStop (Seq p q) = LoopsStop p × LoopsStop q
LoopsStop (Par p q) = LoopsStop p × LoopsStop q
LoopsStop (Loop p) = (stops p ≡ true) × LoopsStop p
LoopsStop (Repeat n p) = LoopsStop p
LoopsStop (Generate s) = Unit {0}
LoopsStop (Await c) = Unit {0}
LoopsStop (When c p q) = LoopsStop p × LoopsStop q
LoopsStop (Until c p q) = LoopsStop p × LoopsStop q
LoopsStop (Control s p) = LoopsStop p
LoopsStop (Local s p) = LoopsStop p
LoopsStop (Freezable s p) = LoopsStop p
LoopsStop (If v p q) = LoopsStop p × LoopsStop q

-- how often a figure counts a body that runs n times
abbrev pub times : ℕ → Bool → ℕ
times n body_stops = cond body_stops (min n 2) n

-- the figure of a program by the own weights k of its nodes. L8: of a Freezable "in every figure it is k plus body". L14: If "weighs as When",
-- and of RepeatExt "its figure uses the cap".
unfoldable pub figure : (Program → ℕ) → Program → ℕ
figure k Nothing = k Nothing
figure k Stop = k Stop
figure k (Atom a) = k (Atom a)
figure k (Seq p q) = k (Seq p q) + (figure k p + figure k q)
figure k (Par p q) = k (Par p q) + (figure k p + figure k q)
figure k (Loop p) = k (Loop p) + 2 * figure k p
figure k (Repeat n p) = k (Repeat n p) + times (most n) (stops p) * figure k p
figure k (Generate s) = k (Generate s)
figure k (Await c) = k (Await c)
figure k (When c p q) = k (When c p q) + max (figure k p) (figure k q)
figure k (Until c p q) = k (Until c p q) + (figure k p + figure k q)
figure k (Control s p) = k (Control s p) + figure k p
figure k (Local s p) = k (Local s p) + figure k p
figure k (Freezable s p) = k (Freezable s p) + figure k p
figure k (If v p q) = k (If v p q) + max (figure k p) (figure k q)

-- own weights: one for each node of a kind, one for every node
abbrev pub per : ℕ → Program → ℕ
per n p = cond (eqb (kind p) n) 1 0

abbrev pub every : Program → ℕ
every p = 1

-- "a Freezable weighs 4 plus 4 for each node of its body", which is 4 for each node of its own
abbrev pub parking : Program → ℕ
parking p = cond (eqb (kind p) 13) (4 * size p) 0

-- G: a Generate weighs 1; A: an Atom weighs 1; W: every node weighs 1
abbrev pub G : Program → ℕ
G p = figure (per 7) p

abbrev pub A : Program → ℕ
A p = figure (per 2) p

abbrev pub W : Program → ℕ
W p = figure every p

-- F: "A fourth figure F sums the bytes one instant can park"
abbrev pub F : Program → ℕ
F p = figure parking p
