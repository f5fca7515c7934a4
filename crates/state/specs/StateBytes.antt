-- A term's bytes (01, "State"): four a node, phase, flags, count (16, big-endian), in the order of the table; all zero is fresh.
use Rattle.std.specs.Prelude.{ℕ, ◌+◌, ◌-◌, ◌*◌, ◌/◌, ◌%◌, cond, List, [], ◌∷◌, ◌++◌, replicate}
use Rattle.junior.specs.declared.Flag.{Flag}
use Rattle.junior.specs.declared.Flag.TheVariants.{SUSP, STOP, TERM}
use Rattle.junior.specs.Program.{Program, size}
use Rattle.junior.specs.Term.{Term, done, nothing, stop, atom, generate, await, seq0, seq2, par, loop0, loop1, repeat0}
use Rattle.junior.specs.Term.{repeat1, when0, when1, when2, until0, until*, until2, control, local, freezable0, freezable*, if0, if1, if2}

pub record Own : Type 0 where
  pub phase : ℕ
  pub flags : ℕ
  pub count : ℕ

abbrev pub in_phase : ℕ → Own
in_phase n = record { phase = n; flags = 0; count = 0 }

abbrev pub code : Flag → ℕ
code SUSP = 0
code STOP = 1
code TERM = 2

-- a node's own bytes: Par's flags are the first plus 4 times the second, a Repeat's or RepeatExt's count says how many runs are still to begin
abbrev pub head : Term → Own
head (done p) = in_phase 3
head nothing = in_phase 0
head stop = in_phase 0
head (atom a) = in_phase 0
head (generate s) = in_phase 0
head (await c) = in_phase 0
head (seq0 t q) = in_phase 0
head (seq2 p t) = in_phase 2
head (par α β t u) = record { phase = 0; flags = code α + 4 * code β; count = 0 }
head (loop0 p) = in_phase 0
head (loop1 t) = in_phase 1
head (repeat0 n p) = in_phase 0
head (repeat1 n k t) = record { phase = 1; flags = 0; count = k }
head (when0 c p q) = in_phase 0
head (when1 c t q) = in_phase 1
head (when2 c p t) = in_phase 2
head (until0 c t q) = in_phase 0
head (until* c t q) = in_phase 1
head (until2 c p t) = in_phase 2
head (control s t) = in_phase 0
head (local b s t) = in_phase (cond b 1 0)
head (freezable0 s t) = in_phase 0
head (freezable* s t) = in_phase 1
head (if0 v p q) = in_phase 0
head (if1 v t q) = in_phase 1
head (if2 v p t) = in_phase 2

-- they stand in front of the bytes of all below the node
abbrev pub before : Own → List ℕ → List ℕ
before o l = o.phase ∷ o.flags ∷ o.count / 256 ∷ o.count % 256 ∷ l

-- the bytes of a subtree that the reading leaves out or that has not begun
abbrev pub zeros : Program → List ℕ
zeros p = replicate (4 * size p) 0

unfoldable pub below : Term → List ℕ
below (done p) = replicate (4 * size p - 4) 0
below nothing = []
below stop = []
below (atom a) = []
below (generate s) = []
below (await c) = []
below (seq0 t q) = before (head t) (below t) ++ zeros q
below (seq2 p t) = zeros p ++ before (head t) (below t)
below (par α β t u) = before (head t) (below t) ++ before (head u) (below u)
below (loop0 p) = zeros p
below (loop1 t) = before (head t) (below t)
below (repeat0 n p) = zeros p
below (repeat1 n k t) = before (head t) (below t)
below (when0 c p q) = zeros p ++ zeros q
below (when1 c t q) = before (head t) (below t) ++ zeros q
below (when2 c p t) = zeros p ++ before (head t) (below t)
below (until0 c t q) = before (head t) (below t) ++ zeros q
below (until* c t q) = before (head t) (below t) ++ zeros q
below (until2 c p t) = zeros p ++ before (head t) (below t)
below (control s t) = before (head t) (below t)
below (local b s t) = before (head t) (below t)
below (freezable0 s t) = before (head t) (below t)
below (freezable* s t) = before (head t) (below t)
below (if0 v p q) = zeros p ++ zeros q
below (if1 v t q) = before (head t) (below t) ++ zeros q
below (if2 v p t) = zeros p ++ before (head t) (below t)

abbrev pub state_bytes : Term → List ℕ
state_bytes t = before (head t) (below t)
