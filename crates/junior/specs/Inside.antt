-- What holds of a term in the middle of an instant, and what it can still do there. No statement for a customer cites this file: the functions
-- that run a pass ask it of what they run.
use Rattle.std.specs.Prelude.{ℕ, ◌+◌, ◌*◌, ◌<◌, min, max, Bool, true, false, cond, not, ◌&&◌, ◌||◌, leb}
use Rattle.events.specs.Events.{Events, put}
use Rattle.junior.specs.declared.Flag.{Flag}
use Rattle.junior.specs.declared.Flag.TheVariants.{SUSP, STOP, TERM}
use Rattle.junior.specs.Configuration.{early_true, early_false}
use Rattle.junior.specs.Values.{most, surely}
use Rattle.junior.specs.Program.{Program, Nothing, Stop, Atom, Seq, Par, Loop, Repeat, Generate, Await, When, Until, Control, Local}
use Rattle.junior.specs.Program.{Freezable, If}
use Rattle.junior.specs.Term.{Term, done, nothing, stop, atom, generate, await, seq0, seq2, par, loop0, loop1}
use Rattle.junior.specs.Term.{repeat0, repeat1, when0, when1, when2, until0, until*, until2, control, local, freezable0, freezable*, if0, if1}
use Rattle.junior.specs.Term.{if2, prog}
use Rattle.junior.specs.AtRest.{AtRest, Over}
use Rattle.junior.specs.Figures.{only_if, stops, times, figure}

-- one flag of a Par is SUSP
abbrev pub Suspended : Flag → Flag → Type 0
Suspended SUSP β = Unit {0}
Suspended STOP SUSP = Unit {0}
Suspended STOP STOP = ⊥
Suspended STOP TERM = ⊥
Suspended TERM SUSP = Unit {0}
Suspended TERM STOP = ⊥
Suspended TERM TERM = ⊥

-- a part that answered with a flag goes on in this instant, has stopped at rest, or reads as Nothing
abbrev pub RemainsIf : Flag → Type 0 → Term → Type 0
RemainsIf SUSP going t = going
RemainsIf STOP going t = AtRest t
RemainsIf TERM going t = Over TERM t

-- the body of a Control whose event is present, or not: it can't have begun, since events only come
abbrev pub Controlled : Bool → Type 0 → Term → Type 0
Controlled true going t = going
Controlled false going t = AtRest t

-- t in the middle of an instant, the events X being present
unfoldable pub Going : Events → Term → Type 0
Going X (done p) = Unit {0}
Going X nothing = Unit {0}
Going X stop = Unit {0}
Going X (atom a) = Unit {0}
Going X (generate s) = Unit {0}
Going X (await c) = Unit {0}
Going X (seq0 t q) = Going X t
Going X (seq2 p t) = Going X t
Going X (par α β t u) = Suspended α β × RemainsIf α (Going X t) t × RemainsIf β (Going X u) u
Going X (loop0 p) = Unit {0}
Going X (loop1 t) = Going X t
Going X (repeat0 n p) = Unit {0}
Going X (repeat1 n k t) = (k < most n) × Going X t
Going X (when0 c p q) = Unit {0}
Going X (when1 c t q) = Going X t
Going X (when2 c p t) = Going X t
Going X (until0 c t q) = Going X t
Going X (until* c t q) = AtRest t
Going X (until2 c p t) = Going X t
Going X (control s t) = Controlled (X s) (Going X t) t
Going X (local b s t) = Going (put s b X) t
Going X (freezable0 s t) = Going X t
Going X (freezable* s t) = AtRest t
Going X (if0 v p q) = Unit {0}
Going X (if1 v t q) = Going X t
Going X (if2 v p t) = Going X t

abbrev pub Remains : Flag → Events → Term → Type 0
Remains α X t = RemainsIf α (Going X t) t

-- held or not, once the flag is known: who stopped can't end, who ended isn't held
abbrev pub live : Flag → Bool → Bool
live SUSP b = b
live STOP b = true
live TERM b = false

-- the term can't end in this instant
unfoldable pub held : Term → Bool
held (done p) = false
held nothing = false
held stop = true
held (atom a) = false
held (generate s) = false
held (await c) = not (early_true c)
held (seq0 t q) = held t || stops q
held (seq2 p t) = held t
held (par α β t u) = live α (held t) || live β (held u)
held (loop0 p) = true
held (loop1 t) = true
held (repeat0 n p) = surely n && stops p
held (repeat1 n k t) = held t || (leb 1 k && stops (prog t))
held (when0 c p q) = only_if (early_true c) (stops p) && only_if (early_false c) (stops q)
held (when1 c t q) = held t
held (when2 c p t) = held t
held (until0 c t q) = held t && only_if (early_true c) (stops q)
held (until* c t q) = only_if (early_true c) (stops q)
held (until2 c p t) = held t
held (control s t) = held t
held (local b s t) = held t
held (freezable0 s t) = false
held (freezable* s t) = false
held (if0 v p q) = stops p && stops q
held (if1 v t q) = held t
held (if2 v p t) = held t

-- what is left of x in this instant: nothing, unless suspended
abbrev pub rest : Flag → ℕ → ℕ
rest SUSP x = x
rest STOP x = 0
rest TERM x = 0

-- how many runs of its body a node can still begin in this instant, j being due: none if the rest of the body is held,
-- one if a begun body stops
abbrev pub due : ℕ → Bool → Bool → ℕ
due j rest_held body_stops = cond rest_held 0 (cond body_stops (min j 1) j)

-- what the term can still do in this instant weighs at most, and so does what one pass of it runs
unfoldable pub pot : (Program → ℕ) → Term → ℕ
pot k (done p) = k p
pot k nothing = k Nothing
pot k stop = k Stop
pot k (atom a) = k (Atom a)
pot k (generate s) = k (Generate s)
pot k (await c) = k (Await c)
pot k (seq0 t q) = k (Seq (prog t) q) + (pot k t + figure k q)
pot k (seq2 p t) = k (Seq p (prog t)) + pot k t
pot k (par α β t u) = k (Par (prog t) (prog u)) + (rest α (pot k t) + rest β (pot k u))
pot k (loop0 p) = k (Loop p) + figure k p
pot k (loop1 t) = k (Loop (prog t)) + (pot k t + due 1 (held t) true * figure k (prog t))
pot k (repeat0 n p) = k (Repeat n p) + times (most n) (stops p) * figure k p
pot k (repeat1 n j t) = k (Repeat n (prog t)) + (pot k t + due j (held t) (stops (prog t)) * figure k (prog t))
pot k (when0 c p q) = k (When c p q) + max (figure k p) (figure k q)
pot k (when1 c t q) = k (When c (prog t) q) + pot k t
pot k (when2 c p t) = k (When c p (prog t)) + pot k t
pot k (until0 c t q) = k (Until c (prog t) q) + (pot k t + figure k q)
pot k (until* c t q) = k (Until c (prog t) q) + figure k q
pot k (until2 c p t) = k (Until c p (prog t)) + pot k t
pot k (control s t) = k (Control s (prog t)) + pot k t
pot k (local b s t) = k (Local s (prog t)) + pot k t
pot k (freezable0 s t) = k (Freezable s (prog t)) + pot k t
pot k (freezable* s t) = k (Freezable s (prog t))
pot k (if0 v p q) = k (If v p q) + max (figure k p) (figure k q)
pot k (if1 v t q) = k (If v (prog t) q) + pot k t
pot k (if2 v p t) = k (If v p (prog t)) + pot k t
