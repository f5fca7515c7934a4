-- Terms: a program node together with its state, a constructor for each phase (01, "State"). What 01 wants zero there,
-- because the reading leaves it out or it has not begun, is held as a program: it has no state.
use Rattle.std.specs.Prelude.{ℕ, Bool, false}
use Rattle.junior.specs.declared.Flag.{Flag}
use Rattle.junior.specs.declared.Flag.TheVariants.{SUSP, STOP, TERM}
use Rattle.junior.specs.Configuration.{Config}
use Rattle.junior.specs.Program.{Program, Nothing, Stop, Atom, Seq, Par, Loop, Repeat, Generate, Await, When}
use Rattle.junior.specs.Program.{Until, Control, Local, Freezable, If}
use Rattle.junior.specs.Values.{Times}

pub data Term : Type 0 where
  -- phase 3, any kind: reads as Nothing
  done : Program → Term
  nothing stop : Term
  atom generate : ℕ → Term
  await : Config → Term
  -- Seq in its first, and in its second: then it reads as that
  seq0 : Term → Program → Term
  seq2 : Program → Term → Term
  par : Flag → Flag → Term → Term → Term
  -- Loop not begun, and Seq(rest of body, Loop)
  loop0 : Program → Term
  loop1 : Term → Term
  -- Repeat(n) not begun, and Seq(rest, Repeat(k)) of a Repeat(n); a RepeatExt alike (L14: "If keeps When's phases,
  -- RepeatExt Repeat's")
  repeat0 : Times → Program → Term
  repeat1 : Times → ℕ → Term → Term
  -- When testing, and gone over into its then or its else branch
  when0 : Config → Program → Program → Term
  when1 : Config → Term → Program → Term
  when2 : Config → Program → Term → Term
  -- Until in its body, Until*, and gone over into its handler
  until0 until* : Config → Term → Program → Term
  until2 : Config → Program → Term → Term
  control : ℕ → Term → Term
  -- Local- at false, Local+ at true
  local : Bool → ℕ → Term → Term
  -- Freezable in its body, and Freezable* (L8: "phase 1 is the pending form and isn't at rest")
  freezable0 freezable* : ℕ → Term → Term
  -- If not begun, and gone over into its first or its second branch (L14: "If keeps When's phases")
  if0 : ℕ → Program → Program → Term
  if1 : ℕ → Term → Program → Term
  if2 : ℕ → Program → Term → Term

-- the program that a term is a state of
unfoldable pub prog : Term → Program
prog (done p) = p
prog nothing = Nothing
prog stop = Stop
prog (atom a) = Atom a
prog (generate s) = Generate s
prog (await c) = Await c
prog (seq0 t q) = Seq (prog t) q
prog (seq2 p t) = Seq p (prog t)
prog (par α β t u) = Par (prog t) (prog u)
prog (loop0 p) = Loop p
prog (loop1 t) = Loop (prog t)
prog (repeat0 n p) = Repeat n p
prog (repeat1 n k t) = Repeat n (prog t)
prog (when0 c p q) = When c p q
prog (when1 c t q) = When c (prog t) q
prog (when2 c p t) = When c p (prog t)
prog (until0 c t q) = Until c (prog t) q
prog (until* c t q) = Until c (prog t) q
prog (until2 c p t) = Until c p (prog t)
prog (control s t) = Control s (prog t)
prog (local b s t) = Local s (prog t)
prog (freezable0 s t) = Freezable s (prog t)
prog (freezable* s t) = Freezable s (prog t)
prog (if0 v p q) = If v p q
prog (if1 v t q) = If v (prog t) q
prog (if2 v p t) = If v p (prog t)

-- the state all zero
unfoldable pub fresh : Program → Term
fresh Nothing = nothing
fresh Stop = stop
fresh (Atom a) = atom a
fresh (Seq p q) = seq0 (fresh p) q
fresh (Par p q) = par SUSP SUSP (fresh p) (fresh q)
fresh (Loop p) = loop0 p
fresh (Repeat n p) = repeat0 n p
fresh (Generate s) = generate s
fresh (Await c) = await c
fresh (When c p q) = when0 c p q
fresh (Until c p q) = until0 c (fresh p) q
fresh (Control s p) = control s (fresh p)
fresh (Local s p) = local false s (fresh p)
fresh (Freezable s p) = freezable0 s (fresh p)
fresh (If v p q) = if0 v p q

-- "A node that answers TERM leaves Nothing, phase 3."
unfoldable pub leave : Flag → Term → Term
leave SUSP t = t
leave STOP t = t
leave TERM t = done (prog t)
