-- Programs: the thirteen forms (01, "What the kernel holds"; 000, 2.1), with L8's Freezable (000, 2.1) and L14's If and RepeatExt (001, 2.2), and
-- what each form has: a kind, an argument and parts (01, "The table").
use Rattle.std.specs.Prelude.{ℕ, ◌+◌}
use Rattle.junior.specs.Configuration.{Config}
use Rattle.junior.specs.Values.{Times, exactly, asked}

pub data Program : Type 0 where
  Nothing Stop : Program
  Atom : ℕ → Program
  Seq Par : Program → Program → Program
  Loop : Program → Program
  -- Repeat, and RepeatExt, whose number of runs is asked of the box
  Repeat : Times → Program → Program
  Generate : ℕ → Program
  Await : Config → Program
  When Until : Config → Program → Program → Program
  Control Local : ℕ → Program → Program
  -- L8: "kind 13, one child, an event as argument"
  Freezable : ℕ → Program → Program
  If : ℕ → Program → Program → Program

-- an Atom's number or a Repeat's count, an event, a configuration; the number of an If's value, of a RepeatExt's with its cap
pub data Argument : Type 0 where
  no_argument : Argument
  number event : ℕ → Argument
  configuration : Config → Argument
  value : ℕ → Argument
  capped : ℕ → ℕ → Argument

pub record Head : Type 0 where
  pub kind : ℕ
  pub argument : Argument

-- each form's kind and argument
abbrev pub head : Program → Head
head Nothing = record { kind = 0; argument = no_argument }
head Stop = record { kind = 1; argument = no_argument }
head (Atom a) = record { kind = 2; argument = number a }
head (Seq p q) = record { kind = 3; argument = no_argument }
head (Par p q) = record { kind = 4; argument = no_argument }
head (Loop p) = record { kind = 5; argument = no_argument }
head (Repeat (exactly n) p) = record { kind = 6; argument = number n }
head (Repeat (asked v cap) p) = record { kind = 15; argument = capped v cap }
head (Generate s) = record { kind = 7; argument = event s }
head (Await c) = record { kind = 8; argument = configuration c }
head (When c p q) = record { kind = 9; argument = configuration c }
head (Until c p q) = record { kind = 10; argument = configuration c }
head (Control s p) = record { kind = 11; argument = event s }
head (Local s p) = record { kind = 12; argument = event s }
head (Freezable s p) = record { kind = 13; argument = event s }
head (If v p q) = record { kind = 14; argument = value v }

unfoldable pub kind : Program → ℕ
kind p = (head p).kind

abbrev pub argument : Program → Argument
argument p = (head p).argument

-- each form's parts: none, one or two
pub data Leaf : Program → Type 0 where
  nothing : Leaf Nothing
  stop : Leaf Stop
  atom : (a : ℕ) → Leaf (Atom a)
  generate : (s : ℕ) → Leaf (Generate s)
  await : (c : Config) → Leaf (Await c)

pub data One : Program → Program → Type 0 where
  loop : (p : Program) → One (Loop p) p
  repeat : (n : Times) (p : Program) → One (Repeat n p) p
  control : (s : ℕ) (p : Program) → One (Control s p) p
  local : (s : ℕ) (p : Program) → One (Local s p) p
  freezable : (s : ℕ) (p : Program) → One (Freezable s p) p

pub data Two : Program → Program → Program → Type 0 where
  seq : (p q : Program) → Two (Seq p q) p q
  par : (p q : Program) → Two (Par p q) p q
  when : (c : Config) (p q : Program) → Two (When c p q) p q
  until : (c : Config) (p q : Program) → Two (Until c p q) p q
  if : (v : ℕ) (p q : Program) → Two (If v p q) p q

-- A program taken apart, and its parts likewise: what holds or is defined for all forms alike goes by these three cases.
pub data Parts : Program → Type 0 where
  no_part : {p : Program} → Leaf p → Parts p
  one_part : {p q : Program} → One p q → Parts q → Parts p
  two_parts : {p q r : Program} → Two p q r → Parts q → Parts r → Parts p

abbrev pub parts : (p : Program) → Parts p
parts Nothing = no_part nothing
parts Stop = no_part stop
parts (Atom a) = no_part (atom a)
parts (Seq p q) = two_parts (seq p q) (parts p) (parts q)
parts (Par p q) = two_parts (par p q) (parts p) (parts q)
parts (Loop p) = one_part (loop p) (parts p)
parts (Repeat n p) = one_part (repeat n p) (parts p)
parts (Generate s) = no_part (generate s)
parts (Await c) = no_part (await c)
parts (When c p q) = two_parts (when c p q) (parts p) (parts q)
parts (Until c p q) = two_parts (until c p q) (parts p) (parts q)
parts (Control s p) = one_part (control s p) (parts p)
parts (Local s p) = one_part (local s p) (parts p)
parts (Freezable s p) = one_part (freezable s p) (parts p)
parts (If v p q) = two_parts (if v p q) (parts p) (parts q)

-- the node and all below it
abbrev pub size_of : {p : Program} → Parts p → ℕ
size_of (no_part l) = 1
size_of (one_part f q) = 1 + size_of q
size_of (two_parts f q r) = 1 + size_of q + size_of r

unfoldable pub size : Program → ℕ
size p = size_of (parts p)
