-- The program of a text, made by the reading machine's steps from left to right.
use Prim.Native.Nat.{ℕ, ◌-◌, ◌/◌}
use mathlib.Core.Bool.{cond}
use mathlib.Core.List.{List, [], ◌∷◌}
use lib.Dec.{eqb}
use lib.ListN.{get_or}
use Rattle.junior.specs.Configuration.{Config, Event, Not, And, Or}
use Rattle.junior.specs.Program.{Program, Nothing, Stop, Atom, Seq, Par, Loop, Repeat, Generate, Await, When, Until}
use Rattle.junior.specs.Program.{Control, Local, Freezable, If}
use Rattle.junior.specs.Values.{exactly, asked}
use Rattle.form.specs.Inside.Rows.{form_row, in_name, home, place_of}
use Rattle.form.specs.Inside.Machine.{Sym, Stack, byte, prog, name, parts, conf, inner}
use Rattle.form.specs.Inside.Machine.{joint, num, tail, end_byte, Next, dead, on, step}

-- what stands between brackets
pub data Item : Type 0 where
  program : Program → Item
  test : Config → Item
  number : ℕ → Item

abbrev pub program_of : Item → Program
program_of (program p) = p
program_of (test c) = Nothing
program_of (number n) = Nothing

-- a number may stand for its event
abbrev pub test_of : Item → Config
test_of (program p) = Event 0
test_of (test c) = c
test_of (number n) = Event n

abbrev pub number_of : Item → ℕ
number_of (program p) = 0
number_of (test c) = 0
number_of (number n) = n

-- what is made of the items between two brackets, the last of them first
abbrev pub Maker : Type 0
Maker = List Item → Item

abbrev pub item : List Item → ℕ → Item
item l i = get_or l i (number 0)

-- parts that nest to the right, the last of them being q
abbrev pub nested : (Program → Program → Program) → Program → List Item → Program
nested f q [] = q
nested f q (i ∷ l) = nested f (f (program_of i) q) l

abbrev pub several_of : (Program → Program → Program) → Maker
several_of f [] = number 0
several_of f (i ∷ l) = program (nested f (program_of i) l)

abbrev numbered_of : (ℕ → Program → Program) → Maker
numbered_of f l = program (f (number_of (item l 1)) (program_of (item l 0)))

abbrev branched_of : (Config → Program → Program → Program) → Maker
branched_of f l = program (f (test_of (item l 2)) (program_of (item l 1)) (program_of (item l 0)))

abbrev valued_of : Maker
valued_of l = program (If (number_of (item l 2)) (program_of (item l 1)) (program_of (item l 0)))

abbrev capped_of : Maker
capped_of l = program (Repeat (asked (number_of (item l 2)) (number_of (item l 1))) (program_of (item l 0)))

abbrev joined_of : (Config → Config → Config) → Maker
joined_of f l = test (f (test_of (item l 1)) (test_of (item l 0)))

-- the makers of the forms
unfoldable makers : List Maker
makers =
    (λ l. program Nothing)
    ∷ (λ l. program Stop)
    ∷ (λ l. program (Atom (number_of (item l 0))))
    ∷ several_of Seq
    ∷ several_of Par
    ∷ (λ l. program (Loop (program_of (item l 0))))
    ∷ numbered_of (λ n. Repeat (exactly n))
    ∷ (λ l. program (Generate (number_of (item l 0))))
    ∷ (λ l. program (Await (test_of (item l 0))))
    ∷ branched_of When
    ∷ branched_of Until
    ∷ numbered_of Control
    ∷ numbered_of Local
    ∷ numbered_of Freezable
    ∷ valued_of
    ∷ capped_of
    ∷ []

unfoldable maker_of : ℕ → Maker
unfolding makers
maker_of k = get_or makers k (λ l. number 0)

-- an open bracket and its items so far
pub data Bracket : Type 0 where
  bracket : Maker → List Item → Bracket

abbrev pub begin : Maker → List Bracket → List Bracket
begin f k = bracket f [] ∷ k

-- it has turned out what the bracket makes
abbrev turn : Maker → List Bracket → List Bracket
turn f [] = []
turn f (bracket g l ∷ k) = bracket f l ∷ k

abbrev pub add : Item → List Bracket → List Bracket
add i [] = []
add i (bracket f l ∷ k) = bracket f (i ∷ l) ∷ k

abbrev pub shut : List Bracket → List Bracket
shut [] = []
shut (bracket f l ∷ k) = add (f l) k

-- a byte's share where the stack begins with this symbol, but for a closing bracket
unfoldable pub mark : Sym → ℕ → List Bracket → List Bracket
unfolding in_name place_of maker_of
mark (byte c) b k = k
mark prog b k = k
mark (name p) b k = cond (eqb b 40) (begin (maker_of (place_of (home p) b / 20 - form_row 0)) k) k
mark parts b k = k
mark (conf e) b k = cond (eqb b 40) (begin (λ l. number 0) k) k
mark inner b k =
    cond (eqb b 110) (turn (λ l. test (Not (test_of (item l 0)))) k) (cond (eqb b 40) (begin (λ l. number 0) k) k)
mark joint b k = cond (eqb b 97) (turn (joined_of And) k) (turn (joined_of Or) k)
mark (num n e) b k = k
mark (tail n v e) b k = cond (eqb b (end_byte e)) (add (number v) k) k

-- a closing bracket
abbrev pub ending : ℕ → List Bracket → List Bracket
ending b k = cond (eqb b 41) (shut k) k

unfoldable pub marked : Stack → ℕ → List Bracket → List Bracket
unfolding mark
marked [] b k = k
marked (s ∷ σ) b k = ending b (mark s b k)

abbrev going : Next → (Stack → List Bracket) → List Bracket → List Bracket
going dead f k = k
going (on τ) f k = f τ

unfoldable pub make : Stack → List ℕ → List Bracket → List Bracket
unfolding step marked
make σ [] k = k
make σ (b ∷ w) k = going (step σ b) (λ τ. make τ w (marked σ b k)) k
