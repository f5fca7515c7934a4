-- The reading machine: it reads a text from left to right, a byte a step, with a stack of what is still to come.
use Prim.Native.Char.{code}
use Prim.Native.String.{String, [] as []ˢ, ◌∷◌ as ◌∷ˢ◌}
use Rattle.std.specs.Prelude.{ℕ, suc, ◌+◌, ◌*◌, ◌-◌, Bool, true, false, cond, ◌&&◌, List, [], ◌∷◌, ◌++◌, eqb, ltb, leb, get_or}
use Rattle.events.specs.Members.{places}
use Rattle.letters.specs.Text.{bytes}
use Rattle.form.specs.Inside.Rows.{codes, in_name, first_name, home, place_of}

-- the byte behind a number or a configuration: none is a digit
pub data End : Type 0 where
  close comma space : End

abbrev pub end_byte : End → ℕ
end_byte close = 41
end_byte comma = 44
end_byte space = 32

-- an event's number, one of 16 bits, a value's, a cap
pub data Number : Type 0 where
  event plain value cap : Number

abbrev pub limit : Number → ℕ
limit event = places - 1
limit plain = 65535
limit value = 15
limit cap = 255

-- What is still to come. A number or configuration has the byte behind it in its symbol, so that every stack can
-- be completed.
pub data Sym : Type 0 where
  -- this byte
  byte : ℕ → Sym
  -- a program
  prog : Sym
  -- what is to come of a form's name from a place in it on, and what belongs to it
  name : ℕ → Sym
  -- behind the second or a later part of a Seq or Par
  parts : Sym
  -- a configuration
  conf : End → Sym
  -- behind the bracket of a configuration; behind its first part and a space
  inner joint : Sym
  -- a number; the rest of a number whose value so far is v
  num : Number → End → Sym
  tail : Number → ℕ → End → Sym

abbrev pub Stack : Type 0
Stack = List Sym

-- these bytes, then the stack
abbrev pub lit : List ℕ → Stack → Stack
lit [] σ = σ
lit (c ∷ w) σ = byte c ∷ lit w σ

abbrev pub ending : ℕ → End
ending x = cond (eqb x 41) close (cond (eqb x 44) comma space)

abbrev pub sort_of : ℕ → Number
sort_of x = cond (ltb x 139) event (cond (eqb x 139) plain (cond (eqb x 140) value cap))

-- a symbol that ends its row
abbrev pub last : ℕ → Sym
last x = cond (eqb x 129) (name first_name) (cond (eqb x 133) parts (cond (eqb x 136) inner joint))

-- the symbols that codes stand for; true: the first code is an end byte that belongs to the symbol before it
unfoldable pub syms : Bool → List ℕ → Stack
syms b [] = []
syms true (x ∷ l) = syms false l
syms false (x ∷ l) =
    cond (ltb x 128) (byte x ∷ syms false l)
    (cond (eqb x 128) (prog ∷ syms false l)
    (cond (eqb x 134) (conf (ending (get_or l 0 0)) ∷ syms true l)
    (cond (leb 138 x) (num (sort_of x) (ending (get_or l 0 0)) ∷ syms true l) (last x ∷ []))))

-- a text that may come, and what comes behind it: whether b is its first byte, and the stack then
abbrev pub way : ℕ → String → Stack → Bool × Stack
way b []ˢ σ = (false, σ)
way b (c ∷ˢ s) σ = (eqb b (code c), lit (bytes s) σ)

abbrev pub is_digit_byte : ℕ → Bool
is_digit_byte b = leb 48 b && leb b 57

-- v with the digit b behind it
abbrev pub grown : ℕ → ℕ → ℕ
grown v b = 10 * v + (b - 48)

-- the ways on from a symbol over σ at byte b; no two tests hold at once
unfoldable pub ways : Sym → Stack → ℕ → List (Bool × Stack)
unfolding in_name place_of codes syms
ways (byte c) σ b = (eqb b c, σ) ∷ []
ways prog σ b = way b "Jr." (name first_name ∷ σ) ∷ []
ways (name p) σ b =
    let q = place_of (home p) b in
    (cond (eqb q 0) false true, cond (eqb b 40) (syms false (codes (suc q)) ++ σ) (name (suc q) ∷ σ)) ∷ []
ways parts σ b = way b ")" σ ∷ way b ", " (prog ∷ parts ∷ σ) ∷ []
ways (conf e) σ b = way b "(" (inner ∷ byte (end_byte e) ∷ σ) ∷ (is_digit_byte b, tail event (b - 48) e ∷ σ) ∷ []
ways inner σ b =
    way b "not " (conf close ∷ σ)
    ∷ way b "(" (inner ∷ byte 32 ∷ joint ∷ σ)
    ∷ (is_digit_byte b, tail event (b - 48) space ∷ joint ∷ σ)
    ∷ []
ways joint σ b = way b "and " (conf close ∷ σ) ∷ way b "or " (conf close ∷ σ) ∷ []
ways (num n e) σ b = (is_digit_byte b, tail n (b - 48) e ∷ σ) ∷ []
ways (tail n v e) σ b =
    (eqb b (end_byte e), σ)
    ∷ (is_digit_byte b && (leb 1 v && leb (grown v b) (limit n)), tail n (grown v b) e ∷ σ)
    ∷ []

-- no reading goes on, or one may with this stack
pub data Next : Type 0 where
  dead : Next
  on : Stack → Next

unfoldable pub choose : List (Bool × Stack) → Next
choose [] = dead
choose ((true, σ) ∷ l) = on σ
choose ((false, σ) ∷ l) = choose l

unfoldable pub step : Stack → ℕ → Next
unfolding ways choose
step [] b = dead
step (s ∷ σ) b = choose (ways s σ b)

abbrev pub then : Next → (Stack → Next) → Next
then dead f = dead
then (on τ) f = f τ

-- what is still to come behind a text
unfoldable pub run : Stack → List ℕ → Next
unfolding step
run σ [] = on σ
run σ (b ∷ w) = then (step σ b) (λ τ. run τ w)

abbrev pub further : Next → (Stack → ℕ) → ℕ
further dead f = 0
further (on τ) f = suc (f τ)

-- how many bytes are read before none goes on
unfoldable pub reach : Stack → List ℕ → ℕ
unfolding step
reach σ [] = 0
reach σ (b ∷ w) = further (step σ b) (λ τ. reach τ w)
