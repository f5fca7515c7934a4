-- The written form (01, "Written form"): the `Jr.` constructors of 000, 2.2, an event being its number. One space after each comma, after
-- `not` and round `and` and `or`; no other blank. Numbers are decimal without leading zeros: events below 1,024 (L10), others at most
-- 65,535; L8's Freezable is written as Control; L14's If and RepeatExt have "the value's number (at most 15) first, RepeatExt's cap (at most 255) next".
use Rattle.std.specs.Prelude.{ℕ, ◌<◌, ◌≤◌, List, ◌++◌}
use Rattle.events.specs.Members.{places}
use Rattle.letters.specs.Decimal.{decimal}
use Rattle.letters.specs.Text.{bytes}
use Rattle.junior.specs.Configuration.{Config, Event, Not, And, Or}
use Rattle.junior.specs.Program.{Program, Nothing, Stop, Atom, Seq, Par, Loop, Repeat, Generate, Await, When, Until}
use Rattle.junior.specs.Program.{Control, Local, Freezable, If}
use Rattle.junior.specs.Values.{exactly, asked}

-- a configuration is a number, `(not C)`, `(C and C)` or `(C or C)`
pub data SaysTest : Config → List ℕ → Type 0 where
  says_event : {s : ℕ} → s < places → SaysTest (Event s) (decimal s)
  says_not : {c : Config} {u : List ℕ} → SaysTest c u → SaysTest (Not c) (bytes "(not " ++ (u ++ bytes ")"))
  says_and :
      {c d : Config} {u v : List ℕ} → SaysTest c u → SaysTest d v → SaysTest (And c d) (bytes "(" ++ (u ++ (bytes " and " ++ (v ++ bytes ")"))))
  says_or :
      {c d : Config} {u v : List ℕ} → SaysTest c u → SaysTest d v → SaysTest (Or c d) (bytes "(" ++ (u ++ (bytes " or " ++ (v ++ bytes ")"))))

-- what a piece of text stands for: a whole program, or what stands in a Seq or Par behind the comma after its first part
pub data Piece : Type 0 where
  whole later_seq later_par : Program → Piece

-- Seq and Par may have two or more parts and nest to the right
pub data Says : Piece → List ℕ → Type 0 where
  says_nothing : Says (whole Nothing) (bytes "Jr.Nothing()")
  says_stop : Says (whole Stop) (bytes "Jr.Stop()")
  says_atom : {a : ℕ} → a ≤ 65535 → Says (whole (Atom a)) (bytes "Jr.Atom(" ++ (decimal a ++ bytes ")"))
  says_seq :
      {p q : Program} {u v : List ℕ}
      → Says (whole p) u
      → Says (later_seq q) v
      → Says (whole (Seq p q)) (bytes "Jr.Seq(" ++ (u ++ (bytes ", " ++ v)))
  last_of_seq : {q : Program} {u : List ℕ} → Says (whole q) u → Says (later_seq q) (u ++ bytes ")")
  more_of_seq :
      {p q : Program} {u v : List ℕ} → Says (whole p) u → Says (later_seq q) v → Says (later_seq (Seq p q)) (u ++ (bytes ", " ++ v))
  says_par :
      {p q : Program} {u v : List ℕ}
      → Says (whole p) u
      → Says (later_par q) v
      → Says (whole (Par p q)) (bytes "Jr.Par(" ++ (u ++ (bytes ", " ++ v)))
  last_of_par : {q : Program} {u : List ℕ} → Says (whole q) u → Says (later_par q) (u ++ bytes ")")
  more_of_par :
      {p q : Program} {u v : List ℕ} → Says (whole p) u → Says (later_par q) v → Says (later_par (Par p q)) (u ++ (bytes ", " ++ v))
  says_loop : {p : Program} {u : List ℕ} → Says (whole p) u → Says (whole (Loop p)) (bytes "Jr.Loop(" ++ (u ++ bytes ")"))
  says_repeat :
      {n : ℕ} {p : Program} {u : List ℕ}
      → n ≤ 65535
      → Says (whole p) u
      → Says (whole (Repeat (exactly n) p)) (bytes "Jr.Repeat(" ++ (decimal n ++ (bytes ", " ++ (u ++ bytes ")"))))
  says_generate : {s : ℕ} → s < places → Says (whole (Generate s)) (bytes "Jr.Generate(" ++ (decimal s ++ bytes ")"))
  says_await : {c : Config} {u : List ℕ} → SaysTest c u → Says (whole (Await c)) (bytes "Jr.Await(" ++ (u ++ bytes ")"))
  says_when :
      {c : Config} {p q : Program} {u v w : List ℕ}
      → SaysTest c u
      → Says (whole p) v
      → Says (whole q) w
      → Says (whole (When c p q)) (bytes "Jr.When(" ++ (u ++ (bytes ", " ++ (v ++ (bytes ", " ++ (w ++ bytes ")"))))))
  says_until :
      {c : Config} {p q : Program} {u v w : List ℕ}
      → SaysTest c u
      → Says (whole p) v
      → Says (whole q) w
      → Says (whole (Until c p q)) (bytes "Jr.Until(" ++ (u ++ (bytes ", " ++ (v ++ (bytes ", " ++ (w ++ bytes ")"))))))
  says_control :
      {s : ℕ} {p : Program} {u : List ℕ}
      → s < places
      → Says (whole p) u
      → Says (whole (Control s p)) (bytes "Jr.Control(" ++ (decimal s ++ (bytes ", " ++ (u ++ bytes ")"))))
  says_local :
      {s : ℕ} {p : Program} {u : List ℕ}
      → s < places
      → Says (whole p) u
      → Says (whole (Local s p)) (bytes "Jr.Local(" ++ (decimal s ++ (bytes ", " ++ (u ++ bytes ")"))))
  says_freezable :
      {s : ℕ} {p : Program} {u : List ℕ}
      → s < places
      → Says (whole p) u
      → Says (whole (Freezable s p)) (bytes "Jr.Freezable(" ++ (decimal s ++ (bytes ", " ++ (u ++ bytes ")"))))
  says_if :
      {v : ℕ} {p q : Program} {u w : List ℕ}
      → v ≤ 15
      → Says (whole p) u
      → Says (whole q) w
      → Says (whole (If v p q)) (bytes "Jr.If(" ++ (decimal v ++ (bytes ", " ++ (u ++ (bytes ", " ++ (w ++ bytes ")"))))))
  says_repeat_ext :
      {v cap : ℕ} {p : Program} {u : List ℕ}
      → v ≤ 15
      → cap ≤ 255
      → Says (whole p) u
      → Says (whole (Repeat (asked v cap) p)) (bytes "Jr.RepeatExt(" ++ (decimal v ++ (bytes ", " ++ (decimal cap ++ (bytes ", " ++ (u ++ bytes ")"))))))
