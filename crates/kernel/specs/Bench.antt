-- The bench list (01, "Bench list"): tables, state rooms and events with what check, start and instant answer to them, one list and one statement
-- over it, of the very definitions that are their contracts. Beyond K1 to K12 it has an example for each clause of these definitions.
use Rattle.std.specs.Prelude.{ℕ, zero, suc, ◌+◌, ◌-◌, ◌*◌, ◌/◌, ◌%◌, ◌^◌, Bool, true, false, cond, ◌≡◌, Ok, Err, List, [], ◌∷◌, ◌++◌, eqb, length, replicate}
use Rattle.events.specs.declared.EventSet.{EventSet}
use Rattle.events.specs.Members.{places, members, Whole}
use Rattle.table.specs.declared.TableRefusal.{TableRefusal}
use Rattle.table.specs.declared.TableRefusal.TheVariants.{BadLength, BadCounts, BadDistances, BadConfiguration, BadNode}
use Rattle.table.specs.declared.TableRefusal.TheVariants.{EndlessLoop, TooHeavy}
use Rattle.table.specs.Records.{nodes}
use Rattle.table.specs.Verdict.{Verdict, accepted_with, verdict_of, number_of, index_of, figures_of}
use Rattle.table.specs.Bytes.{node, configuration, trailer}
use Rattle.waiting.specs.declared.Wait.{Wait}
use Rattle.kernel.specs.declared.Refusal.{Refusal}
use Rattle.kernel.specs.declared.Refusal.TheVariants.{Table, StateRoom, NotAtRest, UnlistedEvent}
use Rattle.kernel.specs.declared.Refusal.TheVariants.{AtomRoom, BadStore, StoreRoom}
use Rattle.kernel.specs.declared.Answer.{Answer}
use Rattle.kernel.specs.Answer.{Outcome, Reply, fields_of, Rooms, rooms, outcome_number, outcome_index, values_of, Started, Answered}

-- an instant: the events and the bytes of the values handed in, the row lent for atoms and the store; its whole answer, with its number and index;
-- the state room, the row and the store after it
pub record Line : Type 0 where
  pub handed : EventSet
  pub values : List ℕ
  pub lent : Rooms
  pub answer : Reply
  pub number : ℕ
  pub index : ℕ
  pub state : List ℕ
  pub left : Rooms

pub data Entry : Type 0 where
  -- check accepts the table with G, A, W and F; start makes a room of 4N + 1 bytes, all 255, fresh but for the last; these instants follow, each in
  -- the room that the one before left
  parking : List ℕ → ℕ → ℕ → ℕ → ℕ → List Line → Entry
  -- check refuses the table with this number and index; so do start and instant, in all rooms
  refused : List ℕ → TableRefusal → ℕ → ℕ → Entry
  -- start refuses this room with this number and index
  not_started : List ℕ → List ℕ → Refusal → ℕ → ℕ → Entry
  -- each of these instants is refused, in the room that it leaves as it was
  not_run : List ℕ → List Line → Entry
  -- these instants follow one another from this room, which no run need leave so
  resumed : List ℕ → List ℕ → List Line → Entry

-- with F = 0: nothing is ever parked
abbrev pub accepted : List ℕ → ℕ → ℕ → ℕ → List Line → Entry
accepted t g a w l = parking t g a w 0 l

-- check answers exactly this (its contract: the answer is `verdict_of` the bytes)
pub record Checks (t : List ℕ) (c : Verdict) (number index g a w f : ℕ) : Type 0 where
  pub verdict_is : verdict_of t ≡ c
  pub number_is : number_of c ≡ number
  pub index_is : index_of c ≡ index
  pub figures_are : figures_of c ≡ record { generations = g; atoms = a; nodes = w; parked = f }

-- start answers exactly this in the room s, and leaves s' there: its contract allows this and nothing else
pub record Starts (t s : List ℕ) (o : Outcome) (number index : ℕ) (s' : List ℕ) : Type 0 where
  pub started : Started t s s' o
  pub only : {q : Outcome} {s'' : List ℕ} → Started t s s'' q → (q ≡ o) × (s'' ≡ s')
  pub number_is : outcome_number o ≡ number
  pub index_is : outcome_index o ≡ index

-- instant answers exactly this line in the room s: its contract allows this and nothing else (Whole: words of 64 bits for all places, as in a running program)
pub record Answers (t s : List ℕ) (x : Line) : Type 0 where
  pub answered : Answered t s (members x.handed) (values_of x.values) x.lent x.state x.left x.answer
  pub only : {q : Reply} {s' : List ℕ} {left : Rooms} → Whole (fields_of q).events
      → Answered t s (members x.handed) (values_of x.values) x.lent s' left q
      → (q ≡ x.answer) × (s' ≡ x.state) × (left ≡ x.left)
  pub number_is : outcome_number x.answer ≡ x.number
  pub index_is : outcome_index x.answer ≡ x.index

-- each in the room that the one before left; each in its own
unfoldable pub Follow : List ℕ → List ℕ → List Line → Type 0
Follow t s [] = Unit {0}
Follow t s (x ∷ l) = Answers t s x × Follow t x.state l

unfoldable pub Alone : List ℕ → List Line → Type 0
Alone t [] = Unit {0}
Alone t (x ∷ l) = Answers t x.state x × Alone t l

-- the set of these events, by its words
unfoldable pub word_of : ℕ → List ℕ → ℕ
word_of q [] = 0
word_of q (e ∷ l) = cond (eqb (e / 64) q) (2 ^ (e % 64)) 0 + word_of q l

unfoldable pub words_of : ℕ → ℕ → List ℕ → List ℕ
words_of zero q l = []
words_of (suc n) q l = word_of q l ∷ words_of n (suc q) l

abbrev pub set : List ℕ → EventSet
set l = record { words = words_of (places / 64) 0 l }

-- what stands for the lowest event if none is present
abbrev pub no_event : ℕ
no_event = places

-- what stands for the test that waits and its event if the end wasn't declared
abbrev pub no_wait : Wait
no_wait = record { node = 4096; event = no_event }

-- the answer of an instant that ran: its events, how many, the lowest; how many atoms; whether it finished; passes
abbrev pub ran : List ℕ → ℕ → ℕ → ℕ → Bool → ℕ → Answer
ran X count lowest atoms finished passes =
    record { events = set X; count = count; lowest = lowest; atoms = atoms; finished = finished; passes = passes; waits = no_wait }

-- the same of one whose end was declared: the node of the first test that waited, and the event
abbrev pub waiting : ℕ → ℕ → Answer → Answer
waiting n e a =
    record {
      events = a.events;
      count = a.count;
      lowest = a.lowest;
      atoms = a.atoms;
      finished = a.finished;
      passes = a.passes;
      waits = record { node = n; event = e };
    }

-- the values that are handed in where a line says nothing of them
abbrev pub no_values : List ℕ
no_values = replicate 16 0

-- the store that is lent where a line says nothing of it: two bytes, and no piece
abbrev pub no_pieces : List ℕ
no_pieces = 0 ∷ 0 ∷ []

-- an instant that ran: the events handed in, the row, the answer, the row after it, the state room after it
abbrev pub instant_in : List ℕ → List ℕ → Answer → List ℕ → List ℕ → Line
instant_in X row a row' s =
    record {
      handed = set X;
      values = no_values;
      lent = rooms row no_pieces;
      answer = Ok a;
      number = 0;
      index = 0;
      state = s;
      left = rooms row' no_pieces;
    }

-- one that was refused: the events handed in, row and room, both as they were; the refusal, its number, its index
abbrev pub turned_down : EventSet → List ℕ → List ℕ → Refusal → ℕ → ℕ → Line
turned_down X row s o number index =
    record {
      handed = X;
      values = no_values;
      lent = rooms row no_pieces;
      answer = Err o;
      number = number;
      index = index;
      state = s;
      left = rooms row no_pieces;
    }

-- one value, by its number, and the rest 0
abbrev pub value_is : ℕ → ℕ → List ℕ
value_is v n = replicate v 0 ++ (n ∷ replicate (15 - v) 0)

-- the same line with these values handed in
abbrev pub asking : List ℕ → Line → Line
asking values x =
    record {
      handed = x.handed;
      values = values;
      lent = x.lent;
      answer = x.answer;
      number = x.number;
      index = x.index;
      state = x.state;
      left = x.left;
    }

-- the same line with this store lent and that one left
abbrev pub storing : List ℕ → List ℕ → Line → Line
storing store store' x =
    record {
      handed = x.handed;
      values = x.values;
      lent = rooms x.lent.row store;
      answer = x.answer;
      number = x.number;
      index = x.index;
      state = x.state;
      left = rooms x.left.row store';
    }

-- what an entry says
unfoldable pub Shown : Entry → Type 0
Shown (parking t g a w f l) =
    let fresh : List ℕ = replicate (4 * nodes t) 0 ++ (255 ∷ []) in
    Checks t (accepted_with g a w f) 0 0 g a w f × Starts t (replicate (4 * nodes t + 1) 255) (Ok tt) 0 0 fresh × Follow t fresh l
Shown (refused t c n i) =
    Checks t (Err c) n i 0 0 0 0
    × ((s : List ℕ) → Starts t s (Err (Table c)) n i s)
    × ((s : List ℕ) (X : EventSet) (values row store : List ℕ)
    → Answers t s (asking values (storing store store (turned_down X row s (Table c) n i))))
Shown (not_started t s o n i) = Starts t s (Err o) n i s
Shown (not_run t l) = Alone t l
Shown (resumed t s l) = Follow t s l

-- each of a list
unfoldable pub All : (Entry → Type 0) → List Entry → Type 0
All So [] = Unit {0}
All So (e ∷ l) = So e × All So l

-- Tables, written like the programs: a node's record in front of those of its parts, which its size counts
abbrev pub form : ℕ → ℕ → List ℕ → List ℕ
form kind argument parts = node kind argument (1 + length parts / 6) ++ parts

abbrev pub nothing : List ℕ
nothing = form 0 0 []

abbrev pub stop : List ℕ
stop = form 1 0 []

abbrev pub atom : ℕ → List ℕ
atom a = form 2 a []

abbrev pub seq : List ℕ → List ℕ → List ℕ
seq p q = form 3 0 (p ++ q)

abbrev pub par : List ℕ → List ℕ → List ℕ
par p q = form 4 0 (p ++ q)

abbrev pub loop : List ℕ → List ℕ
loop p = form 5 0 p

abbrev pub repeat : ℕ → List ℕ → List ℕ
repeat n p = form 6 n p

abbrev pub generate : ℕ → List ℕ
generate e = form 7 e []

-- these three name the configuration that they test by its index
abbrev pub await : ℕ → List ℕ
await c = form 8 c []

abbrev pub when : ℕ → List ℕ → List ℕ → List ℕ
when c p q = form 9 c (p ++ q)

abbrev pub until : ℕ → List ℕ → List ℕ → List ℕ
until c p q = form 10 c (p ++ q)

abbrev pub control : ℕ → List ℕ → List ℕ
control e p = form 11 e p

abbrev pub local : ℕ → List ℕ → List ℕ
local e p = form 12 e p

abbrev pub freezable : ℕ → List ℕ → List ℕ
freezable e p = form 13 e p

-- these two ask for a value by its number
abbrev pub if_value : ℕ → List ℕ → List ℕ → List ℕ
if_value v p q = form 14 v (p ++ q)

abbrev pub repeat_ext : ℕ → ℕ → List ℕ → List ℕ
repeat_ext v cap p = form 15 (16 * cap + v) p

-- configurations likewise: an event, a not, an and, an or
abbrev pub event : ℕ → List ℕ
event e = configuration (16 * (e / 256)) (e % 256) 1

abbrev pub no : List ℕ → List ℕ
no c = configuration 1 0 (1 + length c / 4) ++ c

abbrev pub both : List ℕ → List ℕ → List ℕ
both c d = configuration 2 0 (1 + length (c ++ d) / 4) ++ (c ++ d)

abbrev pub either : List ℕ → List ℕ → List ℕ
either c d = configuration 3 0 (1 + length (c ++ d) / 4) ++ (c ++ d)

-- the nodes, the configurations, and a trailer with V events that points back to them
abbrev pub table : List ℕ → List ℕ → ℕ → List ℕ
table p c v = p ++ (c ++ trailer (length p / 6) (length c / 4) v (length p + length c) (length c))

-- States: a node's own bytes; those of nodes that have a phase alone; such nodes at the end of a room, in front of its last byte
abbrev pub own : ℕ → ℕ → ℕ → List ℕ
own phase flags count = phase ∷ flags ∷ count / 256 ∷ count % 256 ∷ []

unfoldable pub phases : List ℕ → List ℕ
phases [] = []
phases (ph ∷ l) = ph ∷ 0 ∷ 0 ∷ 0 ∷ phases l

abbrev pub room : List ℕ → List ℕ
room l = phases l ++ (255 ∷ [])

-- the row that is lent, if nothing else is said
abbrev pub row9 : List ℕ
row9 = 9 ∷ 9 ∷ 9 ∷ 9 ∷ []

abbrev pub instant : List ℕ → Answer → List ℕ → List ℕ → Line
instant X a row s = instant_in X row9 a row s

-- with nothing handed in this room is refused, node i being to blame
abbrev pub blames : List ℕ → ℕ → Line
blames s i = turned_down (set []) row9 s (NotAtRest i) 10 i

-- Seq(Await 0, Seq(Atom 7, Generate 1)), its test being the configuration c
abbrev pub reply : ℕ → List ℕ
reply c = seq (await c) (seq (atom 7) (generate 1))

-- When(1, Atom 1, Atom 2)
abbrev pub choice : List ℕ
choice = when 0 (atom 1) (atom 2)

abbrev pub K1 : List ℕ
K1 = 0x00 ∷ 0x00 ∷ 0x00 ∷ 0x00 ∷ 0x00 ∷ 0x01 ∷ 0x00 ∷ 0x01 ∷ 0x00 ∷ 0x00 ∷ 0x00 ∷ 0x01 ∷ 0x00 ∷ 0x06 ∷ 0x00 ∷ 0x00 ∷ []

-- fifteen times not
abbrev pub nots15 : List ℕ → List ℕ
nots15 c = no (no (no (no (no (no (no (no (no (no (no (no (no (no (no c))))))))))))))

abbrev pub K1_to_K12 : List Entry
K1_to_K12 =
    -- K1: Nothing
    accepted K1 0 0 1 (instant [] (ran [] 0 no_event 0 true 1) row9 (room (3 ∷ [])) ∷ [])
    -- K2: Stop
    ∷ accepted (table stop [] 1) 0 0 1
    (instant [] (ran [] 0 no_event 0 false 1) row9 (room (3 ∷ []))
    ∷ instant [] (ran [] 0 no_event 0 true 1) row9 (room (3 ∷ []))
    ∷ [])
    -- K3: P, Par(Seq(Await 0, Seq(Atom 7, Generate 1)), Await 1)
    ∷ accepted (table (par (reply 0) (await 1)) (event 0 ++ event 1) 2) 1 1 7
    (instant [] (waiting 2 0 (ran [] 0 no_event 0 false 2)) row9 (room (0 ∷ 0 ∷ 0 ∷ 0 ∷ 0 ∷ 0 ∷ 0 ∷ []))
    ∷ instant (0 ∷ []) (ran (0 ∷ 1 ∷ []) 2 0 1 true 1) (7 ∷ 9 ∷ 9 ∷ 9 ∷ []) (room (3 ∷ 0 ∷ 0 ∷ 0 ∷ 0 ∷ 0 ∷ 0 ∷ []))
    ∷ instant (1 ∷ []) (ran (1 ∷ []) 1 1 0 true 1) row9 (room (3 ∷ 0 ∷ 0 ∷ 0 ∷ 0 ∷ 0 ∷ 0 ∷ []))
    ∷ [])
    -- K4: P with Par's branches exchanged
    ∷ accepted (table (par (await 0) (reply 1)) (event 1 ++ event 0) 2) 1 1 7
    (instant (0 ∷ []) (ran (0 ∷ 1 ∷ []) 2 0 1 true 2) (7 ∷ 9 ∷ 9 ∷ 9 ∷ []) (room (3 ∷ 0 ∷ 0 ∷ 0 ∷ 0 ∷ 0 ∷ 0 ∷ []))
    ∷ [])
    -- K5: Par(When(1, Atom 1, Atom 2), Generate 1)
    ∷ accepted (table (par choice (generate 1)) (event 1) 2) 1 1 4
    (instant [] (ran (1 ∷ []) 1 1 1 true 2) (1 ∷ 9 ∷ 9 ∷ 9 ∷ []) (room (3 ∷ 0 ∷ 0 ∷ 0 ∷ 0 ∷ []))
    ∷ [])
    -- K6: When(1, Atom 1, Atom 2)
    ∷ accepted (table choice (event 1) 2) 0 1 2
    (instant [] (waiting 0 1 (ran [] 0 no_event 0 false 2)) row9 (room (2 ∷ 0 ∷ 0 ∷ []))
    ∷ instant [] (ran [] 0 no_event 1 true 1) (2 ∷ 9 ∷ 9 ∷ 9 ∷ []) (room (3 ∷ 0 ∷ 0 ∷ []))
    ∷ [])
    -- K7: Until(not 0, Stop, Atom 5)
    ∷ accepted (table (until 0 stop (atom 5)) (no (event 0)) 1) 0 1 3
    (instant (0 ∷ []) (ran (0 ∷ []) 1 0 0 false 1) row9 (room (0 ∷ 3 ∷ 0 ∷ []))
    ∷ instant [] (ran [] 0 no_event 0 true 1) row9 (room (3 ∷ 0 ∷ 0 ∷ []))
    ∷ [])
    ∷ accepted (table (until 0 stop (atom 5)) (no (event 0)) 1) 0 1 3
    (instant [] (waiting 0 0 (ran [] 0 no_event 0 false 2)) row9 (room (2 ∷ 0 ∷ 0 ∷ []))
    ∷ instant [] (ran [] 0 no_event 1 true 1) (5 ∷ 9 ∷ 9 ∷ 9 ∷ []) (room (3 ∷ 0 ∷ 0 ∷ []))
    ∷ [])
    -- K8: Loop(Await 0)
    ∷ refused (table (loop (await 0)) (event 0) 1) (EndlessLoop 0) 7 0
    -- Loop(Seq(Await 0, Stop)): once its body has ended it begins again in the same instant
    ∷ accepted (table (loop (seq (await 0) stop)) (event 0) 1) 0 0 7
    (instant [] (waiting 2 0 (ran [] 0 no_event 0 false 2)) row9 (room (1 ∷ 0 ∷ 0 ∷ 0 ∷ []))
    ∷ instant (0 ∷ []) (ran (0 ∷ []) 1 0 0 false 1) row9 (room (1 ∷ 2 ∷ 0 ∷ 3 ∷ []))
    ∷ instant (0 ∷ []) (ran (0 ∷ []) 1 0 0 false 1) row9 (room (1 ∷ 2 ∷ 0 ∷ 3 ∷ []))
    ∷ instant [] (waiting 2 0 (ran [] 0 no_event 0 false 2)) row9 (room (1 ∷ 0 ∷ 0 ∷ 0 ∷ []))
    ∷ [])
    -- K9: Local(0, Par(Await 0, Generate 0))
    ∷ accepted (table (local 0 (par (await 0) (generate 0))) (event 0) 1) 1 0 4
    (instant [] (ran [] 0 no_event 0 true 2) row9 (room (3 ∷ 0 ∷ 0 ∷ 0 ∷ []))
    ∷ [])
    -- K10: Repeat(3, Atom 4); Repeat(0, Atom 4)
    ∷ accepted (table (repeat 3 (atom 4)) [] 1) 0 3 4
    (instant [] (ran [] 0 no_event 3 true 1) (4 ∷ 4 ∷ 4 ∷ 9 ∷ []) (room (3 ∷ 0 ∷ []))
    ∷ [])
    ∷ accepted (table (repeat 0 (atom 4)) [] 1) 0 0 1
    (instant [] (ran [] 0 no_event 0 true 1) row9 (room (3 ∷ 0 ∷ []))
    ∷ [])
    -- K11: Control(0, Generate 1)
    ∷ accepted (table (control 0 (generate 1)) [] 2) 1 0 2
    (instant [] (waiting 0 0 (ran [] 0 no_event 0 false 2)) row9 (room (0 ∷ 0 ∷ []))
    ∷ instant (0 ∷ []) (ran (0 ∷ 1 ∷ []) 2 0 0 true 1) row9 (room (3 ∷ 0 ∷ []))
    ∷ [])
    -- K12: Repeat(4094, Generate 0), and 4095; Repeat(4096, Atom 0), and 4097
    ∷ accepted (table (repeat 4094 (generate 0)) [] 1) 4094 0 4095 []
    ∷ refused (table (repeat 4095 (generate 0)) [] 1) TooHeavy 8 0
    ∷ accepted (table (repeat 4096 (atom 0)) [] 1) 0 4096 4097 []
    ∷ refused (table (repeat 4097 (atom 0)) [] 1) TooHeavy 8 0
    ∷ []

-- More of the forms
abbrev pub more_of_the_forms : List Entry
more_of_the_forms =
    -- Seq(Stop, Atom 1): it goes on in its second in the instant in which its first ends
    accepted (table (seq stop (atom 1)) [] 1) 0 1 3
    (instant [] (ran [] 0 no_event 0 false 1) row9 (room (0 ∷ 3 ∷ 0 ∷ []))
    ∷ instant [] (ran [] 0 no_event 1 true 1) (1 ∷ 9 ∷ 9 ∷ 9 ∷ []) (room (3 ∷ 0 ∷ 0 ∷ []))
    ∷ [])
    -- Seq(Atom 1, Stop)
    ∷ accepted (table (seq (atom 1) stop) [] 1) 0 1 3
    (instant [] (ran [] 0 no_event 1 false 1) (1 ∷ 9 ∷ 9 ∷ 9 ∷ []) (room (2 ∷ 0 ∷ 3 ∷ []))
    ∷ instant [] (ran [] 0 no_event 0 true 1) row9 (room (3 ∷ 0 ∷ 0 ∷ []))
    ∷ [])
    -- Par(Stop, Stop); Par(Stop, Nothing); Par(Nothing, Stop): a branch that has ended has the flag TERM, 2 for the first, 8 for the second
    ∷ accepted (table (par stop stop) [] 1) 0 0 3
    (instant [] (ran [] 0 no_event 0 false 1) row9 (room (0 ∷ 3 ∷ 3 ∷ []))
    ∷ instant [] (ran [] 0 no_event 0 true 1) row9 (room (3 ∷ 0 ∷ 0 ∷ []))
    ∷ [])
    ∷ accepted (table (par stop nothing) [] 1) 0 0 3
    (instant [] (ran [] 0 no_event 0 false 1) row9 (own 0 8 0 ++ room (3 ∷ 3 ∷ []))
    ∷ instant [] (ran [] 0 no_event 0 true 1) row9 (room (3 ∷ 0 ∷ 0 ∷ []))
    ∷ [])
    ∷ accepted (table (par nothing stop) [] 1) 0 0 3
    (instant [] (ran [] 0 no_event 0 false 1) row9 (own 0 2 0 ++ room (3 ∷ 3 ∷ []))
    ∷ instant [] (ran [] 0 no_event 0 true 1) row9 (room (3 ∷ 0 ∷ 0 ∷ []))
    ∷ [])
    -- Par(Await 0, Await 1)
    ∷ accepted (table (par (await 0) (await 1)) (event 0 ++ event 1) 2) 0 0 3
    (instant [] (waiting 1 0 (ran [] 0 no_event 0 false 2)) row9 (room (0 ∷ 0 ∷ 0 ∷ []))
    ∷ instant (0 ∷ []) (waiting 2 1 (ran (0 ∷ []) 1 0 0 false 2)) row9 (own 0 2 0 ++ room (3 ∷ 0 ∷ []))
    ∷ instant (0 ∷ []) (waiting 2 1 (ran (0 ∷ []) 1 0 0 false 2)) row9 (own 0 2 0 ++ room (3 ∷ 0 ∷ []))
    ∷ instant (1 ∷ []) (ran (1 ∷ []) 1 1 0 true 1) row9 (room (3 ∷ 0 ∷ 0 ∷ []))
    ∷ [])
    -- and its second branch first
    ∷ accepted (table (par (await 0) (await 1)) (event 0 ++ event 1) 2) 0 0 3
    (instant (1 ∷ []) (waiting 1 0 (ran (1 ∷ []) 1 1 0 false 2)) row9 (own 0 8 0 ++ room (0 ∷ 3 ∷ []))
    ∷ instant (0 ∷ 1 ∷ []) (ran (0 ∷ 1 ∷ []) 2 0 0 true 1) row9 (room (3 ∷ 0 ∷ 0 ∷ []))
    ∷ [])
    -- Par(Seq(Stop, Atom 1), Await 0), and exchanged: a branch that stopped isn't run again in that instant
    ∷ accepted (table (par (seq stop (atom 1)) (await 0)) (event 0) 1) 0 1 5
    (instant [] (waiting 4 0 (ran [] 0 no_event 0 false 2)) row9 (room (0 ∷ 0 ∷ 3 ∷ 0 ∷ 0 ∷ []))
    ∷ instant (0 ∷ []) (ran (0 ∷ []) 1 0 1 true 1) (1 ∷ 9 ∷ 9 ∷ 9 ∷ []) (room (3 ∷ 0 ∷ 0 ∷ 0 ∷ 0 ∷ []))
    ∷ [])
    ∷ accepted (table (par (await 0) (seq stop (atom 1))) (event 0) 1) 0 1 5
    (instant [] (waiting 1 0 (ran [] 0 no_event 0 false 2)) row9 (room (0 ∷ 0 ∷ 0 ∷ 3 ∷ 0 ∷ []))
    ∷ instant (0 ∷ []) (ran (0 ∷ []) 1 0 1 true 1) (1 ∷ 9 ∷ 9 ∷ 9 ∷ []) (room (3 ∷ 0 ∷ 0 ∷ 0 ∷ 0 ∷ []))
    ∷ [])
    -- Par(Atom 1, Atom 2): the first branch first
    ∷ accepted (table (par (atom 1) (atom 2)) [] 1) 0 2 3
    (instant [] (ran [] 0 no_event 2 true 1) (1 ∷ 2 ∷ 9 ∷ 9 ∷ []) (room (3 ∷ 0 ∷ 0 ∷ []))
    ∷ [])
    -- Par(Seq(Await 1, Atom 5), Generate 1), and exchanged: the order of the branches costs a pass, and nothing else (L6)
    ∷ accepted (table (par (seq (await 0) (atom 5)) (generate 1)) (event 1) 2) 1 1 5
    (instant [] (ran (1 ∷ []) 1 1 1 true 2) (5 ∷ 9 ∷ 9 ∷ 9 ∷ []) (room (3 ∷ 0 ∷ 0 ∷ 0 ∷ 0 ∷ []))
    ∷ [])
    ∷ accepted (table (par (generate 1) (seq (await 0) (atom 5))) (event 1) 2) 1 1 5
    (instant [] (ran (1 ∷ []) 1 1 1 true 1) (5 ∷ 9 ∷ 9 ∷ 9 ∷ []) (room (3 ∷ 0 ∷ 0 ∷ 0 ∷ 0 ∷ []))
    ∷ [])
    -- Par(Await 1, Generate 0) with event 0 there already: generating it is a move all the same
    ∷ accepted (table (par (await 0) (generate 0)) (event 1) 2) 1 0 3
    (instant (0 ∷ []) (waiting 1 1 (ran (0 ∷ []) 1 0 0 false 3)) row9 (own 0 8 0 ++ room (0 ∷ 3 ∷ []))
    ∷ [])
    -- Loop(Seq(Atom 1, Stop)): A and W count the body twice
    ∷ accepted (table (loop (seq (atom 1) stop)) [] 1) 0 2 7
    (instant [] (ran [] 0 no_event 1 false 1) (1 ∷ 9 ∷ 9 ∷ 9 ∷ []) (room (1 ∷ 2 ∷ 0 ∷ 3 ∷ []))
    ∷ instant [] (ran [] 0 no_event 1 false 1) (1 ∷ 9 ∷ 9 ∷ 9 ∷ []) (room (1 ∷ 2 ∷ 0 ∷ 3 ∷ []))
    ∷ [])
    -- Repeat(3, Stop): W counts a body that stops at most twice; the count says how many runs are still to begin
    ∷ accepted (table (repeat 3 stop) [] 1) 0 0 3
    (instant [] (ran [] 0 no_event 0 false 1) row9 (own 1 0 2 ++ room (3 ∷ []))
    ∷ instant [] (ran [] 0 no_event 0 false 1) row9 (own 1 0 1 ++ room (3 ∷ []))
    ∷ instant [] (ran [] 0 no_event 0 false 1) row9 (own 1 0 0 ++ room (3 ∷ []))
    ∷ instant [] (ran [] 0 no_event 0 true 1) row9 (room (3 ∷ 0 ∷ []))
    ∷ [])
    -- Repeat(1, Stop)
    ∷ accepted (table (repeat 1 stop) [] 1) 0 0 2
    (instant [] (ran [] 0 no_event 0 false 1) row9 (own 1 0 0 ++ room (3 ∷ []))
    ∷ instant [] (ran [] 0 no_event 0 true 1) row9 (room (3 ∷ 0 ∷ []))
    ∷ [])
    -- Repeat(600, Stop): 599 is 2, 87
    ∷ accepted (table (repeat 600 stop) [] 1) 0 0 3
    (instant [] (ran [] 0 no_event 0 false 1) row9 (1 ∷ 0 ∷ 2 ∷ 87 ∷ room (3 ∷ []))
    ∷ [])
    -- Repeat(2, Await 0)
    ∷ accepted (table (repeat 2 (await 0)) (event 0) 1) 0 0 3
    (instant [] (waiting 1 0 (ran [] 0 no_event 0 false 2)) row9 (own 1 0 1 ++ room (0 ∷ []))
    ∷ instant (0 ∷ []) (ran (0 ∷ []) 1 0 0 true 1) row9 (room (3 ∷ 0 ∷ []))
    ∷ [])
    -- When(not 0, Atom 1, Atom 2): late then, early else
    ∷ accepted (table (when 0 (atom 1) (atom 2)) (no (event 0)) 1) 0 1 2
    (instant [] (waiting 0 0 (ran [] 0 no_event 0 false 2)) row9 (room (1 ∷ 0 ∷ 0 ∷ []))
    ∷ instant (0 ∷ []) (ran (0 ∷ []) 1 0 1 true 1) (1 ∷ 9 ∷ 9 ∷ 9 ∷ []) (room (3 ∷ 0 ∷ 0 ∷ []))
    ∷ [])
    ∷ accepted (table (when 0 (atom 1) (atom 2)) (no (event 0)) 1) 0 1 2
    (instant (0 ∷ []) (ran (0 ∷ []) 1 0 1 true 1) (2 ∷ 9 ∷ 9 ∷ 9 ∷ []) (room (3 ∷ 0 ∷ 0 ∷ []))
    ∷ [])
    -- When(0, Seq(Stop, Atom 1), Seq(Stop, Atom 2)): the test is read once
    ∷ accepted (table (when 0 (seq stop (atom 1)) (seq stop (atom 2))) (event 0) 1) 0 1 4
    (instant (0 ∷ []) (ran (0 ∷ []) 1 0 0 false 1) row9 (room (1 ∷ 0 ∷ 3 ∷ 0 ∷ 0 ∷ 0 ∷ 0 ∷ []))
    ∷ instant [] (ran [] 0 no_event 1 true 1) (1 ∷ 9 ∷ 9 ∷ 9 ∷ []) (room (3 ∷ 0 ∷ 0 ∷ 0 ∷ 0 ∷ 0 ∷ 0 ∷ []))
    ∷ [])
    ∷ accepted (table (when 0 (seq stop (atom 1)) (seq stop (atom 2))) (event 0) 1) 0 1 4
    (instant [] (waiting 0 0 (ran [] 0 no_event 0 false 2)) row9 (room (2 ∷ 0 ∷ 0 ∷ 0 ∷ 0 ∷ 0 ∷ 0 ∷ []))
    ∷ instant (0 ∷ []) (ran (0 ∷ []) 1 0 0 false 1) row9 (room (2 ∷ 0 ∷ 0 ∷ 0 ∷ 0 ∷ 3 ∷ 0 ∷ []))
    ∷ instant (0 ∷ []) (ran (0 ∷ []) 1 0 1 true 1) (2 ∷ 9 ∷ 9 ∷ 9 ∷ []) (room (3 ∷ 0 ∷ 0 ∷ 0 ∷ 0 ∷ 0 ∷ 0 ∷ []))
    ∷ [])
    -- Until(0, Stop, Atom 5): early handler; none, and then the body ends
    ∷ accepted (table (until 0 stop (atom 5)) (event 0) 1) 0 1 3
    (instant (0 ∷ []) (ran (0 ∷ []) 1 0 1 true 1) (5 ∷ 9 ∷ 9 ∷ 9 ∷ []) (room (3 ∷ 0 ∷ 0 ∷ []))
    ∷ [])
    ∷ accepted (table (until 0 stop (atom 5)) (event 0) 1) 0 1 3
    (instant [] (waiting 0 0 (ran [] 0 no_event 0 false 2)) row9 (room (0 ∷ 3 ∷ 0 ∷ []))
    ∷ instant (0 ∷ []) (ran (0 ∷ []) 1 0 0 true 1) row9 (room (3 ∷ 0 ∷ 0 ∷ []))
    ∷ [])
    -- Until(0, Await 1, Seq(Stop, Atom 5)): the test is read once the body has stopped; late handler
    ∷ accepted (table (until 0 (await 1) (seq stop (atom 5))) (event 0 ++ event 1) 2) 0 1 5
    (instant [] (waiting 1 1 (ran [] 0 no_event 0 false 2)) row9 (room (0 ∷ 0 ∷ 0 ∷ 0 ∷ 0 ∷ []))
    ∷ instant (0 ∷ []) (waiting 1 1 (ran (0 ∷ []) 1 0 0 false 2)) row9 (room (2 ∷ 0 ∷ 0 ∷ 0 ∷ 0 ∷ []))
    ∷ instant [] (ran [] 0 no_event 0 false 1) row9 (room (2 ∷ 0 ∷ 0 ∷ 3 ∷ 0 ∷ []))
    ∷ instant [] (ran [] 0 no_event 1 true 1) (5 ∷ 9 ∷ 9 ∷ 9 ∷ []) (room (3 ∷ 0 ∷ 0 ∷ 0 ∷ 0 ∷ []))
    ∷ [])
    -- and its body ends
    ∷ accepted (table (until 0 (await 1) (seq stop (atom 5))) (event 0 ++ event 1) 2) 0 1 5
    (instant (0 ∷ 1 ∷ []) (ran (0 ∷ 1 ∷ []) 2 0 0 true 1) row9 (room (3 ∷ 0 ∷ 0 ∷ 0 ∷ 0 ∷ []))
    ∷ [])
    -- Par(Until(1, Seq(Stop, Atom 9), Atom 5), Generate 1): the body that stopped isn't run again in that instant
    ∷ accepted (table (par (until 0 (seq stop (atom 9)) (atom 5)) (generate 1)) (event 1) 2) 1 2 7
    (instant [] (ran (1 ∷ []) 1 1 1 true 2) (5 ∷ 9 ∷ 9 ∷ 9 ∷ []) (room (3 ∷ 0 ∷ 0 ∷ 0 ∷ 0 ∷ 0 ∷ 0 ∷ []))
    ∷ [])
    -- Control(0, Seq(Stop, Atom 3)): without its event the body stands still
    ∷ accepted (table (control 0 (seq stop (atom 3))) [] 1) 0 1 4
    (instant (0 ∷ []) (ran (0 ∷ []) 1 0 0 false 1) row9 (room (0 ∷ 0 ∷ 3 ∷ 0 ∷ []))
    ∷ instant [] (waiting 0 0 (ran [] 0 no_event 0 false 2)) row9 (room (0 ∷ 0 ∷ 3 ∷ 0 ∷ []))
    ∷ instant (0 ∷ []) (ran (0 ∷ []) 1 0 1 true 1) (3 ∷ 9 ∷ 9 ∷ 9 ∷ []) (room (3 ∷ 0 ∷ 0 ∷ 0 ∷ []))
    ∷ [])
    -- Par(Control(0, Atom 3), Generate 0)
    ∷ accepted (table (par (control 0 (atom 3)) (generate 0)) [] 1) 1 1 4
    (instant [] (ran (0 ∷ []) 1 0 1 true 2) (3 ∷ 9 ∷ 9 ∷ 9 ∷ []) (room (3 ∷ 0 ∷ 0 ∷ 0 ∷ []))
    ∷ [])
    -- Local(0, Generate 0): its event stays in, the one outside stays as it is
    ∷ accepted (table (local 0 (generate 0)) [] 1) 1 0 2
    (instant [] (ran [] 0 no_event 0 true 1) row9 (room (3 ∷ 0 ∷ []))
    ∷ [])
    ∷ accepted (table (local 0 (generate 0)) [] 1) 1 0 2
    (instant (0 ∷ []) (ran (0 ∷ []) 1 0 0 true 1) row9 (room (3 ∷ 0 ∷ []))
    ∷ [])
    -- Local(0, Await 0): the event outside is another
    ∷ accepted (table (local 0 (await 0)) (event 0) 1) 0 0 2
    (instant (0 ∷ []) (waiting 1 0 (ran (0 ∷ []) 1 0 0 false 2)) row9 (room (0 ∷ 0 ∷ []))
    ∷ [])
    -- Local(0, Par(Par(Await 0, Generate 0), Await 1)): present in every later pass of the instant, gone at rest
    ∷ accepted (table (local 0 (par (par (await 0) (generate 0)) (await 1))) (event 0 ++ event 1) 2) 1 0 6
    (instant [] (waiting 5 1 (ran [] 0 no_event 0 false 3)) row9 (own 0 0 0 ++ (own 0 2 0 ++ room (3 ∷ 0 ∷ 0 ∷ 0 ∷ [])))
    ∷ instant (1 ∷ []) (ran (1 ∷ []) 1 1 0 true 1) row9 (room (3 ∷ 0 ∷ 0 ∷ 0 ∷ 0 ∷ 0 ∷ []))
    ∷ [])
    -- Local(0, Seq(Generate 0, Seq(Stop, When(0, Atom 1, Atom 2)))): and in the next instant it is absent
    ∷ accepted (table (local 0 (seq (generate 0) (seq stop (when 0 (atom 1) (atom 2))))) (event 0) 1) 1 1 7
    (instant [] (ran [] 0 no_event 0 false 1) row9 (room (0 ∷ 2 ∷ 0 ∷ 0 ∷ 3 ∷ 0 ∷ 0 ∷ 0 ∷ []))
    ∷ instant [] (waiting 5 0 (ran [] 0 no_event 0 false 2)) row9 (room (0 ∷ 2 ∷ 0 ∷ 2 ∷ 0 ∷ 2 ∷ 0 ∷ 0 ∷ []))
    ∷ instant [] (ran [] 0 no_event 1 true 1) (2 ∷ 9 ∷ 9 ∷ 9 ∷ []) (room (3 ∷ 0 ∷ 0 ∷ 0 ∷ 0 ∷ 0 ∷ 0 ∷ 0 ∷ []))
    ∷ [])
    -- Local(0, Seq(Generate 1, Stop)): other events go out
    ∷ accepted (table (local 0 (seq (generate 1) stop)) [] 2) 1 0 4
    (instant [] (ran (1 ∷ []) 1 1 0 false 1) row9 (room (0 ∷ 2 ∷ 0 ∷ 3 ∷ []))
    ∷ [])
    -- Generate of the last event: an event of each word
    ∷ accepted (table (generate (places - 1)) [] places) 1 0 1
    (instant (63 ∷ 64 ∷ 191 ∷ []) (ran (63 ∷ 64 ∷ 191 ∷ (places - 1) ∷ []) 4 63 0 true 1) row9 (room (3 ∷ []))
    ∷ [])
    ∷ []

-- Loops (L5): a body that ends begins again in that pass, and doesn't end in it: rules 4 and 12, never 13
abbrev pub loops : List Entry
loops =
    -- Loop(Stop)
    accepted (table (loop stop) [] 1) 0 0 3
    (instant [] (ran [] 0 no_event 0 false 1) row9 (room (1 ∷ 3 ∷ []))
    ∷ instant [] (ran [] 0 no_event 0 false 1) row9 (room (1 ∷ 3 ∷ []))
    ∷ [])
    -- Loop(Par(Atom 1, Stop)): A is 2
    ∷ accepted (table (loop (par (atom 1) stop)) [] 1) 0 2 7
    (instant [] (ran [] 0 no_event 1 false 1) (1 ∷ 9 ∷ 9 ∷ 9 ∷ []) (own 1 0 0 ++ (own 0 2 0 ++ room (3 ∷ 3 ∷ [])))
    ∷ instant [] (ran [] 0 no_event 1 false 1) (1 ∷ 9 ∷ 9 ∷ 9 ∷ []) (own 1 0 0 ++ (own 0 2 0 ++ room (3 ∷ 3 ∷ [])))
    ∷ [])
    -- Loop(Loop(Stop)): the inner Loop never ends, so the outer one never begins again
    ∷ accepted (table (loop (loop stop)) [] 1) 0 0 7
    (instant [] (ran [] 0 no_event 0 false 1) row9 (room (1 ∷ 1 ∷ 3 ∷ []))
    ∷ instant [] (ran [] 0 no_event 0 false 1) row9 (room (1 ∷ 1 ∷ 3 ∷ []))
    ∷ [])
    -- Loop(Seq(Await 0, Stop)): in the last instant the fresh body waits
    ∷ accepted (table (loop (seq (await 0) stop)) (event 0) 1) 0 0 7
    (instant (0 ∷ []) (ran (0 ∷ []) 1 0 0 false 1) row9 (room (1 ∷ 2 ∷ 0 ∷ 3 ∷ []))
    ∷ instant (0 ∷ []) (ran (0 ∷ []) 1 0 0 false 1) row9 (room (1 ∷ 2 ∷ 0 ∷ 3 ∷ []))
    ∷ instant [] (waiting 2 0 (ran [] 0 no_event 0 false 2)) row9 (room (1 ∷ 0 ∷ 0 ∷ 0 ∷ []))
    ∷ [])
    -- Loop(Repeat(2, Stop)): the Loop begins the Repeat again with count 1
    ∷ accepted (table (loop (repeat 2 stop)) [] 1) 0 0 7
    (instant [] (ran [] 0 no_event 0 false 1) row9 (own 1 0 0 ++ (own 1 0 1 ++ room (3 ∷ [])))
    ∷ instant [] (ran [] 0 no_event 0 false 1) row9 (room (1 ∷ 1 ∷ 3 ∷ []))
    ∷ instant [] (ran [] 0 no_event 0 false 1) row9 (own 1 0 0 ++ (own 1 0 1 ++ room (3 ∷ [])))
    ∷ [])
    ∷ []

-- Instants from rooms that no run leaves so
abbrev pub resumed_rooms : List Entry
resumed_rooms =
    -- Loop(Par(Atom 1, Stop)), begun, its Atom fresh and its Stop ended: the rest does its atom and ends, the fresh body does one more, as many as A
    resumed (table (loop (par (atom 1) stop)) [] 1) (room (1 ∷ 0 ∷ 0 ∷ 3 ∷ []))
    (instant_in [] (9 ∷ 9 ∷ []) (ran [] 0 no_event 2 false 1) (1 ∷ 1 ∷ []) (own 1 0 0 ++ (own 0 2 0 ++ room (3 ∷ 3 ∷ [])))
    ∷ [])
    ∷ []

-- Tests, read by an Await
abbrev pub tests : List Entry
tests =
    -- not 0: early unsat, late sat
    accepted (table (await 0) (no (event 0)) 1) 0 0 1
    (instant (0 ∷ []) (ran (0 ∷ []) 1 0 0 false 1) row9 (room (0 ∷ []))
    ∷ instant [] (waiting 0 0 (ran [] 0 no_event 0 false 2)) row9 (room (3 ∷ []))
    ∷ instant (0 ∷ []) (ran (0 ∷ []) 1 0 0 true 1) row9 (room (3 ∷ []))
    ∷ [])
    -- 0 and 1
    ∷ accepted (table (await 0) (both (event 0) (event 1)) 2) 0 0 1
    (instant [] (waiting 0 0 (ran [] 0 no_event 0 false 2)) row9 (room (0 ∷ []))
    ∷ instant (0 ∷ []) (waiting 0 1 (ran (0 ∷ []) 1 0 0 false 2)) row9 (room (0 ∷ []))
    ∷ instant (1 ∷ []) (waiting 0 0 (ran (1 ∷ []) 1 1 0 false 2)) row9 (room (0 ∷ []))
    ∷ instant (0 ∷ 1 ∷ []) (ran (0 ∷ 1 ∷ []) 2 0 0 true 1) row9 (room (3 ∷ []))
    ∷ [])
    -- (not 0) and 1: early unsat by its first part
    ∷ accepted (table (await 0) (both (no (event 0)) (event 1)) 2) 0 0 1
    (instant (0 ∷ []) (ran (0 ∷ []) 1 0 0 false 1) row9 (room (0 ∷ []))
    ∷ instant [] (waiting 0 0 (ran [] 0 no_event 0 false 2)) row9 (room (0 ∷ []))
    ∷ instant (1 ∷ []) (waiting 0 0 (ran (1 ∷ []) 1 1 0 false 2)) row9 (room (3 ∷ []))
    ∷ [])
    -- 1 and (not 0): by its second
    ∷ accepted (table (await 0) (both (event 1) (no (event 0))) 2) 0 0 1
    (instant (0 ∷ []) (ran (0 ∷ []) 1 0 0 false 1) row9 (room (0 ∷ []))
    ∷ instant (0 ∷ 1 ∷ []) (ran (0 ∷ 1 ∷ []) 2 0 0 false 1) row9 (room (0 ∷ []))
    ∷ instant (1 ∷ []) (waiting 0 0 (ran (1 ∷ []) 1 1 0 false 2)) row9 (room (3 ∷ []))
    ∷ [])
    -- 0 or 1: early sat by its first part, by its second
    ∷ accepted (table (await 0) (either (event 0) (event 1)) 2) 0 0 1
    (instant [] (waiting 0 0 (ran [] 0 no_event 0 false 2)) row9 (room (0 ∷ []))
    ∷ instant (0 ∷ []) (ran (0 ∷ []) 1 0 0 true 1) row9 (room (3 ∷ []))
    ∷ [])
    ∷ accepted (table (await 0) (either (event 0) (event 1)) 2) 0 0 1
    (instant (1 ∷ []) (ran (1 ∷ []) 1 1 0 true 1) row9 (room (3 ∷ []))
    ∷ [])
    -- (not 0) or (not 1): early unsat by both, late sat
    ∷ accepted (table (await 0) (either (no (event 0)) (no (event 1))) 2) 0 0 1
    (instant (0 ∷ 1 ∷ []) (ran (0 ∷ 1 ∷ []) 2 0 0 false 1) row9 (room (0 ∷ []))
    ∷ instant (0 ∷ []) (waiting 0 1 (ran (0 ∷ []) 1 0 0 false 2)) row9 (room (3 ∷ []))
    ∷ [])
    -- a test that is a part of another configuration
    ∷ accepted (table (await 1) (no (event 0)) 1) 0 0 1 (instant (0 ∷ []) (ran (0 ∷ []) 1 0 0 true 1) row9 (room (3 ∷ [])) ∷ [])
    -- Par(Await 0, Seq(Await 0, Await 1)), two nodes with one configuration
    ∷ accepted (table (par (await 0) (seq (await 0) (await 1))) (event 0 ++ event 1) 2) 0 0 5
    (instant (0 ∷ 1 ∷ []) (ran (0 ∷ 1 ∷ []) 2 0 0 true 1) row9 (room (3 ∷ 0 ∷ 0 ∷ 0 ∷ 0 ∷ []))
    ∷ [])
    -- fifteen nots of 0, a height of 16 (L4), are a not
    ∷ accepted (table (await 0) (nots15 (event 0)) 1) 0 0 1
    (instant (0 ∷ []) (ran (0 ∷ []) 1 0 0 false 1) row9 (room (0 ∷ []))
    ∷ instant [] (waiting 0 0 (ran [] 0 no_event 0 false 2)) row9 (room (3 ∷ []))
    ∷ [])
    -- (0 and 1) or (not (2 or 3)): early sat by its left part; with 2 its right part is false and its left unknown; with none true at the end only
    ∷ accepted (table (await 0) (either (both (event 0) (event 1)) (no (either (event 2) (event 3)))) 4) 0 0 1
    (instant (0 ∷ 1 ∷ []) (ran (0 ∷ 1 ∷ []) 2 0 0 true 1) row9 (room (3 ∷ []))
    ∷ [])
    ∷ accepted (table (await 0) (either (both (event 0) (event 1)) (no (either (event 2) (event 3)))) 4) 0 0 1
    (instant (2 ∷ []) (waiting 0 0 (ran (2 ∷ []) 1 2 0 false 2)) row9 (room (0 ∷ []))
    ∷ instant [] (waiting 0 0 (ran [] 0 no_event 0 false 2)) row9 (room (3 ∷ []))
    ∷ [])
    -- 0 and (not 0): with 0 one part is false
    ∷ accepted (table (await 0) (both (event 0) (no (event 0))) 1) 0 0 1
    (instant (0 ∷ []) (ran (0 ∷ []) 1 0 0 false 1) row9 (room (0 ∷ []))
    ∷ instant [] (waiting 0 0 (ran [] 0 no_event 0 false 2)) row9 (room (0 ∷ []))
    ∷ [])
    -- 0 or (not 0): before the end nothing about an absent 0 is known
    ∷ accepted (table (await 0) (either (event 0) (no (event 0))) 1) 0 0 1
    (instant (0 ∷ []) (ran (0 ∷ []) 1 0 0 true 1) row9 (room (3 ∷ []))
    ∷ [])
    ∷ accepted (table (await 0) (either (event 0) (no (event 0))) 1) 0 0 1
    (instant [] (waiting 0 0 (ran [] 0 no_event 0 false 2)) row9 (room (3 ∷ []))
    ∷ [])
    -- Seq(Await(not 0), Await 0), the second test in the middle of the first
    ∷ accepted (table (seq (await 0) (await 1)) (no (event 0)) 1) 0 0 3
    (instant (0 ∷ []) (ran (0 ∷ []) 1 0 0 false 1) row9 (room (0 ∷ 0 ∷ 0 ∷ []))
    ∷ instant [] (waiting 1 0 (ran [] 0 no_event 0 false 2)) row9 (room (0 ∷ 3 ∷ 0 ∷ []))
    ∷ instant (0 ∷ []) (ran (0 ∷ []) 1 0 0 true 1) row9 (room (3 ∷ 0 ∷ 0 ∷ []))
    ∷ [])
    ∷ []

-- Loading figures
abbrev pub figures : List Entry
figures =
    -- When(0, Seq(Generate 0, Atom 1), Atom 2) counts the larger, Until(0, Atom 1, Seq(Generate 0, Atom 2)) both
    accepted (table (when 0 (seq (generate 0) (atom 1)) (atom 2)) (event 0) 1) 1 1 4 []
    ∷ accepted (table (until 0 (atom 1) (seq (generate 0) (atom 2))) (event 0) 1) 1 2 5 []
    -- Repeat(0, Repeat(65535, Nothing)): a body that is never begun weighs nothing, but has to be good
    ∷ accepted (table (repeat 0 (repeat 65535 nothing)) [] 1) 0 0 1 []
    ∷ refused (table (repeat 0 (loop nothing)) [] 1) (EndlessLoop 1) 7 1
    -- Repeat(65534, Nothing), and 65535
    ∷ accepted (table (repeat 65534 nothing) [] 1) 0 0 65535 []
    ∷ refused (table (repeat 65535 nothing) [] 1) TooHeavy 8 0
    ∷ []

-- What stops by when its test can be decided early (L2)
abbrev pub harmless_loops : List Entry
harmless_loops =
    -- Loop(When(0, Stop, Nothing)): 0 can be true early only, so the else branch needn't stop; with 0 absent, present, absent
    accepted (table (loop (when 0 stop nothing)) (event 0) 1) 0 0 5
    (instant [] (waiting 1 0 (ran [] 0 no_event 0 false 2)) row9 (room (1 ∷ 2 ∷ 0 ∷ 0 ∷ []))
    ∷ instant (0 ∷ []) (ran (0 ∷ []) 1 0 0 false 1) row9 (room (1 ∷ 1 ∷ 3 ∷ 0 ∷ []))
    ∷ instant [] (waiting 1 0 (ran [] 0 no_event 0 false 2)) row9 (room (1 ∷ 2 ∷ 0 ∷ 0 ∷ []))
    ∷ [])
    -- Loop(When(not 0, Nothing, Stop)): early false only; Loop(When(not 0, Stop, Nothing)): its else branch doesn't stop
    ∷ accepted (table (loop (when 0 nothing stop)) (no (event 0)) 1) 0 0 5
    (instant [] (waiting 1 0 (ran [] 0 no_event 0 false 2)) row9 (room (1 ∷ 1 ∷ 0 ∷ 0 ∷ []))
    ∷ instant (0 ∷ []) (ran (0 ∷ []) 1 0 0 false 1) row9 (room (1 ∷ 2 ∷ 0 ∷ 3 ∷ []))
    ∷ [])
    ∷ refused (table (loop (when 0 stop nothing)) (no (event 0)) 1) (EndlessLoop 0) 7 0
    -- Loop(Await(not 0)), which can't be true early; Loop(Await(not not 0)) can, as Loop(Await 0) can, K8
    ∷ accepted (table (loop (await 0)) (no (event 0)) 1) 0 0 3
    (instant [] (waiting 1 0 (ran [] 0 no_event 0 false 2)) row9 (room (1 ∷ 3 ∷ []))
    ∷ instant (0 ∷ []) (ran (0 ∷ []) 1 0 0 false 1) row9 (room (1 ∷ 0 ∷ []))
    ∷ [])
    ∷ refused (table (loop (await 0)) (no (no (event 0))) 1) (EndlessLoop 0) 7 0
    -- the part of another configuration, by itself: Loop(Await 0) beside not 0
    ∷ refused (table (loop (await 1)) (no (event 0)) 1) (EndlessLoop 0) 7 0
    -- Loop(Until(not 0, Stop, Nothing)): the handler can't come early; Loop(Until(0, Stop, Nothing)): it can; Loop(Until(not 0, Nothing, Stop)): the body
    ∷ accepted (table (loop (until 0 stop nothing)) (no (event 0)) 1) 0 0 7
    (instant [] (waiting 1 0 (ran [] 0 no_event 0 false 2)) row9 (room (1 ∷ 2 ∷ 0 ∷ 0 ∷ []))
    ∷ instant (0 ∷ []) (ran (0 ∷ []) 1 0 0 false 1) row9 (room (1 ∷ 0 ∷ 3 ∷ 0 ∷ []))
    ∷ [])
    ∷ refused (table (loop (until 0 stop nothing)) (event 0) 1) (EndlessLoop 0) 7 0
    ∷ refused (table (loop (until 0 nothing stop)) (no (event 0)) 1) (EndlessLoop 0) 7 0
    -- an and is early true if both can be: 0 and not 1, 0 and not 0; 0 and 1
    ∷ accepted (table (loop (await 0)) (both (event 0) (no (event 1))) 2) 0 0 3 []
    ∷ accepted (table (loop (await 0)) (both (event 0) (no (event 0))) 1) 0 0 3 []
    ∷ refused (table (loop (await 0)) (both (event 0) (event 1)) 2) (EndlessLoop 0) 7 0
    -- early false if either can: 0 and 1; 0 and not 1
    ∷ accepted (table (loop (when 0 stop nothing)) (both (event 0) (event 1)) 2) 0 0 5 []
    ∷ refused (table (loop (when 0 stop nothing)) (both (event 0) (no (event 1))) 2) (EndlessLoop 0) 7 0
    -- an or is early true if either can be: not 0 or not 1; 0 or not 1
    ∷ accepted (table (loop (await 0)) (either (no (event 0)) (no (event 1))) 2) 0 0 3 []
    ∷ refused (table (loop (await 0)) (either (event 0) (no (event 1))) 2) (EndlessLoop 0) 7 0
    -- early false if both can: 0 or not 1, 0 or not 0; not 0 or not 1
    ∷ accepted (table (loop (when 0 stop nothing)) (either (event 0) (no (event 1))) 2) 0 0 5 []
    ∷ accepted (table (loop (when 0 stop nothing)) (either (event 0) (no (event 0))) 1) 0 0 5 []
    ∷ refused (table (loop (when 0 stop nothing)) (either (no (event 0)) (no (event 1))) 2) (EndlessLoop 0) 7 0
    -- Repeat(9, Seq(Generate 0, Await(not 0))): the body stops, so the figures count it twice; Repeat(65535, Await(not 0)) is no longer too heavy
    ∷ accepted (table (repeat 9 (seq (generate 0) (await 0))) (no (event 0)) 1) 2 0 7 []
    ∷ accepted (table (repeat 65535 (await 0)) (no (event 0)) 1) 0 0 3 []
    ∷ refused (table (repeat 65535 (await 0)) (event 0) 1) TooHeavy 8 0
    ∷ []

-- L1: the first test in node order that was suspended in the last pass before the end, and the lowest event that it lacks
abbrev pub waiting_tests : List Entry
waiting_tests =
    -- Await(1 and 0): the lowest of two; Await((0 or 1) and 2): a part that is decided counts too
    accepted (table (await 0) (both (event 1) (event 0)) 2) 0 0 1
    (instant (0 ∷ []) (waiting 0 1 (ran (0 ∷ []) 1 0 0 false 2)) row9 (room (0 ∷ []))
    ∷ instant [] (waiting 0 0 (ran [] 0 no_event 0 false 2)) row9 (room (0 ∷ []))
    ∷ instant (1 ∷ []) (waiting 0 0 (ran (1 ∷ []) 1 1 0 false 2)) row9 (room (0 ∷ []))
    ∷ [])
    ∷ accepted (table (await 0) (both (either (event 0) (event 1)) (event 2)) 3) 0 0 1
    (instant (1 ∷ []) (waiting 0 0 (ran (1 ∷ []) 1 1 0 false 2)) row9 (room (0 ∷ []))
    ∷ [])
    -- Par(Await 1, Generate 0): the last pass before the end is the quiet second one
    ∷ accepted (table (par (await 0) (generate 0)) (event 1) 2) 1 0 3
    (instant [] (waiting 1 1 (ran (0 ∷ []) 1 0 0 false 3)) row9 (own 0 8 0 ++ room (0 ∷ 3 ∷ []))
    ∷ [])
    -- Par(When(1, Await 0, Nothing), Generate 1): the When waited in the first pass, the Await in the last
    ∷ accepted (table (par (when 0 (await 1) nothing) (generate 1)) (event 1 ++ event 0) 2) 1 0 4
    (instant [] (waiting 2 0 (ran (1 ∷ []) 1 1 0 false 3)) row9 (own 0 8 0 ++ room (1 ∷ 0 ∷ 0 ∷ 3 ∷ []))
    ∷ [])
    -- Local(0, Seq(Generate 0, Await(0 and 1))), Local(0, Await 0): a Local's event as the test sees it
    ∷ accepted (table (local 0 (seq (generate 0) (await 0))) (both (event 0) (event 1)) 2) 1 0 4
    (instant [] (waiting 3 1 (ran [] 0 no_event 0 false 3)) row9 (room (0 ∷ 2 ∷ 0 ∷ 0 ∷ []))
    ∷ [])
    ∷ accepted (table (local 0 (await 0)) (event 0) 1) 0 0 2
    (instant (0 ∷ []) (waiting 1 0 (ran (0 ∷ []) 1 0 0 false 2)) row9 (room (0 ∷ 0 ∷ []))
    ∷ [])
    -- Until(0, Stop, Atom 5): what waits is the Until, its body having stopped
    ∷ accepted (table (until 0 stop (atom 5)) (event 0) 1) 0 1 3
    (instant [] (waiting 0 0 (ran [] 0 no_event 0 false 2)) row9 (room (0 ∷ 3 ∷ 0 ∷ []))
    ∷ [])
    -- Control(2, Await 1): for its own event; with it present, its body's test
    ∷ accepted (table (control 2 (await 0)) (event 1) 3) 0 0 2
    (instant [] (waiting 0 2 (ran [] 0 no_event 0 false 2)) row9 (room (0 ∷ 0 ∷ []))
    ∷ instant (2 ∷ []) (waiting 1 1 (ran (2 ∷ []) 1 2 0 false 2)) row9 (room (0 ∷ 0 ∷ []))
    ∷ [])
    ∷ []

-- L10: events from 256 on, by the bytes of their records
abbrev pub many_events : List Entry
many_events =
    -- Await(1023), V 1,024; 768 + 255 isn't below 1,023
    accepted (table (await 0) (configuration 48 255 1) 1024) 0 0 1
    (instant [] (waiting 0 1023 (ran [] 0 1024 0 false 2)) row9 (room (0 ∷ []))
    ∷ instant (1023 ∷ []) (ran (1023 ∷ []) 1 1023 0 true 1) row9 (room (3 ∷ []))
    ∷ [])
    ∷ refused (table (await 0) (configuration 48 255 1) 1023) (BadConfiguration 0) 4 0
    -- event 256 with V 256, with V 257; event 512
    ∷ refused (table (await 0) (configuration 16 0 1) 256) (BadConfiguration 0) 4 0
    ∷ accepted (table (await 0) (configuration 16 0 1) 257) 0 0 1
    (instant (256 ∷ []) (ran (256 ∷ []) 1 256 0 true 1) row9 (room (3 ∷ []))
    ∷ [])
    ∷ accepted (table (await 0) (configuration 32 0 1) 513) 0 0 1
    (instant (256 ∷ []) (waiting 0 512 (ran (256 ∷ []) 1 256 0 false 2)) row9 (room (0 ∷ []))
    ∷ [])
    -- 17 is no not, 34 no and, 51 no or, 64 no kind
    ∷ refused (table (await 0) (configuration 17 0 2 ++ event 0) 600) (BadConfiguration 0) 4 0
    ∷ refused (table (await 0) (configuration 34 0 3 ++ (event 0 ++ event 1)) 600) (BadConfiguration 0) 4 0
    ∷ refused (table (await 0) (configuration 51 0 3 ++ (event 0 ++ event 1)) 600) (BadConfiguration 0) 4 0
    ∷ refused (table (await 0) (configuration 64 0 1) 1024) (BadConfiguration 0) 4 0
    -- Generate(1023) beside 5; Generate(256) with V 256
    ∷ accepted (table (generate 1023) [] 1024) 1 0 1
    (instant (5 ∷ []) (ran (5 ∷ 1023 ∷ []) 2 5 0 true 1) row9 (room (3 ∷ []))
    ∷ [])
    ∷ refused (table (generate 256) [] 256) (BadNode 0) 5 0
    -- V 1,025; of events 1000, 300 and 299 with V 300, 300 is the lowest that isn't listed
    ∷ refused (table stop [] 1025) BadCounts 2 0
    ∷ accepted (table stop [] 300) 0 0 1 (turned_down (set (1000 ∷ 300 ∷ 299 ∷ [])) row9 (room (0 ∷ [])) (UnlistedEvent 300) 11 300 ∷ [])
    ∷ []

-- Refusals 1 to 5 and 7 (6 is run only, 01)
abbrev pub refused_tables : List Entry
refused_tables =
    -- 1: no byte, 15 bytes, 32,779 bytes
    refused [] BadLength 1 0
    ∷ refused (nothing ++ (0 ∷ 1 ∷ 0 ∷ 0 ∷ 0 ∷ 1 ∷ 0 ∷ 6 ∷ 0 ∷ [])) BadLength 1 0
    ∷ refused (replicate 32779 0) BadLength 1 0
    -- 2: N, M, V
    ∷ refused (table [] (event 0 ++ event 0) 1) BadCounts 2 0
    ∷ refused (nothing ++ trailer 4097 0 1 6 0) BadCounts 2 0
    ∷ refused (nothing ++ trailer 1 2049 1 6 0) BadCounts 2 0
    ∷ refused (nothing ++ trailer 1 0 0 6 0) BadCounts 2 0
    ∷ refused (nothing ++ trailer 1 0 (places + 1) 6 0) BadCounts 2 0
    -- 3: the distances, the length
    ∷ refused (nothing ++ trailer 1 0 1 7 0) BadDistances 3 0
    ∷ refused (nothing ++ trailer 1 0 1 6 4) BadDistances 3 0
    ∷ refused (nothing ++ (nothing ++ trailer 1 0 1 6 0)) BadDistances 3 0
    -- 4: a kind of 4, before a bad node; an event at V; a not with an event; a size; a part that isn't there
    ∷ refused (table (node 13 0 1) (configuration 4 0 1) 1) (BadConfiguration 0) 4 0
    ∷ refused (table nothing (event 0 ++ event 1) 1) (BadConfiguration 1) 4 1
    ∷ refused (table nothing (configuration 1 1 2 ++ event 0) 2) (BadConfiguration 0) 4 0
    ∷ refused (table nothing (event 0 ++ (configuration 1 0 3 ++ event 0)) 1) (BadConfiguration 1) 4 1
    ∷ refused (table nothing (configuration 2 0 3 ++ event 0) 1) (BadConfiguration 0) 4 0
    -- a height of 17; of 16 above a bad not, which counts as 1
    ∷ refused (table nothing (nots15 (no (event 0))) 1) (BadConfiguration 0) 4 0
    ∷ refused (table nothing (nots15 (configuration 1 1 2 ++ event 0)) 1) (BadConfiguration 15) 4 15
    -- 5: a kind of 13; a byte that isn't zero
    ∷ refused (table (seq nothing (node 13 0 1)) [] 1) (BadNode 2) 5 2
    ∷ refused (table (0 ∷ 1 ∷ 0 ∷ 0 ∷ 0 ∷ 1 ∷ []) [] 1) (BadNode 0) 5 0
    -- an argument: of a Stop 1, of Generate, Control, Local an event at V, of Await, When, Until a configuration at M
    ∷ refused (table (seq nothing (form 1 1 [])) [] 1) (BadNode 2) 5 2
    ∷ refused (table (seq (generate 0) (generate 1)) [] 1) (BadNode 2) 5 2
    ∷ refused (table (seq (control 0 nothing) (control 1 nothing)) [] 1) (BadNode 3) 5 3
    ∷ refused (table (seq (local 0 nothing) (local 1 nothing)) [] 1) (BadNode 3) 5 3
    ∷ refused (table (seq (await 0) (await 1)) (event 0) 1) (BadNode 2) 5 2
    ∷ refused (table (seq (when 0 stop stop) (when 1 stop stop)) (event 0) 1) (BadNode 4) 5 4
    ∷ refused (table (seq (until 0 stop stop) (until 1 stop stop)) (event 0) 1) (BadNode 4) 5 4
    -- a size; a child that isn't there; record 0 of another size than N
    ∷ refused (table (node 3 0 4 ++ (nothing ++ nothing)) [] 1) (BadNode 0) 5 0
    ∷ refused (table (node 3 0 3 ++ (nothing ++ node 5 0 1)) [] 1) (BadNode 2) 5 2
    ∷ refused (table (node 3 0 2 ++ nothing) [] 1) (BadNode 0) 5 0
    ∷ refused (table (nothing ++ nothing) [] 1) (BadNode 0) 5 0
    -- 7: of two Loops, or three, the last one's body doesn't stop. Seq; Par; Repeat; When; Until; Control; Local; Loop
    ∷ refused (table (seq (loop (seq stop nothing)) (loop (seq nothing (atom 1)))) [] 1) (EndlessLoop 5) 7 5
    ∷ refused (table (seq (loop (par stop nothing)) (seq (loop (par nothing stop)) (loop (par nothing nothing)))) [] 1) (EndlessLoop 10) 7 10
    ∷ refused (table (seq (loop (repeat 1 stop)) (loop (repeat 0 stop))) [] 1) (EndlessLoop 4) 7 4
    ∷ refused (table (seq (loop (when 0 stop stop)) (loop (when 0 nothing stop))) (event 0) 1) (EndlessLoop 5) 7 5
    ∷ refused (table (seq (loop (until 0 stop stop)) (loop (until 0 nothing stop))) (event 0) 1) (EndlessLoop 5) 7 5
    ∷ refused (table (seq (loop (control 0 stop)) (loop (control 0 nothing))) [] 1) (EndlessLoop 4) 7 4
    ∷ refused (table (seq (loop (local 0 stop)) (loop (local 0 nothing))) [] 1) (EndlessLoop 4) 7 4
    ∷ refused (table (seq (loop (loop stop)) (loop nothing)) [] 1) (EndlessLoop 4) 7 4
    ∷ []

-- Refusals 9 to 12
abbrev pub refused_rooms : List Entry
refused_rooms =
    -- 9 to 12: Seq(Stop, Atom 4), V 3. A room of 11 bytes; one that isn't at rest; events 2, 5 and 4; a row without a place, though this instant
    -- does no atom
    not_started (table (seq stop (atom 4)) [] 3) (replicate 11 255) StateRoom 9 0
    ∷ not_run (table (seq stop (atom 4)) [] 3)
    (turned_down (set (2 ∷ 5 ∷ 4 ∷ [])) [] (replicate 11 0) StateRoom 9 0
    ∷ turned_down (set (2 ∷ 5 ∷ 4 ∷ [])) [] (phases (0 ∷ 1 ∷ 0 ∷ [])) (NotAtRest 1) 10 1
    ∷ [])
    ∷ accepted (table (seq stop (atom 4)) [] 3) 0 1 3
    (turned_down (set (2 ∷ 5 ∷ 4 ∷ [])) [] (room (0 ∷ 0 ∷ 0 ∷ [])) (UnlistedEvent 4) 11 4
    ∷ turned_down (set (2 ∷ [])) [] (room (0 ∷ 0 ∷ 0 ∷ [])) AtomRoom 12 0
    ∷ instant_in (2 ∷ []) (9 ∷ []) (ran (2 ∷ []) 1 2 0 false 1) (9 ∷ []) (room (0 ∷ 3 ∷ 0 ∷ []))
    ∷ instant_in [] (9 ∷ []) (ran [] 0 no_event 1 true 1) (4 ∷ []) (room (3 ∷ 0 ∷ 0 ∷ []))
    ∷ [])
    ∷ []

-- Refusal 10: states that aren't at rest
abbrev pub not_at_rest : List Entry
not_at_rest =
    -- a leaf's phase, flags, count
    not_run (table (par stop stop) [] 1)
    (blames (phases (0 ∷ 1 ∷ 0 ∷ [])) 1
    ∷ blames (own 0 0 0 ++ (own 0 0 0 ++ own 0 1 0)) 2
    ∷ blames (own 0 0 0 ++ (own 0 0 0 ++ own 0 0 1)) 2
    ∷ [])
    -- Par: its phase; flags STOP and SUSP, both TERM, TERM over a branch that hasn't ended
    ∷ not_run (table (par stop stop) [] 1)
    (blames (phases (1 ∷ 0 ∷ 0 ∷ [])) 0
    ∷ blames (own 0 1 0 ++ phases (0 ∷ 0 ∷ [])) 0
    ∷ blames (own 0 4 0 ++ phases (0 ∷ 0 ∷ [])) 0
    ∷ blames (own 0 10 0 ++ phases (3 ∷ 3 ∷ [])) 0
    ∷ blames (own 0 2 0 ++ phases (0 ∷ 3 ∷ [])) 0
    ∷ blames (own 0 8 0 ++ phases (3 ∷ 0 ∷ [])) 0
    ∷ [])
    -- phase 3 with flags, with a count, with a part that isn't zero
    ∷ not_run (table (par stop stop) [] 1)
    (blames (own 3 2 0 ++ phases (0 ∷ 0 ∷ [])) 0
    ∷ blames (own 3 0 1 ++ phases (0 ∷ 0 ∷ [])) 0
    ∷ blames (phases (3 ∷ 0 ∷ 3 ∷ [])) 0
    ∷ [])
    -- Seq: its phase; a part that isn't zero
    ∷ not_run (table (seq stop stop) [] 1)
    (blames (phases (1 ∷ 0 ∷ 0 ∷ [])) 0
    ∷ blames (phases (0 ∷ 0 ∷ 3 ∷ [])) 0
    ∷ blames (phases (2 ∷ 3 ∷ 0 ∷ [])) 0
    ∷ [])
    -- Loop; Repeat, and its count
    ∷ not_run (table (loop stop) [] 1)
    (blames (phases (2 ∷ 0 ∷ [])) 0
    ∷ blames (phases (0 ∷ 3 ∷ [])) 0
    ∷ [])
    ∷ not_run (table (repeat 2 stop) [] 1)
    (blames (phases (2 ∷ 0 ∷ [])) 0
    ∷ blames (phases (0 ∷ 3 ∷ [])) 0
    ∷ blames (own 1 0 2 ++ phases (3 ∷ [])) 0
    ∷ blames (own 0 0 1 ++ phases (0 ∷ [])) 0
    ∷ [])
    -- When; Until, which isn't in phase 1
    ∷ not_run (table (when 0 stop stop) (event 0) 1)
    (blames (phases (4 ∷ 0 ∷ 0 ∷ [])) 0
    ∷ blames (phases (0 ∷ 3 ∷ 0 ∷ [])) 0
    ∷ blames (phases (0 ∷ 0 ∷ 3 ∷ [])) 0
    ∷ blames (phases (1 ∷ 0 ∷ 3 ∷ [])) 0
    ∷ blames (phases (2 ∷ 3 ∷ 0 ∷ [])) 0
    ∷ [])
    ∷ not_run (table (until 0 stop stop) (event 0) 1)
    (blames (phases (1 ∷ 0 ∷ 0 ∷ [])) 0
    ∷ blames (phases (0 ∷ 0 ∷ 3 ∷ [])) 0
    ∷ blames (phases (2 ∷ 3 ∷ 0 ∷ [])) 0
    ∷ [])
    -- Control; Local, which isn't plus
    ∷ not_run (table (control 0 stop) [] 1) (blames (phases (1 ∷ 0 ∷ [])) 0 ∷ [])
    ∷ not_run (table (local 0 stop) [] 1) (blames (phases (1 ∷ 0 ∷ [])) 0 ∷ [])
    ∷ []

-- L14: If and RepeatExt
abbrev pub row6 : List ℕ
row6 = 9 ∷ 9 ∷ 9 ∷ 9 ∷ 9 ∷ 9 ∷ []

abbrev pub asking_the_box : List Entry
asking_the_box =
    -- If(3, Atom 1, Atom 2): nonzero means the first branch
    accepted (table (if_value 3 (atom 1) (atom 2)) [] 1) 0 1 2
    (instant [] (ran [] 0 no_event 1 true 1) (2 ∷ 9 ∷ 9 ∷ 9 ∷ []) (room (3 ∷ 0 ∷ 0 ∷ [])) ∷ [])
    ∷ accepted (table (if_value 3 (atom 1) (atom 2)) [] 1) 0 1 2
    (asking (value_is 3 255) (instant [] (ran [] 0 no_event 1 true 1) (1 ∷ 9 ∷ 9 ∷ 9 ∷ []) (room (3 ∷ 0 ∷ 0 ∷ []))) ∷ [])
    -- If(0, Stop, Atom 1): chosen when reached, and the second instant's value changes nothing
    ∷ accepted (table (if_value 0 stop (atom 1)) [] 1) 0 1 2
    (asking (value_is 0 1) (instant [] (ran [] 0 no_event 0 false 1) row9 (room (1 ∷ 3 ∷ 0 ∷ [])))
    ∷ instant [] (ran [] 0 no_event 0 true 1) row9 (room (3 ∷ 0 ∷ 0 ∷ []))
    ∷ [])
    -- RepeatExt(2, 5, Atom 7): the lesser of cap and value; the figure uses the cap
    ∷ accepted (table (repeat_ext 2 5 (atom 7)) [] 1) 0 5 6
    (asking (value_is 2 3) (instant_in [] row6 (ran [] 0 no_event 3 true 1) (7 ∷ 7 ∷ 7 ∷ 9 ∷ 9 ∷ 9 ∷ []) (room (3 ∷ 0 ∷ []))) ∷ [])
    ∷ accepted (table (repeat_ext 2 5 (atom 7)) [] 1) 0 5 6
    (asking (value_is 2 9) (instant_in [] row6 (ran [] 0 no_event 5 true 1) (7 ∷ 7 ∷ 7 ∷ 7 ∷ 7 ∷ 9 ∷ []) (room (3 ∷ 0 ∷ []))) ∷ [])
    ∷ accepted (table (repeat_ext 2 5 (atom 7)) [] 1) 0 5 6 (instant_in [] row6 (ran [] 0 no_event 0 true 1) row6 (room (3 ∷ 0 ∷ [])) ∷ [])
    -- RepeatExt(0, 4, Seq(Stop, Atom 1)): the value is read once, when it begins; the body stops, so the figure takes 2 of the cap's 4
    ∷ accepted (table (repeat_ext 0 4 (seq stop (atom 1))) [] 1) 0 2 7
    (asking (value_is 0 2) (instant [] (ran [] 0 no_event 0 false 1) row9 (own 1 0 1 ++ room (0 ∷ 3 ∷ 0 ∷ [])))
    ∷ asking (value_is 0 200) (instant [] (ran [] 0 no_event 1 false 1) (1 ∷ 9 ∷ 9 ∷ 9 ∷ []) (room (1 ∷ 0 ∷ 3 ∷ 0 ∷ [])))
    ∷ asking (value_is 0 200) (instant [] (ran [] 0 no_event 1 true 1) (1 ∷ 9 ∷ 9 ∷ 9 ∷ []) (room (3 ∷ 0 ∷ 0 ∷ 0 ∷ [])))
    ∷ [])
    -- in a Loop: a value of 0 ends a RepeatExt at once; an If stops if both branches do
    ∷ refused (table (loop (repeat_ext 0 1 stop)) [] 1) (EndlessLoop 0) 7 0
    ∷ accepted (table (loop (if_value 0 stop stop)) [] 1) 0 0 5 []
    ∷ refused (table (loop (if_value 0 stop nothing)) [] 1) (EndlessLoop 0) 7 0
    -- sixteen values, 0 to 15; caps up to 255
    ∷ refused (table (if_value 16 stop stop) [] 1) (BadNode 0) 5 0
    ∷ refused (table (repeat_ext 0 256 stop) [] 1) (BadNode 0) 5 0
    ∷ accepted (table (repeat_ext 15 255 stop) [] 1) 0 0 3 []
    -- RepeatExt(0, 2, Stop): its count is below the cap
    ∷ not_run (table (repeat_ext 0 2 stop) [] 1) (blames (own 1 0 2 ++ phases (0 ∷ [])) 0 ∷ [])
    ∷ accepted (table (repeat_ext 0 2 stop) [] 1) 0 0 3
    (asking (value_is 0 2) (instant [] (ran [] 0 no_event 0 false 1) row9 (own 1 0 1 ++ room (3 ∷ [])))
    ∷ instant [] (ran [] 0 no_event 0 false 1) row9 (room (1 ∷ 3 ∷ []))
    ∷ [])
    -- RepeatExt(0, 0, Stop): never begun
    ∷ accepted (table (repeat_ext 0 0 stop) [] 1) 0 0 1 []
    ∷ not_run (table (repeat_ext 0 0 stop) [] 1) (blames (phases (1 ∷ 0 ∷ [])) 0 ∷ [])
    -- If(0, Repeat(3, Atom 1), Atom 2): as When, the larger branch
    ∷ accepted (table (if_value 0 (repeat 3 (atom 1)) (atom 2)) [] 1) 0 3 5 []
    -- RepeatExt(0, 3, If(1, Stop, Atom 4)): each round's If is a new one and asks anew; the round begun before keeps its choice
    ∷ accepted (table (repeat_ext 0 3 (if_value 1 stop (atom 4))) [] 1) 0 3 7
    (asking (value_is 0 3) (instant [] (ran [] 0 no_event 3 true 1) (4 ∷ 4 ∷ 4 ∷ 9 ∷ []) (room (3 ∷ 0 ∷ 0 ∷ 0 ∷ []))) ∷ [])
    ∷ accepted (table (repeat_ext 0 3 (if_value 1 stop (atom 4))) [] 1) 0 3 7
    (asking (3 ∷ 1 ∷ replicate 14 0) (instant [] (ran [] 0 no_event 0 false 1) row9 (own 1 0 2 ++ room (1 ∷ 3 ∷ 0 ∷ [])))
    ∷ instant [] (ran [] 0 no_event 2 true 1) (4 ∷ 4 ∷ 9 ∷ 9 ∷ []) (room (3 ∷ 0 ∷ 0 ∷ 0 ∷ []))
    ∷ [])
    ∷ []

-- L8: what is parked goes into the store. A piece as bytes; a store of forty bytes with n of them in use, all zero behind the pieces l
abbrev pub parked : ℕ → ℕ → List ℕ → List ℕ
parked e n state = e / 256 ∷ e % 256 ∷ n / 256 ∷ n % 256 ∷ state

abbrev pub store_of : ℕ → List ℕ → List ℕ
store_of n l = n / 256 ∷ n % 256 ∷ (l ++ replicate (38 - length l) 0)

abbrev pub empty : List ℕ
empty = store_of 0 []

-- Freezable(0, Stop)
abbrev pub frozen_stop : List ℕ
frozen_stop = table (freezable 0 stop) [] 1

-- Loop(Seq(Freezable(0, Stop), Seq(Stop, Freezable(0, Seq(Stop, Stop)))))
abbrev pub two_frozen : List ℕ
two_frozen = table (loop (seq (freezable 0 stop) (seq stop (freezable 0 (seq stop stop))))) [] 1

abbrev pub parked_pieces : List Entry
parked_pieces =
    -- its event present: the body, which has stopped, is parked, and the program has finished; what reads as Nothing is parked all the same
    parking frozen_stop 0 0 2 8
    (storing empty (store_of 8 (parked 0 1 (phases (3 ∷ []))))
    (instant (0 ∷ []) (ran (0 ∷ []) 1 0 0 true 1) row9 (room (3 ∷ 0 ∷ [])))
    ∷ [])
    -- its event absent: nothing is parked, and the body that then ends isn't either
    ∷ parking frozen_stop 0 0 2 8
    (storing empty empty (instant [] (waiting 0 0 (ran [] 0 no_event 0 false 2)) row9 (room (0 ∷ 3 ∷ [])))
    ∷ storing empty empty (instant (0 ∷ []) (ran (0 ∷ []) 1 0 0 true 1) row9 (room (3 ∷ 0 ∷ [])))
    ∷ [])
    -- Freezable(0, Await 1): parked once the end is declared, which answers STOP; the next instant finds the program finished
    ∷ parking (table (freezable 0 (await 0)) (event 1) 2) 0 0 2 8
    (storing empty (store_of 8 (parked 0 1 (phases (0 ∷ []))))
    (instant (0 ∷ []) (waiting 1 1 (ran (0 ∷ []) 1 0 0 false 2)) row9 (room (3 ∷ 0 ∷ [])))
    ∷ storing (store_of 8 (parked 0 1 (phases (0 ∷ [])))) (store_of 8 (parked 0 1 (phases (0 ∷ []))))
    (instant [] (ran [] 0 no_event 0 true 1) row9 (room (3 ∷ 0 ∷ [])))
    ∷ [])
    -- Seq(Freezable(0, Seq(Stop, Atom 5)), Atom 6): the Seq goes on
    ∷ parking (table (seq (freezable 0 (seq stop (atom 5))) (atom 6)) [] 1) 0 2 6 16
    (storing empty (store_of 16 (parked 0 2 (phases (0 ∷ 3 ∷ 0 ∷ []))))
    (instant (0 ∷ []) (ran (0 ∷ []) 1 0 1 true 1) (6 ∷ 9 ∷ 9 ∷ 9 ∷ []) (room (3 ∷ 0 ∷ 0 ∷ 0 ∷ 0 ∷ 0 ∷ [])))
    ∷ [])
    -- Freezable(0, Freezable(1, Await 2)): the inner one first, and then the outer one's body, which reads as Nothing: all of F
    ∷ parking (table (freezable 0 (freezable 1 (await 0))) (event 2) 3) 0 0 3 20
    (storing empty (store_of 20 (parked 1 2 (phases (0 ∷ [])) ++ parked 0 1 (phases (3 ∷ 0 ∷ []))))
    (instant (0 ∷ 1 ∷ []) (waiting 2 2 (ran (0 ∷ 1 ∷ []) 2 0 0 false 2)) row9 (room (3 ∷ 0 ∷ 0 ∷ [])))
    ∷ [])
    -- in a Loop: a second instant's pieces stand behind the first one's, in the order in which they are parked
    ∷ parking two_frozen 0 0 19 48
    (storing (empty ++ replicate 12 0) (store_of 8 (parked 0 3 (phases (3 ∷ []))) ++ replicate 12 0)
    (instant (0 ∷ []) (ran (0 ∷ []) 1 0 0 false 1) row9 (room (1 ∷ 2 ∷ 0 ∷ 0 ∷ 0 ∷ 3 ∷ 0 ∷ 0 ∷ 0 ∷ 0 ∷ [])))
    ∷ storing (store_of 8 (parked 0 3 (phases (3 ∷ []))) ++ replicate 18 0)
    (store_of 32 (parked 0 3 (phases (3 ∷ [])) ++ (parked 0 7 (phases (0 ∷ 3 ∷ 0 ∷ [])) ++ parked 0 3 (phases (3 ∷ [])))) ++ replicate 18 0)
    (instant (0 ∷ []) (ran (0 ∷ []) 1 0 0 false 1) row9 (room (1 ∷ 2 ∷ 0 ∷ 0 ∷ 0 ∷ 3 ∷ 0 ∷ 0 ∷ 0 ∷ 0 ∷ [])))
    ∷ [])
    -- Local(0, Par(Freezable(0, Stop), Generate 0)): the local event, which is reported nowhere
    ∷ parking (table (local 0 (par (freezable 0 stop) (generate 0))) [] 1) 1 0 5 8
    (storing empty (store_of 8 (parked 0 3 (phases (3 ∷ []))))
    (instant [] (ran [] 0 no_event 0 true 2) row9 (room (3 ∷ 0 ∷ 0 ∷ 0 ∷ 0 ∷ [])))
    ∷ [])
    -- Par(Freezable(0, Loop(Stop)), Seq(Await 1, Generate 0)): an event generated behind it, found in the second pass
    ∷ parking (table (par (freezable 0 (loop stop)) (seq (await 0) (generate 0))) (event 1) 2) 1 0 8 12
    (storing empty (store_of 12 (parked 0 2 (phases (1 ∷ 3 ∷ []))))
    (instant (1 ∷ []) (ran (0 ∷ 1 ∷ []) 2 0 0 true 2) row9 (room (3 ∷ 0 ∷ 0 ∷ 0 ∷ 0 ∷ 0 ∷ 0 ∷ [])))
    ∷ [])
    -- Repeat(2, Freezable(0, Stop)): each round parks
    ∷ parking (table (repeat 2 (freezable 0 stop)) [] 1) 0 0 5 16
    (storing empty (store_of 16 (parked 0 2 (phases (3 ∷ [])) ++ parked 0 2 (phases (3 ∷ []))))
    (instant (0 ∷ []) (ran (0 ∷ []) 1 0 0 true 1) row9 (room (3 ∷ 0 ∷ 0 ∷ [])))
    ∷ [])
    -- Freezable(0, Repeat(3, Seq(Stop, Atom 1))): a body parked on its way keeps its count
    ∷ parking (table (freezable 0 (repeat 3 (seq stop (atom 1)))) [] 1) 0 2 8 20
    (storing empty empty
    (instant [] (waiting 0 0 (ran [] 0 no_event 0 false 2)) row9 (own 0 0 0 ++ (own 1 0 2 ++ room (0 ∷ 3 ∷ 0 ∷ []))))
    ∷ storing empty (store_of 20 (parked 0 1 (own 1 0 1 ++ phases (0 ∷ 3 ∷ 0 ∷ []))))
    (instant (0 ∷ []) (ran (0 ∷ []) 1 0 1 true 1) (1 ∷ 9 ∷ 9 ∷ 9 ∷ []) (room (3 ∷ 0 ∷ 0 ∷ 0 ∷ 0 ∷ [])))
    ∷ [])
    -- Loop(Freezable(0, Stop)): a Freezable doesn't count as stopping
    ∷ refused (table (loop (freezable 0 stop)) [] 1) (EndlessLoop 0) 7 0
    -- V counts its event
    ∷ refused (table (freezable 1 stop) [] 1) (BadNode 0) 5 0
    -- pending between instants: not at rest
    ∷ not_run frozen_stop (blames (phases (1 ∷ 3 ∷ [])) 0 ∷ [])
    ∷ []

-- the line of an instant that 25 or 13 refuses: with event 0 handed in, this store
abbrev pub refuses : List ℕ → Refusal → ℕ → Line
refuses store o number = storing store store (turned_down (set (0 ∷ [])) row9 (room (0 ∷ 0 ∷ [])) o number 0)

abbrev pub refused_stores : List Entry
refused_stores =
    parking frozen_stop 0 0 2 8
    -- 25: no sixteen bits; more in use than there is; a piece cut short; bytes behind the last piece; another event; another node; not at rest
    (refuses [] BadStore 25
    ∷ refuses (0 ∷ []) BadStore 25
    ∷ refuses (0 ∷ 8 ∷ parked 0 1 (3 ∷ 0 ∷ 0 ∷ [])) BadStore 25
    ∷ refuses (0 ∷ 7 ∷ parked 0 1 (phases (3 ∷ []))) BadStore 25
    ∷ refuses (0 ∷ 11 ∷ (parked 0 1 (phases (3 ∷ [])) ++ (0 ∷ 0 ∷ 0 ∷ []))) BadStore 25
    ∷ refuses (store_of 8 (parked 1 1 (phases (3 ∷ [])))) BadStore 25
    ∷ refuses (store_of 12 (parked 0 0 (phases (3 ∷ 0 ∷ [])))) BadStore 25
    ∷ refuses (store_of 8 (parked 0 1 (phases (1 ∷ [])))) BadStore 25
    -- 13: F is 8, and two bytes are not for pieces; nor is what is in use
    ∷ refuses (replicate 9 0) StoreRoom 13
    ∷ refuses (0 ∷ 8 ∷ (parked 0 1 (phases (3 ∷ [])) ++ replicate 7 0)) StoreRoom 13
    ∷ storing (replicate 10 0) (0 ∷ 8 ∷ parked 0 1 (phases (3 ∷ [])))
    (instant (0 ∷ []) (ran (0 ∷ []) 1 0 0 true 1) row9 (room (3 ∷ 0 ∷ [])))
    ∷ [])
    -- 12 is met before 25
    ∷ not_run (table (atom 4) [] 1) (storing [] [] (turned_down (set []) [] (room (0 ∷ [])) AtomRoom 12 0) ∷ [])
    -- Repeat(0, Freezable(0, Stop)): no piece is from below a count of 0; count 1 has one there
    ∷ parking (table (repeat 0 (freezable 0 stop)) [] 1) 0 0 1 0
    (storing (store_of 8 (parked 0 2 (phases (0 ∷ [])))) (store_of 8 (parked 0 2 (phases (0 ∷ []))))
    (turned_down (set []) row9 (room (0 ∷ 0 ∷ 0 ∷ [])) BadStore 25 0)
    ∷ [])
    ∷ parking (table (repeat 1 (freezable 0 stop)) [] 1) 0 0 3 8
    (storing (store_of 8 (parked 0 2 (phases (0 ∷ [])))) (store_of 8 (parked 0 2 (phases (0 ∷ []))))
    (instant [] (waiting 1 0 (ran [] 0 no_event 0 false 2)) row9 (room (1 ∷ 0 ∷ 3 ∷ [])))
    ∷ [])
    ∷ []

abbrev pub bench_list : List Entry
bench_list =
    K1_to_K12
    ++ (more_of_the_forms
    ++ (loops
    ++ (resumed_rooms
    ++ (tests
    ++ (figures
    ++ (harmless_loops ++ (waiting_tests ++ (many_events ++ (asking_the_box ++ (parked_pieces ++ (refused_stores ++ (refused_tables ++ (refused_rooms ++ not_at_rest)))))))))))))
