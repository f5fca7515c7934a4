-- Examples of takings (L8), one list and one statement over it, of the very definition that is the contract.
use Rattle.std.specs.Prelude.{ℕ, ◌+◌, ◌/◌, ◌≡◌, Result, Ok, Err, List, [], ◌∷◌, ◌++◌, length, replicate}
use Rattle.junior.specs.Parked.{All}
use Rattle.table.specs.declared.TableRefusal.TheVariants.{EndlessLoop}
use Rattle.table.specs.Bytes.{node, configuration, trailer}
use Rattle.table.specs.Verdict.{numbered_by}
use Rattle.store.specs.Store.{two}
use Rattle.taking.specs.declared.TakeRefusal.{TakeRefusal}
use Rattle.taking.specs.declared.TakeRefusal.TheVariants.{Table, BadStore, NoPiece, NoRoom}
use Rattle.taking.specs.declared.Taken.{Taken}
use Rattle.taking.specs.Taking.{taking_number, taking_index, Took}

-- a taking: what is handed in, the answer with its number and index, the store and the rooms after it
pub record Line : Type 0 where
  pub table : List ℕ
  pub store : List ℕ
  pub event : ℕ
  pub table_room : List ℕ
  pub state_room : List ℕ
  pub answer : Result Taken TakeRefusal
  pub number : ℕ
  pub index : ℕ
  pub store_after : List ℕ
  pub table_after : List ℕ
  pub state_after : List ℕ

-- take answers exactly this: its contract allows this and nothing else
pub record Answers (x : Line) : Type 0 where
  pub took : Took x.table x.store x.event x.table_room x.state_room x.store_after x.table_after x.state_after x.answer
  pub only : {s a b : List ℕ} {q : Result Taken TakeRefusal} → Took x.table x.store x.event x.table_room x.state_room s a b q
      → (q ≡ x.answer) × (s ≡ x.store_after) × (a ≡ x.table_after) × (b ≡ x.state_after)
  pub number_is : numbered_by taking_number x.answer ≡ x.number
  pub index_is : numbered_by taking_index x.answer ≡ x.index

-- Programs as their records, and the table of one with these configurations and V events
abbrev pub form : ℕ → ℕ → List ℕ → List ℕ
form kind argument p = node kind argument (1 + length p / 6) ++ p

abbrev pub stop : List ℕ
stop = form 1 0 []

abbrev pub atom : ℕ → List ℕ
atom a = form 2 a []

abbrev pub seq : List ℕ → List ℕ → List ℕ
seq p q = form 3 0 (p ++ q)

abbrev pub par : List ℕ → List ℕ → List ℕ
par p q = form 4 0 (p ++ q)

abbrev pub loop : List ℕ → List ℕ
loop p = form 5 0 p

abbrev pub repeat : ℕ → List ℕ → List ℕ
repeat n p = form 6 n p

abbrev pub await : ℕ → List ℕ
await c = form 8 c []

abbrev pub freezable : ℕ → List ℕ → List ℕ
freezable e p = form 13 e p

abbrev pub table_of : List ℕ → List ℕ → ℕ → List ℕ
table_of p c v = p ++ (c ++ trailer (length p / 6) (length c / 4) v (length p + length c) (length c))

-- Stores: nodes that have a phase alone; a piece of such; so many bytes in use, and what follows
unfoldable pub phases : List ℕ → List ℕ
phases [] = []
phases (ph ∷ l) = ph ∷ 0 ∷ 0 ∷ 0 ∷ phases l

abbrev pub parked : ℕ → ℕ → List ℕ → List ℕ
parked e j l = two e ++ (two j ++ phases l)

abbrev pub store_of : ℕ → List ℕ → List ℕ
store_of used l = two used ++ l

-- taken, from rooms that are k bytes longer than the table u and the state x: the store is then s'
abbrev pub takes : ℕ → List ℕ → List ℕ → ℕ → List ℕ → List ℕ → List ℕ → Line
takes k t s e u x s' =
    record {
      table = t;
      store = s;
      event = e;
      table_room = replicate (length u + k) 255;
      state_room = replicate (length x + k) 255;
      answer = Ok (record { table = length u; state = length x });
      number = 0;
      index = 0;
      store_after = s';
      table_after = u ++ replicate k 255;
      state_after = x ++ replicate k 255;
    }

-- refused, in rooms of a and b bytes
abbrev pub refused_in : ℕ → ℕ → List ℕ → List ℕ → ℕ → TakeRefusal → ℕ → ℕ → Line
refused_in a b t s e o n i =
    record {
      table = t;
      store = s;
      event = e;
      table_room = replicate a 255;
      state_room = replicate b 255;
      answer = Err o;
      number = n;
      index = i;
      store_after = s;
      table_after = replicate a 255;
      state_after = replicate b 255;
    }

abbrev pub bad_store : List ℕ → List ℕ → Line
bad_store t s = refused_in 99 99 t s 0 BadStore 25 0

-- Seq(Freezable(0, Seq(Stop, Atom 5)), Atom 6) after an instant with 0: the store, of 40 bytes, and its one piece
abbrev pub half_done : List ℕ
half_done = table_of (seq (freezable 0 (seq stop (atom 5))) (atom 6)) [] 1

abbrev pub half_done_piece : List ℕ
half_done_piece = parked 0 2 (0 ∷ 3 ∷ 0 ∷ []) ++ replicate 22 0

-- Freezable(0, Freezable(1, Await 2)) after an instant with 0 and 1: both parked, the inner one first
abbrev pub nested : List ℕ
nested = table_of (freezable 0 (freezable 1 (await 0))) (configuration 0 2 1) 3

abbrev pub inner_piece : List ℕ
inner_piece = parked 1 2 (0 ∷ [])

abbrev pub outer_piece : List ℕ
outer_piece = parked 0 1 (3 ∷ 0 ∷ []) ++ replicate 18 0

-- Par(Freezable(0, Stop), Freezable(1, Stop)) and what its bodies leave as
abbrev pub two_bodies : List ℕ
two_bodies = table_of (par (freezable 0 stop) (freezable 1 stop)) [] 2

abbrev pub body_alone : List ℕ
body_alone = table_of stop [] 2

-- Freezable(0, Stop); Repeat(n, Freezable(0, Stop)); Loop(Freezable(0, Stop))
abbrev pub one_body : List ℕ
one_body = table_of (freezable 0 stop) [] 1

abbrev pub repeated_body : ℕ → List ℕ
repeated_body n = table_of (repeat n (freezable 0 stop)) [] 1

abbrev pub takings : List Line
takings =
    -- the body's nodes, a trailer of their own; the bytes behind the new end keep what stood there
    takes 1 half_done (store_of 16 half_done_piece) 0
    (table_of (seq stop (atom 5)) [] 1) (phases (0 ∷ 3 ∷ 0 ∷ [])) (store_of 0 half_done_piece)
    -- all configurations and the same V; the piece before it stays, then it is taken too, then there is none
    ∷ takes 1 nested (store_of 20 (inner_piece ++ outer_piece)) 0
    (table_of (freezable 1 (await 0)) (configuration 0 2 1) 3) (phases (3 ∷ 0 ∷ [])) (store_of 8 (inner_piece ++ outer_piece))
    ∷ takes 0 nested (store_of 8 (inner_piece ++ outer_piece)) 1
    (table_of (await 0) (configuration 0 2 1) 3) (phases (0 ∷ [])) (store_of 0 (inner_piece ++ outer_piece))
    ∷ refused_in 99 99 nested (store_of 0 (inner_piece ++ outer_piece)) 1 NoPiece 14 0
    -- "closes the gap": the last eight bytes keep the piece that was moved down
    ∷ takes 0 two_bodies (store_of 24 (parked 0 2 (0 ∷ []) ++ (parked 1 4 (3 ∷ []) ++ parked 0 2 (3 ∷ [])))) 1
    body_alone (phases (3 ∷ [])) (store_of 16 (parked 0 2 (0 ∷ []) ++ (parked 0 2 (3 ∷ []) ++ parked 0 2 (3 ∷ []))))
    -- "the newest piece of an event" stands last
    ∷ takes 0 two_bodies (store_of 24 (parked 0 2 (0 ∷ []) ++ (parked 1 4 (3 ∷ []) ++ parked 0 2 (3 ∷ [])))) 0
    body_alone (phases (3 ∷ [])) (store_of 16 (parked 0 2 (0 ∷ []) ++ (parked 1 4 (3 ∷ []) ++ parked 0 2 (3 ∷ []))))
    -- what count 0 above it forbids, count 1 doesn't
    ∷ takes 0 (repeated_body 1) (store_of 8 (parked 0 2 (0 ∷ []))) 0
    (table_of stop [] 1) (phases (0 ∷ [])) (store_of 0 (parked 0 2 (0 ∷ [])))
    ∷ []

abbrev pub refusals : List Line
refusals =
    -- "1 to 8": a Loop whose body, a Freezable, never counts as stopping, before a store of no bytes
    refused_in 99 99 (table_of (loop (freezable 0 stop)) [] 1) [] 0 (Table (EndlessLoop 0)) 7 0
    -- 25: no bytes, one byte, a count beyond the store, a piece cut short, three bytes over
    ∷ bad_store one_body []
    ∷ bad_store one_body (0 ∷ [])
    ∷ bad_store one_body (store_of 8 (0 ∷ 0 ∷ 0 ∷ 1 ∷ 3 ∷ 0 ∷ 0 ∷ []))
    ∷ bad_store one_body (store_of 7 (parked 0 1 (3 ∷ [])))
    ∷ bad_store one_body (store_of 11 (parked 0 1 (3 ∷ []) ++ replicate 3 0))
    -- 25: another event, the Freezable's own node, a node that is no body of it, a Stop in phase 1, count 0 above
    ∷ bad_store one_body (store_of 8 (parked 1 1 (3 ∷ [])))
    ∷ bad_store one_body (store_of 12 (parked 0 0 (3 ∷ 0 ∷ [])))
    ∷ bad_store two_bodies (store_of 8 (parked 0 4 (3 ∷ [])))
    ∷ bad_store one_body (store_of 8 (parked 0 1 (1 ∷ [])))
    ∷ bad_store (repeated_body 0) (store_of 8 (parked 0 2 (0 ∷ [])))
    -- "14 no such piece": an empty store, an event of no piece, one at V, one beyond 16 bits, whatever the rooms
    ∷ refused_in 99 99 one_body (store_of 0 []) 0 NoPiece 14 0
    ∷ refused_in 0 0 two_bodies (store_of 8 (parked 0 2 (0 ∷ []))) 1 NoPiece 14 0
    ∷ refused_in 99 99 two_bodies (store_of 8 (parked 0 2 (0 ∷ []))) 2 NoPiece 14 0
    ∷ refused_in 99 99 two_bodies (store_of 8 (parked 0 2 (0 ∷ []))) 65536 NoPiece 14 0
    -- "15 no room to take it": a table room one byte short, a state room one byte short, both
    ∷ refused_in 27 12 half_done (store_of 16 half_done_piece) 0 NoRoom 15 0
    ∷ refused_in 28 11 half_done (store_of 16 half_done_piece) 0 NoRoom 15 0
    ∷ refused_in 0 0 half_done (store_of 16 half_done_piece) 0 NoRoom 15 0
    ∷ []

abbrev pub Bench : Type 0
Bench = All Answers takings × All Answers refusals
