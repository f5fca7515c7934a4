-- The way down from node 0 to the first test that waits: what each step of it asks and gives. No contract of a customer's call cites this file.
use Rattle.std.specs.Prelude.{ℕ, ◌+◌, ◌*◌, ◌%◌, Bool, not, cond, ◌&&◌, ◌||◌, ◌≡◌, List, ◌++◌, eqb, ltb, drop, Option as Answer}
use Rattle.std.proofs.Math.Option.{Option, none, some}
use Rattle.events.specs.Events.{Events, put}
use Rattle.events.specs.Members.{places}
use Rattle.junior.specs.Configuration.{Event}
use Rattle.junior.specs.Term.{Term, done, nothing, stop, atom, generate, await, seq0, seq2, par, loop0, loop1}
use Rattle.junior.specs.Term.{repeat0, repeat1, when0, when1, when2, until0, until*, until2, control, local, freezable0, freezable*, if0, if1, if2}
use Rattle.junior.specs.Term.{prog}
use Rattle.junior.specs.Waited.{lacks, Wait}
use Rattle.junior.proofs.WayDown.{waiting_in}
use Rattle.table.specs.Records.{byte, kind_at, argument_at, second_child}
use Rattle.table.specs.Inside.{Placed}
use Rattle.state.specs.StateBytes.{state_bytes}
use Rattle.waiting.specs.declared.Wait.{Wait as Found}
use Rattle.waiting.specs.Lacking.{Tells}

-- x stands at node i of the table, its bytes in the state
pub record StandsAt (table state : List ℕ) (i : ℕ) (x : Term) : Type 0 where
  pub placed : Placed table i (prog x)
  pub rest : List ℕ
  pub bytes : drop (4 * i) state ≡ state_bytes x ++ rest

abbrev pub SomeStands : List ℕ → List ℕ → ℕ → Type 0
SomeStands table state i = (x : Term) × StandsAt table state i x

-- the events X being present, a test at or below node i waits: w says which, and for which event
pub record Leads (table state : List ℕ) (i : ℕ) (X : Events) (w : Wait) : Type 0 where
  pub term : Term
  pub stands : StandsAt table state i term
  pub leads : waiting_in i term X ≡ some w

abbrev pub SomeLeads : List ℕ → List ℕ → ℕ → Events → Type 0
SomeLeads table state i X = (w : Wait) × Leads table state i X w

-- r is the test that the way from node 0 leads to
abbrev pub LeadsTo : List ℕ → List ℕ → Events → Found → Type 0
LeadsTo table state X r = (w : Wait) → Leads table state 0 X w → (r.node ≡ w.node) × (r.event ≡ w.event)

-- an Await or a When in phase 0 and an Until* are tests that wait
abbrev pub is_test : ℕ → ℕ → Bool
is_test kind phase = cond (eqb kind 10) (eqb phase 1) ((eqb kind 8 || eqb kind 9) && eqb phase 0)

-- a Control waits for its own event, and so does a pending Freezable (L8: "L1's tests and demand 3's include the pending form")
abbrev pub waits_itself : ℕ → ℕ → Bool
waits_itself kind phase = eqb kind 11 || (eqb kind 13 && eqb phase 1)

-- the event that a node itself waits for, if it does
unfoldable pub own_wait : Term → Events → Option ℕ
own_wait (done p) X = none
own_wait nothing X = none
own_wait stop X = none
own_wait (atom a) X = none
own_wait (generate s) X = none
own_wait (await c) X = lacks c X
own_wait (seq0 t q) X = none
own_wait (seq2 p t) X = none
own_wait (par α β t u) X = none
own_wait (loop0 p) X = none
own_wait (loop1 t) X = none
own_wait (repeat0 n p) X = none
own_wait (repeat1 n k t) X = none
own_wait (when0 c p q) X = lacks c X
own_wait (when1 c t q) X = none
own_wait (when2 c p t) X = none
own_wait (until0 c t q) X = none
own_wait (until* c t q) X = lacks c X
own_wait (until2 c p t) X = none
own_wait (control s t) X = cond (X s) none (some s)
own_wait (local b s t) X = none
own_wait (freezable0 s t) X = none
own_wait (freezable* s t) X = lacks (Event s) X
own_wait (if0 v p q) X = none
own_wait (if1 v t q) X = none
own_wait (if2 v p t) X = none

abbrev pub OwnWait : List ℕ → List ℕ → ℕ → Events → Answer ℕ → Type 0
OwnWait table state i X r =
    (x : Term) (w : Wait) → StandsAt table state i x → waiting_in i x X ≡ some w → Tells (own_wait x X) r

-- the way goes on in the second child: of a Par whose first branch isn't suspended, of another form in phase 2
abbrev pub goes_second : ℕ → ℕ → ℕ → Bool
goes_second kind phase flags = cond (eqb kind 4) (not (eqb (flags % 4) 0)) (eqb phase 2)

abbrev pub next_node : List ℕ → ℕ → ℕ → ℕ → ℕ → ℕ
next_node table i kind phase flags = cond (goes_second kind phase flags) (second_child table i) (i + 1)

-- the events that are present for it: a Local's own by its sign
abbrev pub inside_events : ℕ → ℕ → ℕ → Events → Events
inside_events kind event phase X = cond (eqb kind 12) (put event (eqb phase 1 && ltb event places) X) X

-- the same of node i, by its bytes
abbrev pub next_of : List ℕ → List ℕ → ℕ → ℕ
next_of table state i = next_node table i (kind_at table i) (byte state (4 * i)) (byte state (4 * i + 1))

abbrev pub inside_of : List ℕ → List ℕ → ℕ → Events → Events
inside_of table state i X = inside_events (kind_at table i) (argument_at table i) (byte state (4 * i)) X
