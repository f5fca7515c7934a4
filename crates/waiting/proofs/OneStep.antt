-- One step of the way down: what a node's kind and own bytes say of it, and that what it waits for is what its child waits for, or its own.
use Prim.Native.Nat.{ℕ, suc, ◌+◌, ◌-◌, ◌*◌, ◌%◌, ◌<◌}
use mathlib.Core.Bool.{Bool, true, false, cond}
use mathlib.Core.Path.{◌≡◌, refl, ap, sym, subst, ◌∙◌}
use mathlib.Core.List.{List, ◌++◌}
use mathlib.Core.Option.{Option, none, some}
use native.Mathlib.Omega.{arith}
use lib.Dec.{eqb}
use lib.ListN.{length, get_or, length-replicate}
use borrow.Author.Tests.{lt-ltb, eqb-true}
use borrow.Author.Rules.{rules}
use Rattle.std.specs.Prelude.{Option as Answer, Some, None}
use Rattle.events.specs.Events.{Events}
use Rattle.events.specs.Members.{places}
use Rattle.junior.specs.declared.Flag.{Flag}
use Rattle.junior.specs.declared.Flag.TheVariants.{SUSP, STOP, TERM}
use Rattle.junior.specs.Configuration.{Config, Event}
use Rattle.junior.specs.Program.{Program, One, Two, size, kind, argument, configuration}
use Rattle.junior.specs.Program as Program
use Rattle.junior.specs.Term.{Term, done, nothing, stop, atom, generate, await, seq0, seq2, par, loop0, loop1}
use Rattle.junior.specs.Term.{repeat0, repeat1, when0, when1, when2, until0, until*, until2, control, local, freezable0, freezable*, if0, if1, if2}
use Rattle.junior.specs.Term.{prog}
use Rattle.junior.specs.Values.{exactly, asked}
use Rattle.junior.specs.Waited.{lacks, Wait, waits_for}
use Rattle.junior.proofs.WayDown.{waiting_in}
use Rattle.table.specs.Records.{byte, nodes, configurations, events, kind_at, argument_at, second_child}
use Rattle.table.specs.Spells.{Configured, tested}
use Rattle.table.specs.Good.{argument_limit}
use Rattle.table.specs.Inside.{Placed}
use Rattle.table.specs.Reading.{ConfigurationAt}
use Rattle.table.proofs.Parts.{limit_of, by_kind}
use Rattle.table.proofs.Spelled.{configuration_there}
use Rattle.table.proofs.Tree.{argued}
use Rattle.table.proofs.Laid.{both}
use Rattle.table.proofs.Loaded.{fine_at, own_node}
use Rattle.state.specs.StateBytes.{code, head, zeros, below, state_bytes}
use Rattle.state.proofs.Little.{either_true}
use Rattle.state.proofs.Parts.{len_bytes}
use Rattle.steps.proofs.LoadedNode.{local_placed}
use Rattle.waiting.specs.Lacking.{Tells}
use Rattle.waiting.specs.Down.{StandsAt, Leads, is_test, waits_itself, own_wait, next_node, inside_events, next_of, inside_of}
use Rattle.waiting.proofs.Standing.{phase_is, flags_are, kind_is, only_child, first_child, second_child_lem, second_index}
use Rattle.waiting.proofs.Standing.{one_standing}

nothing_there : {A : Type 0} {B : Type 0} {b : B} → none ≡ some b → A
nothing_there e = let z : ◌≡◌ {A = ℕ} 0 1 = cc in absurd (omega arith)

-- an event that is told is that event; where none is, there is none
pub tells_some : (o : Option ℕ) {r : ℕ} → Tells o (Some r) → o ≡ some r
tells_some none h = search rules
tells_some (some e) {r} h = go h
  where
    go : Some r ≡ Some e → some e ≡ some r
    go h = search rules

pub tells_none : (o : Option ℕ) → Tells o None → o ≡ none
tells_none none h = refl
tells_none (some e) h = search rules

pub tells_not : {o : Option ℕ} → o ≡ none → Tells o None
tells_not e = rw e

-- what x waits for by itself, by whether it is a test and whether it waits for its own event
pub data OwnView (t : List ℕ) (i : ℕ) : Bool → Bool → Term → Type 0 where
  tests : {x : Term} {b : Bool} (c : Config) → argument_at t i < configurations t → Configured t (tested t i) c
      → ((X : Events) → own_wait x X ≡ lacks c X) → OwnView t i true b x
  itself : {x : Term} → ((X : Events) → own_wait x X ≡ cond (X (argument_at t i)) none (some (argument_at t i))) → OwnView t i false true x
  neither : {x : Term} → ((X : Events) → own_wait x X ≡ none) → OwnView t i false false x

test_below : {t : List ℕ} {i : ℕ} {p : Program} → Placed t i p → (c : Config) → argument p ≡ configuration c → argument_at t i < configurations t
test_below {t} {p = p} h c e = let limit = (by_kind p).limit_is t ∙ ap (limit_of t) e in omega (arith, (fine_at h).argument_below)

module _ {t s : List ℕ} {i : ℕ} where
  own_view_of : (x : Term) → StandsAt t s i x → (X : Events) {w : Wait} → waiting_in i x X ≡ some w
      → OwnView t i (is_test (kind (prog x)) (head x).phase) (waits_itself (kind (prog x)) (head x).phase) x
  unfolding kind prog own_wait waiting_in lacks
  own_view_of (done p) h X e = nothing_there e
  own_view_of nothing h X e = nothing_there e
  own_view_of stop h X e = nothing_there e
  own_view_of (atom a) h X e = nothing_there e
  own_view_of (generate s) h X e = nothing_there e
  own_view_of (await c) h X e = tests c (test_below h.placed c refl) (argued t i _ h.placed.spelled) (λ Y. refl)
  own_view_of (seq0 u q) h X e = neither (λ Y. refl)
  own_view_of (seq2 p u) h X e = neither (λ Y. refl)
  own_view_of (par α β u v) h X e = neither (λ Y. refl)
  own_view_of (loop0 p) h X e = nothing_there e
  own_view_of (loop1 u) h X e = neither (λ Y. refl)
  own_view_of (repeat0 n p) h X e = nothing_there e
  own_view_of (repeat1 (exactly n) k u) h X e = neither (λ Y. refl)
  own_view_of (repeat1 (asked v m) k u) h X e = neither (λ Y. refl)
  own_view_of (when0 c p q) h X e = tests c (test_below h.placed c refl) (argued t i _ h.placed.spelled) (λ Y. refl)
  own_view_of (when1 c u q) h X e = neither (λ Y. refl)
  own_view_of (when2 c p u) h X e = neither (λ Y. refl)
  own_view_of (until0 c u q) h X e = neither (λ Y. refl)
  own_view_of (until* c u q) h X e = tests c (test_below h.placed c refl) (argued t i _ h.placed.spelled) (λ Y. refl)
  own_view_of (until2 c p u) h X e = neither (λ Y. refl)
  own_view_of (control s u) h X e = let a = argued t i _ h.placed.spelled in itself {x = control s u} (λ Y. rw a)
  own_view_of (local true s u) h X e = neither (λ Y. refl)
  own_view_of (local false s u) h X e = neither (λ Y. refl)
  own_view_of (freezable0 s u) h X e = neither (λ Y. refl)
  own_view_of (freezable* s u) h X e = let a = argued t i _ h.placed.spelled in itself {x = freezable* s u} (λ Y. rw a)
  own_view_of (if0 v p q) h X e = nothing_there e
  own_view_of (if1 v u q) h X e = neither (λ Y. refl)
  own_view_of (if2 v p u) h X e = neither (λ Y. refl)

  module _ {x : Term} (h : StandsAt t s i x) (X : Events) {w : Wait} (e : waiting_in i x X ≡ some w) {k ph : ℕ}
      (kind_read : k ≡ kind_at t i) (phase_read : ph ≡ get_or s (4 * i) 0) where
    view : OwnView t i (is_test k ph) (waits_itself k ph) x
    view = rw (kind_read ∙ kind_is h, phase_read ∙ phase_is h) (own_view_of x h X e)

    -- by the code's tests
    pub test_waits : is_test k ph ≡ true → (r : Answer ℕ) → ((c : Config) → Configured t (tested t i) c → Tells (lacks c X) r) → Tells (own_wait x X) r
    test_waits y r l = go (subst (λ b. OwnView t i b (waits_itself k ph) x) y view)
      where
        go : {b : Bool} → OwnView t i true b x → Tells (own_wait x X) r
        go (tests c among there own) = rw (own X) (l c there)

    pub test_there : is_test k ph ≡ true → ConfigurationAt t (tested t i)
    test_there y = go (subst (λ b. OwnView t i b (waits_itself k ph) x) y view)
      where
        go : {b : Bool} → OwnView t i true b x → ConfigurationAt t (tested t i)
        go (tests c among there own) =
            configuration_there t h.placed.loaded.configurations_good h.placed.loaded.framed (argument_at t i) among

    both_read : {a b : Bool} → is_test k ph ≡ a → waits_itself k ph ≡ b → OwnView t i a b x
    both_read {a} {b} y z = subst (λ q. OwnView t i a q x) z (subst (λ q. OwnView t i q (waits_itself k ph) x) y view)

    pub itself_waits : is_test k ph ≡ false → waits_itself k ph ≡ true → own_wait x X ≡ cond (X (argument_at t i)) none (some (argument_at t i))
    itself_waits y z = go (both_read y z)
      where
        go : OwnView t i false true x → own_wait x X ≡ cond (X (argument_at t i)) none (some (argument_at t i))
        go (itself own) = own X

    pub no_own : is_test k ph ≡ false → waits_itself k ph ≡ false → own_wait x X ≡ none
    no_own y z = go (both_read y z)
      where
        go : OwnView t i false false x → own_wait x X ≡ none
        go (neither own) = own X

-- such a node names an event
names_event : (t : List ℕ) (k ph : ℕ) → waits_itself k ph ≡ true → argument_limit t k ≡ events t
unfolding argument_limit
names_event t k ph z =
    either_true _ _ z (λ e. rw (eqb-true k 11 e)) (λ e. rw (eqb-true k 13 (both {a = eqb k 13} e).0))

event_below : {t s : List ℕ} {i k : ℕ} {x : Term} → StandsAt t s i x → k ≡ kind_at t i → waits_itself k (byte s (4 * i)) ≡ true
    → argument_at t i < places
event_below {t} {s} {i} {k} h e z =
    let limit = names_event t k (byte s (4 * i)) z in
    let below = (fine_at h.placed).argument_below in
    omega (arith, h.placed.loaded.framed.v_most, ap (argument_limit t) (e ∙ kind_is h))

-- a node that waits for its own event, which is present, or isn't
pub event_holds : (X : Events) {s : ℕ} {o : Option ℕ} → o ≡ cond (X s) none (some s) → X s ≡ true → Tells o None
event_holds X e y = rw (e, y)

pub event_tells : {s r : ℕ} → r ≡ s → (X : Events) {o : Option ℕ} → o ≡ cond (X s) none (some s) → X s ≡ false → Tells o (Some r)
event_tells r_is X e y = rw (e, y, r_is)

-- a node that waits by itself is the one
own_named : {i a : ℕ} {w : Wait} → some (record { node = i; event = a }) ≡ some w → (i ≡ w.node) × (a ≡ w.event)
own_named e = (cc, cc)

by_test : {i a : ℕ} {w : Wait} (o : Option ℕ) → o ≡ some a → waits_for i o ≡ some w → (i ≡ w.node) × (a ≡ w.event)
by_test {i} o n e = own_named (ap (waits_for i) (sym n) ∙ e)

by_control : {i a : ℕ} {w : Wait} (s : ℕ) (o : Option Wait) (b : Bool) → cond b none (some s) ≡ some a
    → cond b o (some (record { node = i; event = s })) ≡ some w
    → (i ≡ w.node) × (a ≡ w.event)
by_control s o true n e = nothing_there n
by_control {i} {a} s o false n e = let z : s ≡ a = cc in rw (← z) (own_named e)

pub here : (x : Term) {i a : ℕ} (X : Events) {w : Wait} → own_wait x X ≡ some a → waiting_in i x X ≡ some w
    → (i ≡ w.node) × (a ≡ w.event)
unfolding own_wait waiting_in
here (done p) X n e = nothing_there n
here nothing X n e = nothing_there n
here stop X n e = nothing_there n
here (atom a) X n e = nothing_there n
here (generate s) X n e = nothing_there n
here (await c) X n e = by_test (lacks c X) n e
here (seq0 t q) X n e = nothing_there n
here (seq2 p t) X n e = nothing_there n
here (par α β t u) X n e = nothing_there n
here (loop0 p) X n e = nothing_there n
here (loop1 t) X n e = nothing_there n
here (repeat0 m p) X n e = nothing_there n
here (repeat1 m k t) X n e = nothing_there n
here (when0 c p q) X n e = by_test (lacks c X) n e
here (when1 c t q) X n e = nothing_there n
here (when2 c p t) X n e = nothing_there n
here (until0 c t q) X n e = nothing_there n
here (until* c t q) X n e = by_test (lacks c X) n e
here (until2 c p t) X n e = nothing_there n
here (control s t) {i = i} X n e = by_control s (waiting_in (suc i) t X) (X s) n e
here (local b s t) X n e = nothing_there n
here (freezable0 s t) X n e = nothing_there n
here (freezable* s t) X n e = by_test (lacks (Event s) X) n e
here (if0 v p q) X n e = nothing_there n
here (if1 v t q) X n e = nothing_there n
here (if2 v p t) X n e = nothing_there n

-- else its child leads there
pub record Goes (t s : List ℕ) (i j : ℕ) (X : Events) (w : Wait) : Type 0 where
  pub further : i < j
  pub onward : Leads t s j X w

waits_not : (i : ℕ) {w : Wait} {A : Type 0} (o : Option ℕ) → o ≡ none → waits_for i o ≡ some w → A
waits_not i o n e = nothing_there (ap (waits_for i) (sym n) ∙ e)

lets_on : (s : ℕ) {w : Wait} {o : Option Wait} (v : Option Wait) (b : Bool) → cond b none (some s) ≡ none → cond b o v ≡ some w → o ≡ some w
lets_on s v true n e = e
lets_on s v false n e = nothing_there (sym n)

first_flag : (α β : Flag) → (code α + 4 * code β) % 4 ≡ code α
first_flag SUSP β = omega arith
first_flag STOP β = omega arith
first_flag TERM β = omega arith

module _ {t s : List ℕ} {i : ℕ} {w : Wait} {x : Term} (h : StandsAt t s i x) (X : Events) (y : Term) where
  to_only : One (prog x) (prog y) → below x ≡ state_bytes y → waiting_in (suc i) y X ≡ some w → Goes t s i (i + 1) X w
  to_only f b e =
      let next : suc i ≡ i + 1 = omega arith in
      record { further = omega arith; onward = record { term = y; stands = only_child h y f b; leads = rw next at e } }

  to_first : {r : Program} → Two (prog x) (prog y) r → (back : List ℕ) → below x ≡ state_bytes y ++ back → waiting_in (suc i) y X ≡ some w
      → Goes t s i (i + 1) X w
  to_first f back b e =
      let next : suc i ≡ i + 1 = omega arith in
      record { further = omega arith; onward = record { term = y; stands = first_child h y f back b; leads = rw next at e } }

  to_second : {q : Program} → Two (prog x) q (prog y) → (front : List ℕ) → length front ≡ 4 * size q → below x ≡ front ++ state_bytes y
      → waiting_in (suc i + size q) y X ≡ some w
      → Goes t s i (second_child t i) X w
  to_second f front l b e =
      let next = second_index h y f in
      record { further = omega arith; onward = record { term = y; stands = second_child_lem h y f front l b; leads = rw next at e } }

zeros_long : (p : Program) → length (zeros p) ≡ 4 * size p
zeros_long p = length-replicate {A = ℕ} (4 * size p) 0

module _ {t s : List ℕ} {i : ℕ} {w : Wait} (X : Events) where
  goes : (x : Term) → StandsAt t s i x → own_wait x X ≡ none → waiting_in i x X ≡ some w
      → Goes t s i (next_node t i (kind (prog x)) (head x).phase (head x).flags) (inside_events (kind (prog x)) (argument_at t i) (head x).phase X) w
  unfolding kind prog own_wait waiting_in below
  goes (done p) h n e = nothing_there e
  goes nothing h n e = nothing_there e
  goes stop h n e = nothing_there e
  goes (atom a) h n e = nothing_there e
  goes (generate s) h n e = nothing_there e
  goes (await c) h n e = waits_not i (lacks c X) n e
  goes (seq0 u q) h n e = to_first h _ u (Program.seq (prog u) q) (zeros q) refl e
  goes (seq2 p u) h n e = to_second h _ u (Program.seq p (prog u)) (zeros p) (zeros_long p) refl e
  goes (par SUSP β u v) h n e = rw (first_flag SUSP β) (to_first h _ u (Program.par (prog u) (prog v)) (state_bytes v) refl e)
  goes (par STOP β u v) h n e = rw (first_flag STOP β) (to_second h _ v (Program.par (prog u) (prog v)) (state_bytes u) (len_bytes u) refl e)
  goes (par TERM β u v) h n e = rw (first_flag TERM β) (to_second h _ v (Program.par (prog u) (prog v)) (state_bytes u) (len_bytes u) refl e)
  goes (loop0 p) h n e = nothing_there e
  goes (loop1 u) h n e = to_only h _ u (Program.loop (prog u)) refl e
  goes (repeat0 m p) h n e = nothing_there e
  goes (repeat1 (exactly m) k u) h n e = to_only h _ u (Program.repeat (exactly m) (prog u)) refl e
  goes (repeat1 (asked v m) k u) h n e = to_only h _ u (Program.repeat (asked v m) (prog u)) refl e
  goes (when0 c p q) h n e = waits_not i (lacks c X) n e
  goes (when1 c u q) h n e = to_first h _ u (Program.when c (prog u) q) (zeros q) refl e
  goes (when2 c p u) h n e = to_second h _ u (Program.when c p (prog u)) (zeros p) (zeros_long p) refl e
  goes (until0 c u q) h n e = to_first h _ u (Program.until c (prog u) q) (zeros q) refl e
  goes (until* c u q) h n e = waits_not i (lacks c X) n e
  goes (until2 c p u) h n e = to_second h _ u (Program.until c p (prog u)) (zeros p) (zeros_long p) refl e
  goes (control s u) h n e = to_only h _ u (Program.control s (prog u)) refl (lets_on s (some (record { node = i; event = s })) (X s) n e)
  goes (local true s u) h n e =
      let a = argued t i _ h.placed.spelled in
      rw (a, lt-ltb s places (local_placed h.placed)) (to_only h _ u (Program.local s (prog u)) refl e)
  goes (local false s u) h n e =
      let a = argued t i _ h.placed.spelled in
      rw a (to_only h _ u (Program.local s (prog u)) refl e)
  goes (freezable0 s u) h n e = to_only h _ u (Program.freezable s (prog u)) refl e
  goes (freezable* s u) h n e = waits_not i (lacks (Event s) X) n e
  goes (if0 v p q) h n e = nothing_there e
  goes (if1 v u q) h n e = to_first h _ u (Program.if v (prog u) q) (zeros q) refl e
  goes (if2 v p u) h n e = to_second h _ u (Program.if v p (prog u)) (zeros p) (zeros_long p) refl e

  -- by the bytes
  pub goes_on : {x : Term} → StandsAt t s i x → own_wait x X ≡ none → waiting_in i x X ≡ some w
      → Goes t s i (next_of t s i) (inside_of t s i X) w
  goes_on {x} h n e = rw (kind_is h, phase_is h, flags_are h) (goes x h n e)

-- the way from node 0 leads to one test
some_same : {v w : Wait} → some v ≡ some w → v ≡ w
some_same e = cc

pub one_end : {t s : List ℕ} {X : Events} {v w : Wait} → Leads t s 0 X v → Leads t s 0 X w → v ≡ w
one_end {X = X} a b =
    some_same (sym a.leads ∙ (ap (λ x. waiting_in 0 x X) (one_standing a.term b.term a.stands b.stands) ∙ b.leads))

-- a step further there are fewer nodes left
pub fewer : {t s : List ℕ} {i j : ℕ} {X Y : Events} {v w : Wait} → Leads t s i X v → Goes t s i j Y w → nodes t - j < nodes t - i
fewer a g = omega (arith, g.further, own_node a.stands.placed)
