-- When a line of the bench list is what instant answers: by what is to be seen of it, which computes.
use Prim.Native.Nat.{ℕ, zero, suc, ◌*◌, ◌/◌, ◌^◌, ◌≤◌, ◌<◌}
use mathlib.Core.Bool.{Bool, true, false, cond, ◌&&◌}
use mathlib.Core.Path.{◌≡◌, refl, ap, sym, subst, ◌∙◌, fun_ext}
use mathlib.Core.Logic.{◌≢◌}
use mathlib.Core.List.{List, [], ◌∷◌, ◌++◌}
use mathlib.Core.Option.{Option}
use native.Mathlib.Omega.{arith}
use lib.Dec.{eqb, leb, ltb}
use lib.ListN.{length, get_or, drop, length-append}
use lib.Seq.{take_at, drop_at}
use borrow.Author.Tests.{eqb-true, eqb-false, ltb-true, ltb-false, ne_eqb, le-leb, le-ltb}
use Rattle.events.specs.declared.EventSet.{EventSet}
use Rattle.events.specs.Events.{Events, none, how_many, lowest}
use Rattle.events.specs.Members.{places, members, Whole}
use Rattle.events.proofs.Events.{lowest_is}
use Rattle.events.proofs.Sets.{members_past}
use Rattle.junior.specs.Configuration.{handed_in}
use Rattle.junior.specs.Term.{Term, prog}
use Rattle.junior.specs.Trace.{atoms, generations, parks}
use Rattle.junior.specs.Rules.{left_first, Result}
use Rattle.junior.specs.Instant.{Instant}
use Rattle.junior.specs.AtRest.{AtRest}
use Rattle.junior.specs.Waited.{Wait, waited}
use Rattle.junior.proofs.Grows.{among, only_generated_in_all}
use Rattle.junior.proofs.Waited.{one_waited}
use Rattle.std.specs.Prelude.{Ok, Err}
use Rattle.table.specs.Records.{nodes, events}
use Rattle.table.specs.Spells.{tree_of}
use Rattle.table.specs.Verdict.{accepted_with, ending, verdict_of}
use Rattle.table.proofs.Laid.{both}
use Rattle.state.specs.StateBytes.{state_bytes}
use Rattle.state.proofs.Parts.{len_bytes}
use Rattle.state.specs.Pieces.{pieces_bytes}
use Rattle.state.specs.Resting.{blamed}
use Rattle.state.proofs.Blameless.{resting}
use Rattle.store.specs.Store.{adding}
use Rattle.kernel.specs.declared.Refusal.TheVariants.{StateRoom, NotAtRest, UnlistedEvent, AtomRoom}
use Rattle.kernel.specs.Answer.{Outcome, fields_of, Rooms, rooms, outcome_number, outcome_index, on_accepted, has_room, store_outcome, instant_outcome, ended, node_of, event_at}
use Rattle.kernel.specs.Answer.{values_of, Answered}
use Rattle.kernel.specs.Bench.{Line, Answers}
use Rattle.kernel.proofs.Accepted.{admitted}
use Rattle.kernel.proofs.Replies.{same_numbers, by_run, by_keeping}
use Rattle.kernel.proofs.Outcomes.{instant_is}
use Rattle.kernel.proofs.OneAnswer.{one_instant}

-- The lowest event, looked for from the last one down, which computes in as many steps as there are events: f, or the lowest of the first n.
unfoldable pub down_from : ℕ → Events → ℕ → ℕ
down_from zero X f = f
down_from (suc n) X f = down_from n X (cond (X n) n f)

-- f is the lowest of the first m, but perhaps for the first n
record Above (m n : ℕ) (X : Events) (f : ℕ) : Type 0 where
  from : n ≤ f
  within : f ≤ m
  absent : (k : ℕ) → n ≤ k → k < f → X k ≡ false
  there : f < m → X f ≡ true

from_above : (m n : ℕ) (X : Events) (f : ℕ) → Above m n X f → down_from n X f ≡ lowest m X
unfolding down_from
from_above m zero X f h = lowest_is m f X h.within (λ k l. h.absent k (omega arith) l) h.there
from_above m (suc n) X f h = from_above m n X (cond (X n) n f) (go (X n) refl)
  where
    go : (p : Bool) → X n ≡ p → Above m n X (cond p n f)
    go true e =
        let l = h.from in
        let w = h.within in
        record { from = omega arith; within = omega arith; absent = λ k a b. absurd (omega arith); there = λ g. e }
    go false e =
        let l = h.from in
        record { from = omega arith; within = h.within; absent = λ k a b. or_n k a b (eqb k n) refl; there = h.there }
      where
        or_n : (k : ℕ) → n ≤ k → k < f → (q : Bool) → eqb k n ≡ q → X k ≡ false
        or_n k a b true q = rw (eqb-true k n q) e
        or_n k a b false q = let other = eqb-false k n q in h.absent k (omega arith) b

abbrev pub sought : Events → ℕ
sought X = down_from places X places

sought_is : (X : Events) → sought X ≡ lowest places X
sought_is X =
    from_above places places X places
    (record { from = omega arith; within = omega arith; absent = λ k a b. absurd (omega arith); there = λ g. absurd (omega arith) })

-- an instant's outcome, with the event that isn't listed so looked for
abbrev sought_unlisted : List ℕ → Events → ℕ
sought_unlisted t X = sought (λ e. X e && leb (events t) e)

abbrev pub sought_outcome : List ℕ → List ℕ → Events → Rooms → Outcome
sought_outcome t s X lent =
    on_accepted (verdict_of t) (λ a f.
    cond
    (has_room t s)
    (cond
    (ltb (blamed t s) (nodes t))
    (Err (NotAtRest (blamed t s)))
    (cond
    (ltb (sought_unlisted t X) places)
    (Err (UnlistedEvent (sought_unlisted t X)))
    (cond (leb a (length lent.row)) (store_outcome t lent.store f) (Err AtomRoom))))
    (Err StateRoom))

pub sought_is_outcome : (t s : List ℕ) (X : Events) (lent : Rooms) → sought_outcome t s X lent ≡ instant_outcome t s X lent
unfolding instant_outcome
sought_is_outcome t s X lent = rw (sought_is (λ e. X e && leb (events t) e))

-- Sets: two are the same if they are so in their places and neither has an event without one.

-- which of the first n events are present
unfoldable pub signs : ℕ → Events → List Bool
signs zero X = []
signs (suc n) X = X n ∷ signs n X

same_signs : (n : ℕ) (X Y : Events) → signs n X ≡ signs n Y → (k : ℕ) → k < n → X k ≡ Y k
unfolding signs
same_signs zero X Y e k h = absurd (omega arith)
same_signs (suc n) X Y e k h =
    let here : X n ≡ Y n = cc in
    let below : signs n X ≡ signs n Y = cc in
    go (eqb k n) refl here (same_signs n X Y below k)
  where
    go : (b : Bool) → eqb k n ≡ b → X n ≡ Y n → (k < n → X k ≡ Y k) → X k ≡ Y k
    go true q here f = rw (eqb-true k n q) here
    go false q here f = let l = eqb-false k n q in f (omega arith)

-- as many words as there are places for, of 64 bits each
unfoldable pub fit : List ℕ → Bool
fit [] = true
fit (w ∷ l) = ltb w (2 ^ 64) && fit l

abbrev pub whole : EventSet → Bool
whole s = eqb (length s.words) (places / 64) && fit s.words

fit_at : (l : List ℕ) → fit l ≡ true → (q : ℕ) → get_or l q 0 < 2 ^ 64
unfolding fit
fit_at [] e q = omega arith
fit_at (w ∷ l) e zero = ltb-true w (2 ^ 64) (both {a = ltb w (2 ^ 64)} e).0
fit_at (w ∷ l) e (suc q) = fit_at l (both {a = ltb w (2 ^ 64)} e).1 q

pub whole_is : (s : EventSet) → whole s ≡ true → Whole s
whole_is s e =
    let (long, fits) = both {a = eqb (length s.words) (places / 64)} e in
    record { long = eqb-true (length s.words) (places / 64) long; fits = fit_at s.words fits }

-- a set whose signs are those of X, where X has no event without a place
same_set : (s : EventSet) (X : Events) → Whole s → signs places (members s) ≡ signs places X → ((n : ℕ) → places ≤ n → X n ≡ false)
    → members s ≡ X
same_set s X w e past = fun_ext (λ n. go n (ltb n places) refl)
  where
    go : (n : ℕ) (b : Bool) → ltb n places ≡ b → members s n ≡ X n
    go n true l = same_signs places (members s) X e n (ltb-true n places l)
    go n false l = let h = ltb-false n places l in members_past s w n h ∙ sym (past n h)

-- all of a list have a place
unfoldable pub placed : List ℕ → Bool
placed [] = true
placed (x ∷ l) = ltb x places && placed l

not_among : (l : List ℕ) → placed l ≡ true → (s : ℕ) → places ≤ s → among s l ≡ false
unfolding placed among
not_among [] e s h = refl
not_among (x ∷ l) e s h =
    let (here, later) = both {a = ltb x places} e in
    let b = ltb-true x places here in
    rw (ne_eqb s x (λ z. omega arith)) (not_among l later s h)

-- What a line says, with its sets as their signs; whether the sets are whole, and every event generated has a place.
pub record Seen : Type 0 where
  pub outcome : Outcome
  pub number : ℕ
  pub index : ℕ
  pub events : List Bool
  pub count : ℕ
  pub lowest : ℕ
  pub atoms : ℕ
  pub finished : Bool
  pub passes : ℕ
  pub waits_node : ℕ
  pub waits_event : ℕ
  pub state : List ℕ
  pub left : Rooms
  pub handed_whole : Bool
  pub reported_whole : Bool
  pub generated_placed : Bool

abbrev pub seen : Line → Seen
seen y = record {
  outcome = ending y.answer;
  number = y.number;
  index = y.index;
  events = signs places (members (fields_of y.answer).events);
  count = (fields_of y.answer).count;
  lowest = (fields_of y.answer).lowest;
  atoms = (fields_of y.answer).atoms;
  finished = (fields_of y.answer).finished;
  passes = (fields_of y.answer).passes;
  waits_node = (fields_of y.answer).waits.node;
  waits_event = (fields_of y.answer).waits.event;
  state = y.state;
  left = y.left;
  handed_whole = whole y.handed;
  reported_whole = whole (fields_of y.answer).events;
  generated_placed = true;
}

-- what is to be seen of an instant that ran, n passes and the result r, reporting w, in a room with b behind the state's bytes
abbrev pub seen_run : Line → List ℕ → Outcome → ℕ → Result → Option Wait → Seen
seen_run y b o n r w = record {
  outcome = o;
  number = outcome_number o;
  index = outcome_index o;
  events = signs places r.env.now;
  count = how_many places r.env.now;
  lowest = sought r.env.now;
  atoms = length (atoms r.acts);
  finished = ended r.flag;
  passes = n;
  waits_node = node_of w;
  waits_event = event_at w;
  state = state_bytes r.to ++ b;
  left = rooms (atoms r.acts ++ drop (length (atoms r.acts)) y.lent.row) (adding (pieces_bytes (parks r.acts)) y.lent.store);
  handed_whole = true;
  reported_whole = true;
  generated_placed = placed (generations r.acts);
}

-- and of one that was refused in the room s
abbrev pub seen_refused : Line → List ℕ → Outcome → Seen
seen_refused y s o = record {
  outcome = o;
  number = outcome_number o;
  index = outcome_index o;
  events = signs places none;
  count = 0;
  lowest = places;
  atoms = 0;
  finished = false;
  passes = 0;
  waits_node = 4096;
  waits_event = places;
  state = s;
  left = y.lent;
  handed_whole = whole y.handed;
  reported_whole = true;
  generated_placed = true;
}

-- a table accepted with A = a and F = f; a state room that a term at rest stands in: only events, row and store are left to be refused
abbrev pub past_rest : List ℕ → ℕ → ℕ → Line → Outcome
past_rest t a f y =
    cond
    (ltb (sought_unlisted t (members y.handed)) places)
    (Err (UnlistedEvent (sought_unlisted t (members y.handed))))
    (cond (leb a (length y.lent.row)) (store_outcome t y.lent.store f) (Err AtomRoom))

-- the room in which x stands has 4N bytes of it in front
room_long : (t : List ℕ) {g a w f : ℕ} → verdict_of t ≡ accepted_with g a w f → (x : Term) → prog x ≡ tree_of t → length (state_bytes x) ≡ 4 * nodes t
room_long t v x e = rw (len_bytes x, e, (admitted t v).whole)

pub outcome_past_rest : (t : List ℕ) {g a w f : ℕ} → verdict_of t ≡ accepted_with g a w f → (b : List ℕ) (x : Term) → prog x ≡ tree_of t
    → AtRest x
    → (y : Line)
    → past_rest t a f y ≡ instant_outcome t (state_bytes x ++ b) (members y.handed) y.lent
outcome_past_rest t v b x e rest y =
    let s : List ℕ = state_bytes x ++ b in
    let long = room_long t v x e in
    let room : 4 * nodes t ≤ length s = rw (length-append (state_bytes x) b) (omega arith) in
    let calm = resting t s (admitted t v).placed x e (take_at (state_bytes x) b (4 * nodes t) long) rest in
    rw (
      sought_is (λ e. members y.handed e && leb (events t) e),
      instant_is t s v (members y.handed) y.lent,
      le-leb (4 * nodes t) (length s) room,
      le-ltb (blamed t s) (nodes t) (omega arith),
    )

-- a line that is seen so is what instant answers, and nothing else
pub only_answers : {t s : List ℕ} {y : Line} → Answered t s (members y.handed) (values_of y.values) y.lent y.state y.left y.answer
    → Whole (fields_of y.answer).events
    → outcome_number (ending y.answer) ≡ y.number
    → outcome_index (ending y.answer) ≡ y.index
    → Answers t s y
only_answers {y = y} a w n i =
    let (number, index) = same_numbers y.answer in
    record { answered = a; only = λ u q. one_instant u w q a; number_is = number ∙ n; index_is = index ∙ i }

pub run_answers : (t : List ℕ) {g a w f : ℕ} → verdict_of t ≡ accepted_with g a w f → (b : List ℕ) (x : Term) → prog x ≡ tree_of t
    → AtRest x
    → (y : Line)
    → {n : ℕ} {r : Result}
    → (i : Instant (left_first (values_of y.values)) x (handed_in (members y.handed)) n r)
    → ending y.answer ≡ Ok tt
    → seen_run y b (past_rest t a f y) n r (waited i) ≡ seen y
    → Answers t (state_bytes x ++ b) y
run_answers t v b x e rest y {n} {r} i ran s =
    let long = room_long t v x e in
    let handed = whole_is y.handed (sym (ap (λ z. z.handed_whole) s)) in
    let reported = whole_is (fields_of y.answer).events (sym (ap (λ z. z.reported_whole) s)) in
    let placed_all = ap (λ z. z.generated_placed) s in
    let outcome = ap (λ z. z.outcome) s in
    let past : (k : ℕ) → places ≤ k → r.env.now k ≡ false =
    λ k h. only_generated_in_all i k (not_among (generations r.acts) placed_all k h) (members_past y.handed handed k h) in
    let atoms_are = sym (ap (λ z. z.atoms) s) in
    let instant : Instant (left_first (values_of y.values)) x (handed_in (members y.handed)) (fields_of y.answer).passes r =
    subst (λ m. Instant (left_first (values_of y.values)) x (handed_in (members y.handed)) m r) (ap (λ z. z.passes) s) i in
    let reports = one_waited i instant in
    only_answers
    (by_run y.answer (sym outcome ∙ outcome_past_rest t v b x e rest y) ran
    (record {
      term = x;
      program = e;
      bytes = take_at (state_bytes x) b (4 * nodes t) long;
      at_rest = rest;
      result = r;
      instant = instant;
      events_are = same_set (fields_of y.answer).events r.env.now reported (sym (ap (λ z. z.events) s)) past;
      count_is = sym (ap (λ z. z.count) s);
      lowest_is = sym (ap (λ z. z.lowest) s) ∙ sought_is r.env.now;
      atoms_are = atoms_are;
      finished_is = sym (ap (λ z. z.finished) s);
      waits_node_is = sym (ap (λ z. z.waits_node) s) ∙ ap node_of reports;
      waits_event_is = sym (ap (λ z. z.waits_event) s) ∙ ap event_at reports;
      state_is = rw (drop_at (state_bytes x) b (4 * nodes t) long) (sym (ap (λ z. z.state) s));
      row_is = rw atoms_are (sym (ap (λ z. z.left.row) s));
      store_is = sym (ap (λ z. z.left.store) s);
    }))
    reported
    (ap outcome_number (sym outcome) ∙ ap (λ z. z.number) s)
    (ap outcome_index (sym outcome) ∙ ap (λ z. z.index) s)

pub refused_answers : (t s : List ℕ) (y : Line) (o : Outcome) → o ≡ instant_outcome t s (members y.handed) y.lent
    → ending y.answer ≢ Ok tt
    → seen_refused y s o ≡ seen y
    → Answers t s y
refused_answers t s y o i n e =
    let reported = whole_is (fields_of y.answer).events (sym (ap (λ z. z.reported_whole) e)) in
    let outcome = ap (λ z. z.outcome) e in
    only_answers
    (by_keeping y.answer (sym outcome ∙ i) n (sym (ap (λ z. z.state) e), sym (ap (λ z. z.left) e)))
    reported
    (ap outcome_number (sym outcome) ∙ ap (λ z. z.number) e)
    (ap outcome_index (sym outcome) ∙ ap (λ z. z.index) e)
