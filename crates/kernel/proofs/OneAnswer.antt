-- No input of check, start or instant allows two answers or two contents of a room.
use mathlib.Core.Path.{◌≡◌, ap, sym, subst, ◌∙◌}
use mathlib.Core.List.{List, ◌++◌}
use Prim.Native.Nat.{ℕ, suc, ◌*◌, ◌^◌, ◌<◌}
use native.Mathlib.Omega.{arith}
use lib.ListN.{length, get_or, drop}
use Rattle.events.specs.declared.EventSet.{EventSet}
use Rattle.events.specs.Events.{Events, how_many, lowest}
use Rattle.events.specs.Members.{places, members, Whole}
use Rattle.events.proofs.Sets.{same_members}
use Rattle.junior.specs.Values.{Values}
use Rattle.junior.specs.Configuration.{Env}
use Rattle.junior.specs.Term.{Term}
use Rattle.junior.specs.Trace.{atoms, parks}
use Rattle.junior.specs.Rules.{left_first, Result}
use Rattle.junior.specs.Instant.{Instant}
use Rattle.junior.specs.Waited.{waited}
use Rattle.junior.proofs.Deterministic.{one_outcome}
use Rattle.junior.proofs.Waited.{one_waited}
use Rattle.std.specs.Prelude.{Ok, Err}
use Rattle.table.specs.Records.{nodes}
use Rattle.table.specs.Verdict.{Verdict, verdict_of}
use Rattle.state.specs.StateBytes.{state_bytes}
use Rattle.state.specs.Pieces.{pieces_bytes}
use Rattle.state.proofs.OneTerm.{one_term}
use Rattle.store.specs.Store.{adding}
use Rattle.kernel.specs.declared.Answer.{Answer}
use Rattle.kernel.specs.Answer.{Outcome, Reply, fields_of, Rooms, started_room, ended, node_of, event_at, Run, Started, Answered}
use Rattle.kernel.proofs.Replies.{no_refusal}
use Rattle.kernel.specs.Exports.{instant_length, start_places, instant_places, StartedInPlaces, AnsweredInPlaces}

pub one_check : (t : List ℕ) (q r : Verdict) → q ≡ verdict_of t → r ≡ verdict_of t → q ≡ r
one_check t q r a b = a ∙ sym b

pub one_start : {t s s₁ s₂ : List ℕ} {q r : Outcome} → Started t s s₁ q → Started t s s₂ r → (q ≡ r) × (s₁ ≡ s₂)
one_start {t} {s} a b =
    let same = a.outcome_is ∙ sym b.outcome_is in
    (same, a.room_is ∙ (ap (λ o. started_room o t s) same ∙ sym b.room_is))

-- two answers are the same if their fields are
same_answer : (q r : Answer) → q.events ≡ r.events → q.count ≡ r.count → q.lowest ≡ r.lowest
    → q.atoms ≡ r.atoms → q.finished ≡ r.finished → q.passes ≡ r.passes
    → q.waits.node ≡ r.waits.node → q.waits.event ≡ r.waits.event → q ≡ r
same_answer q r b c d e f g h k =
    λ i. record {
      events = b i;
      count = c i;
      lowest = d i;
      atoms = e i;
      finished = f i;
      passes = g i;
      waits = record { node = h i; event = k i };
    }

-- and so are two pairs of rooms
same_rooms : (x y : Rooms) → x.row ≡ y.row → x.store ≡ y.store → x ≡ y
same_rooms x y a b = λ i. record { row = a i; store = b i }

-- from one term, however that is said, instants report one test
same_waited : {value : Values} {x y : Term} {E : Env} {m n : ℕ} {r s : Result} → x ≡ y
    → (i : Instant (left_first value) x E m r) (j : Instant (left_first value) y E n s)
    → waited i ≡ waited j
same_waited {value} {E = E} {n = n} {s = s} e i j =
    subst (λ z. (k : Instant (left_first value) z E n s) → waited i ≡ waited k) e (λ k. one_waited i k) j

same_events : (x y : EventSet) → Whole x → Whole y → members x ≡ members y → x ≡ y
same_events x y f g e = same_members x y f g (λ n h. ap (λ X. X n) e)

module _ {q r : Answer} (f : Whole q.events) (g : Whole r.events) where
  -- two that ran: the state has one term, and the rules one result
  same_run : {t s : List ℕ} {X : Events} {value : Values} {lent : Rooms} {s₁ s₂ : List ℕ} {left₁ left₂ : Rooms} → Run t s X value lent s₁ left₁ q
      → Run t s X value lent s₂ left₂ r
      → (q ≡ r) × (s₁ ≡ s₂) × (left₁ ≡ left₂)
  same_run {t} {s} {lent = lent} {left₁ = left₁} {left₂ = left₂} x y =
      let term_is = one_term y.term x.term (y.program ∙ sym x.program) (sym y.bytes ∙ x.bytes) in
      let (passes_are, result_is) = one_outcome x.instant (rw term_is at y.instant) in
      let reports = same_waited (sym term_is) x.instant y.instant in
      let atoms_are = x.atoms_are ∙ (ap (λ z. length (atoms z.acts)) result_is ∙ sym y.atoms_are) in (
        same_answer q r
            (same_events q.events r.events f g (x.events_are ∙ (ap (λ z. z.env.now) result_is ∙ sym y.events_are)))
            (x.count_is ∙ (ap (λ z. how_many places z.env.now) result_is ∙ sym y.count_is))
            (x.lowest_is ∙ (ap (λ z. lowest places z.env.now) result_is ∙ sym y.lowest_is))
            atoms_are
            (x.finished_is ∙ (ap (λ z. ended z.flag) result_is ∙ sym y.finished_is))
            passes_are
            (x.waits_node_is ∙ (ap node_of reports ∙ sym y.waits_node_is))
            (x.waits_event_is ∙ (ap event_at reports ∙ sym y.waits_event_is)),
        x.state_is ∙ (ap (λ z. state_bytes z.to ++ drop (4 * nodes t) s) result_is ∙ sym y.state_is),
        same_rooms left₁ left₂
            (x.row_is
            ∙ (ap (λ z. atoms z.acts ++ drop q.atoms lent.row) result_is
            ∙ (ap (λ n. atoms y.result.acts ++ drop n lent.row) atoms_are ∙ sym y.row_is)))
            (x.store_is ∙ (ap (λ z. adding (pieces_bytes (parks z.acts)) lent.store) result_is ∙ sym y.store_is)),
      )

-- what a running program holds as a set of events is Whole (`whole` in crate events, proofs/Sets)
pub one_instant : {t s : List ℕ} {X : Events} {value : Values} {lent : Rooms} {s₁ s₂ : List ℕ} {left₁ left₂ : Rooms} {q r : Reply}
    → Whole (fields_of q).events → Whole (fields_of r).events
    → Answered t s X value lent s₁ left₁ q
    → Answered t s X value lent s₂ left₂ r
    → (q ≡ r) × (s₁ ≡ s₂) × (left₁ ≡ left₂)
one_instant {t} {s} {X} {value} {lent} {s₁ = s₁} {s₂ = s₂} {left₁ = left₁} {left₂ = left₂} {q = q} {r = r} f g a b = go q r f g a b
  where
    go : (q r : Reply) → Whole (fields_of q).events → Whole (fields_of r).events
        → Answered t s X value lent s₁ left₁ q → Answered t s X value lent s₂ left₂ r
        → (q ≡ r) × (s₁ ≡ s₂) × (left₁ ≡ left₂)
    go (Ok q) (Ok r) f g a b = let (same, state, rooms) = same_run f g a.leaves b.leaves in (ap Ok same, state, rooms)
    go (Ok q) (Err v) f g a b = absurd (no_refusal (b.outcome_is ∙ sym a.outcome_is))
    go (Err u) (Ok r) f g a b = absurd (no_refusal (a.outcome_is ∙ sym b.outcome_is))
    go (Err u) (Err v) f g a b =
        let same : ◌≡◌ {A = Outcome} (Err u) (Err v) = a.outcome_is ∙ sym b.outcome_is in
        let why : u ≡ v = cc in
        let (x, x_rooms) = a.leaves in
        let (y, y_rooms) = b.leaves in
        (ap Err why, x ∙ sym y, x_rooms ∙ sym y_rooms)

-- the same of the calls for C: an answer's places are what any array of 64-bit numbers is
pub record Places (n : ℕ) (l : List ℕ) : Type 0 where
  pub long : length l ≡ n
  pub fits : (i : ℕ) → get_or l i 0 < 2 ^ 64

pub one_start_in_places : {t s s₁ s₂ p₁ p₂ : List ℕ} → StartedInPlaces t s s₁ p₁ → StartedInPlaces t s s₂ p₂ → (p₁ ≡ p₂) × (s₁ ≡ s₂)
one_start_in_places a b =
    let (o, s) = one_start a.started b.started in
    (a.written ∙ (ap start_places o ∙ sym b.written), s)

whole_in_places : (p : List ℕ) (a : Reply) → Places instant_length p → p ≡ instant_places a → Whole (fields_of a).events
whole_in_places p a l e =
    record {
      long = let n = sym (ap length e) ∙ l.long in omega arith;
      fits = λ q. let n = suc (suc (suc (suc (suc (suc (suc (suc (suc q)))))))) in rw (ap (λ z. get_or z n 0) e) at (l.fits n);
    }

pub one_instant_in_places : {t s words values : List ℕ} {lent : Rooms} {s₁ s₂ : List ℕ} {left₁ left₂ : Rooms} {p₁ p₂ : List ℕ} → Places instant_length p₁ → Places instant_length p₂
    → AnsweredInPlaces t s words values lent s₁ left₁ p₁
    → AnsweredInPlaces t s words values lent s₂ left₂ p₂
    → (p₁ ≡ p₂) × (s₁ ≡ s₂) × (left₁ ≡ left₂)
one_instant_in_places {p₁ = p₁} {p₂ = p₂} f g a b =
    let (r, s, left) =
    one_instant (whole_in_places p₁ a.answer f a.written) (whole_in_places p₂ b.answer g b.written) a.answered b.answered in
    (a.written ∙ (ap instant_places r ∙ sym b.written), s, left)
