-- Request L10, sentence by sentence: the limits, what a configuration's record may be, and that tables of today read and answer as they did.
use Prim.Native.Nat.{ℕ, zero, suc, ◌+◌, ◌/◌, ◌<◌}
use mathlib.Core.Bool.{Bool, true, false, cond, ◌&&◌}
use mathlib.Core.Path.{◌≡◌, refl, sym, ap, ◌∙◌}
use mathlib.Core.Logic.{◌≢◌, ◌⊎◌, inl, inr}
use mathlib.Core.List.{List}
use mathlib.Core.Option.{Option, none, some}
use native.Mathlib.Omega.{arith}
use lib.Dec.{eqb, leb, ltb}
use borrow.Author.Tests.{lt-ltb, ltb-true, ltb-false}
use Rattle.events.specs.Events.{Events, none as no_event, how_many, lowest}
use Rattle.events.specs.Members.{places, members}
use Rattle.events.proofs.Events.{how_many_then, before_lowest, at_lowest, lowest_is}
use Rattle.junior.specs.Values.{Values}
use Rattle.junior.specs.Program.{Program, kind, size}
use Rattle.junior.specs.Figures.{stops, figure}
use Rattle.junior.specs.Waited.{Wait, waited}
use Rattle.std.specs.Prelude.{Ok, Err}
use Rattle.table.specs.Records.{nodes, configurations, events, configuration_at, kind_byte, part_kind, part_event}
use Rattle.table.specs.Good.{is_laid_out, children, argument_limit, good_node, parts, good_but_height, height_at_most, good_configuration}
use Rattle.table.specs.Spells.{configuration_of, form, program_of}
use Rattle.table.specs.Verdict.{accepted_with, ending, preorder, first_such, light, program_verdict, nodes_verdict, records_verdict, verdict_of}
use Rattle.table.specs.Verdict.{length_good, counts_good, distances_good}
use Rattle.table.specs.Inside.{Loaded}
use Rattle.table.proofs.Accepted.{accepted}
use Rattle.table.proofs.Laid.{both, Kind, event, negation, conjunction, disjunction, fine}
use Rattle.state.specs.Resting.{blamed}
use Rattle.store.specs.Store.{store_good}
use Rattle.events.proofs.Words.{marks_zeros}
use Rattle.kernel.specs.Answer.{Outcome, Reply, fields_of, Rooms, has_room, instant_outcome, event_at, Answered}
use Rattle.kernel.specs.TablesBefore.{places_before, HandedBefore, AcceptedBefore, outcome_before, event_before}
use Rattle.kernel.specs.TablesBefore.{AnswerBefore, AnsweredBefore}
use Rattle.kernel.specs.ThousandEvents.{SomeEvent, PartedRecord, ButForNone, SameAnswer, ThousandEvents}
use Rattle.kernel.specs.declared.Refusal.TheVariants.{StateRoom, NotAtRest, UnlistedEvent}
use Rattle.kernel.proofs.Replies.{ran_or_not, no_fields, fields_run, kept}
use Rattle.kernel.proofs.Outcomes.{store_ran}
use Rattle.kernel.proofs.Listed.{reports_listed}
use Rattle.kernel.proofs.TablesBefore.{read_as_before}

-- of no events none is the lowest
lowest_of_none : (n : ℕ) → lowest n no_event ≡ n
lowest_of_none n = sym (lowest_is n n no_event (omega arith) (λ k l. refl) (λ l. absurd (omega arith)))

none_counted : (n : ℕ) → how_many n no_event ≡ 0
unfolding how_many
none_counted zero = refl
none_counted (suc n) = omega (arith, none_counted n)

-- the lowest is the same event, or there is none each time
data Lowest (now before : ℕ) : Type 0 where
  same : now ≡ before → before < places_before → Lowest now before
  neither : now ≡ places → before ≡ places_before → Lowest now before

-- events of before, counted and searched in as many places as before
module _ (X : Events) (h : HandedBefore X) where
  same_lowest : Lowest (lowest places X) (lowest places_before X)
  same_lowest = go (ltb (lowest places_before X) places_before) refl
    where
      low : ℕ
      low = lowest places_before X

      go : (b : Bool) → ltb low places_before ≡ b → Lowest (lowest places X) low
      go true e =
          let l = ltb-true low places_before e in
          let is = lowest_is places low X (omega arith) (before_lowest places_before X) (λ g. at_lowest places_before X l) in
          same (sym is) l
      go false e =
          let l = ltb-false low places_before e in
          let early : (k : ℕ) → k < places_before → X k ≡ false = λ k g. before_lowest places_before X k (omega arith) in
          neither
          (sym (lowest_is places places X (omega arith) (λ k g. absent k (ltb k places_before) refl early) (λ g. absurd (omega arith))))
          (sym (lowest_is places_before places_before X (omega arith) early (λ g. absurd (omega arith))))
        where
          absent : (k : ℕ) (b : Bool) → ltb k places_before ≡ b → ((j : ℕ) → j < places_before → X j ≡ false) → X k ≡ false
          absent k true f early = early k (ltb-true k places_before f)
          absent k false f early = h k (ltb-false k places_before f)

  same_count : how_many places X ≡ how_many places_before X
  same_count =
      let all : how_many places X ≡ how_many places_before X + how_many 768 no_event =
      how_many_then places_before 768 X no_event (λ k l. h (places_before + k) (omega arith)) in
      omega (arith, all, none_counted 768)

but_for_none : {now before : ℕ} → Lowest now before → ButForNone now before
but_for_none (same e l) = inl e
but_for_none (neither e f) = inr (e, f)

listed_alike : {u v : ℕ} (o : Outcome) → Lowest u v
    → cond (ltb u places) (Err (UnlistedEvent u)) o ≡ cond (ltb v places_before) (Err (UnlistedEvent v)) o
listed_alike {u} {v} o (same e l) = rw (e, lt-ltb v places (omega arith), lt-ltb v places_before l)
listed_alike o (neither e f) = rw (e, f)

event_alike : (w : Option Wait) → ButForNone (event_at w) (event_before w)
event_alike none = inr (refl, refl)
event_alike (some w) = inl refl

module _ {t : List ℕ} {p : Program} {g a w : ℕ} (b : AcceptedBefore t p g a w) where
  accepted_now : verdict_of t ≡ accepted_with g a w 0
  accepted_now = (read_as_before t b).0

  module _ (s : List ℕ) (X : Events) (lent : Rooms) (few : HandedBefore X) (good : store_good t lent.store ≡ true) where
    same_outcome : instant_outcome t s X lent ≡ outcome_before t a s X lent.row
    unfolding instant_outcome outcome_before
    same_outcome =
        rw (accepted_now, sym (store_ran t lent.store 0 good (omega arith)))
        (ap (λ o. cond (has_room t s) (cond (ltb (blamed t s) (nodes t)) (Err (NotAtRest (blamed t s))) o) (Err StateRoom))
        (listed_alike _ (same_lowest (λ e. X e && leb (events t) e) (λ e l. rw (few e l)))))

    module _ {values : Values} {s' : List ℕ} {left : Rooms} (r : Reply) (q : Answered t s X values lent s' left r) where
      abbrev Before : Type 0
      Before = (before : AnswerBefore) × AnsweredBefore p t a s X values lent.row s' left.row before × SameAnswer r before

      ran_before : ending r ≡ Ok tt → Before
      ran_before e =
          let x = fields_run r q e in
          let Y = x.result.env.now in
          let past : HandedBefore Y = λ n l. reports_listed t accepted_now x.program x.at_rest x.instant n (omega (arith, b.v_range)) (few n l) in (
            record {
              outcome = ending r;
              events = Y;
              count = (fields_of r).count;
              lowest = lowest places_before Y;
              atoms = (fields_of r).atoms;
              finished = (fields_of r).finished;
              passes = (fields_of r).passes;
              node = (fields_of r).waits.node;
              event = event_before (waited x.instant);
            },
            record {
              outcome_is = q.outcome_is ∙ same_outcome;
              ran = λ z.
                  record {
                    term = x.term;
                    program = x.program ∙ (read_as_before t b).1;
                    bytes = x.bytes;
                    at_rest = x.at_rest;
                    result = x.result;
                    instant = x.instant;
                    events_are = refl;
                    count_is = x.count_is ∙ same_count Y past;
                    lowest_is = refl;
                    atoms_are = x.atoms_are;
                    finished_is = x.finished_is;
                    node_is = x.waits_node_is;
                    event_is = refl;
                    state_is = x.state_is;
                    row_is = x.row_is;
                  };
              refused = λ n. absurd (n e);
            },
            record {
              outcome = refl;
              fields = record {
                events = x.events_are;
                count = refl;
                lowest = rw x.lowest_is (but_for_none (same_lowest Y past));
                atoms = refl;
                finished = refl;
                passes = refl;
                node = refl;
                event = rw x.waits_event_is (event_alike (waited x.instant));
              };
            },
          )

      refused_before : ending r ≢ Ok tt → Before
      refused_before n =
          let (state, rooms) = kept r q n in (
            record {
              outcome = ending r;
              events = no_event;
              count = 0;
              lowest = places_before;
              atoms = 0;
              finished = false;
              passes = 0;
              node = 4096;
              event = places_before;
            },
            record {
              outcome_is = q.outcome_is ∙ same_outcome;
              ran = λ e. absurd (n e);
              refused = λ z. (
                record {
                  events_are = refl;
                  count_is = refl;
                  lowest_is = refl;
                  atoms_are = refl;
                  finished_is = refl;
                  passes_are = refl;
                  node_is = refl;
                  event_is = refl;
                },
                state,
                ap (λ l. l.row) rooms,
              );
            },
            record {
              outcome = refl;
              fields = rw (no_fields r n) (record {
                events = marks_zeros (places / 64);
                count = refl;
                lowest = inr (refl, refl);
                atoms = refl;
                finished = refl;
                passes = refl;
                node = refl;
                event = inr (refl, refl);
              });
            },
          )

      as_before : Before
      as_before = go (ran_or_not (ending r))
        where
          go : (ending r ≡ Ok tt) ⊎ (ending r ≢ Ok tt) → Before
          go (inl e) = ran_before e
          go (inr n) = refused_before n

-- a good configuration's record, by its kind
module _ {t : List ℕ} (l : Loaded t) (j : ℕ) (h : j < configurations t) where
  good_record : SomeEvent t (configuration_at t j) ⊎ PartedRecord t (configuration_at t j)
  unfolding good_configuration good_but_height
  good_record =
      let good = (both {a = good_but_height t j} (l.configurations_good j h)).0 in
      let small = ltb-true (kind_byte t c) 64 (both {a = ltb (kind_byte t c) 64} good).0 in
      let f = fine t j (part_kind t c) refl good in
      go (part_kind t c) refl f.kind small f.event_below
    where
      c : ℕ
      c = configuration_at t j

      go : (k : ℕ) → part_kind t c ≡ k → Kind k → kind_byte t c < 64 → part_event t c < cond (eqb k 0) (events t) 1
          → SomeEvent t c ⊎ PartedRecord t c
      go k e event small below =
          inl (kind_byte t c / 16, record { few = omega arith; kind = omega arith; event = omega arith; listed = below })
      go k e negation small below =
          let one : kind_byte t c ≡ 1 = omega arith in inr (record { kind = (omega arith, omega arith); no_event = omega arith })
      go k e conjunction small below =
          let two : kind_byte t c ≡ 2 = omega arith in inr (record { kind = (omega arith, omega arith); no_event = omega arith })
      go k e disjunction small below =
          let three : kind_byte t c ≡ 3 = omega arith in inr (record { kind = (omega arith, omega arith); no_event = omega arith })

pub thousand_events : ThousandEvents
unfolding verdict_of records_verdict nodes_verdict program_verdict light length_good counts_good distances_good good_configuration good_but_height
    height_at_most parts good_node is_laid_out children argument_limit configuration_of form program_of preorder first_such size kind figure stops lowest
thousand_events =
    record {
      places_are = refl;
      v_at_most = λ t e. (accepted t e).loaded.framed.v_most;
      v_of_all = (refl, refl, refl);
      none_lowest = λ {r = r} q e. lowest_none r q e (ran_or_not (ending r));
      none_refused = λ why. (refl, refl);
      none_waited = λ x e. x.waits_event_is ∙ ap event_at e;
      records = λ t j e h. good_record (accepted t e).loaded j h;
      read_as_before = λ t b. read_as_before t b;
      answers_as_before = λ {s = s} {X = X} {lent = lent} {now = r} b few good q. as_before b s X lent few good r q;
    }
  where
    lowest_none : {t s : List ℕ} {X : Events} {values : Values} {lent : Rooms} {s' : List ℕ} {left : Rooms} (r : Reply)
        → Answered t s X values lent s' left r
        → members (fields_of r).events ≡ no_event → (ending r ≡ Ok tt) ⊎ (ending r ≢ Ok tt) → (fields_of r).lowest ≡ 1024
    lowest_none r q e (inl ran) =
        let x = fields_run r q ran in
        x.lowest_is ∙ (ap (lowest places) (sym x.events_are ∙ e) ∙ lowest_of_none places)
    lowest_none r q e (inr n) = ap (λ a. a.lowest) (no_fields r n)
