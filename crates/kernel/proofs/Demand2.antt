-- Demand 2: the answer is what the rules give, by the contract of `instant`; there is one such term and one such result, by the kernel's rules
-- and by the printed ones.
use Prim.Native.Nat.{ℕ, ◌+◌, ◌*◌, ◌≤◌, ◌<◌}
use mathlib.Core.Bool.{Bool, true, false, ◌&&◌}
use mathlib.Core.Path.{◌≡◌, refl, sym, ap, subst, ◌∙◌}
use mathlib.Core.List.{List}
use native.Mathlib.Omega.{arith}
use lib.Dec.{leb}
use lib.ListN.{length, drop}
use lib.Seq.{take_at, drop_at}
use borrow.Author.Tests.{lt-leb}
use Rattle.events.specs.Events.{Events}
use Rattle.events.specs.Members.{places}
use Rattle.events.proofs.Events.{lowest_is}
use Rattle.junior.specs.declared.Flag.{Flag}
use Rattle.junior.specs.Values.{Values}
use Rattle.junior.specs.Configuration.{handed_in}
use Rattle.junior.specs.Trace.{Piece, atoms, parks}
use Rattle.junior.specs.Rules.{left_first, Result}
use Rattle.junior.specs.Instant.{Instant}
use Rattle.junior.specs.Waited.{waited}
use Rattle.junior.specs.Parked.{All}
use Rattle.junior.specs.Printed.{Abstract, reads, World, world, froze, Deed, actions, ◌⊢◌∣◌—[◌doing◌]—◌passes→◌∣◌}
use Rattle.junior.proofs.Deterministic.{one_outcome}
use Rattle.junior.proofs.Waited.{one_waited}
use Rattle.junior.proofs.Going.{rest_going, leaves_rest, program_kept}
use Rattle.junior.proofs.AsPrinted.{instant_as_printed}
use Rattle.junior.proofs.PrintedOnce.{printed_exactly, actions_deeds}
use Rattle.table.specs.Records.{nodes, events}
use Rattle.state.specs.StateBytes.{state_bytes}
use Rattle.state.proofs.Parts.{len_bytes}
use Rattle.state.proofs.OneTerm.{one_term}
use Rattle.state.specs.Pieces.{pieces_bytes}
use Rattle.store.specs.Store.{in_use, store_room, adding}
use Rattle.store.specs.Stored.{Belongs, Stored}
use Rattle.store.proofs.OneStore.{holds}
use Rattle.store.proofs.GoodStore.{stored}
use Rattle.store.proofs.Belonging.{parks_belong}
use Rattle.store.proofs.Added.{adding_in_use, adding_long}
use Rattle.store.proofs.Room.{room_fits, parked_holds}
use Rattle.kernel.specs.declared.Answer.{Answer}
use Rattle.std.specs.Prelude.{Ok}
use Rattle.kernel.specs.Answer.{Reply, Rooms, unlisted, instant_outcome, ended, node_of, event_at, Run, Answered}
use Rattle.kernel.specs.Demand2.{Premises, TermInState, Gives, Reports, GivesPrinted, Demand2}
use Rattle.kernel.proofs.Replies.{answered}
use Rattle.kernel.proofs.Accepted.{admitted}
use Rattle.kernel.proofs.FreePart.{few_parked, adding_beyond}
use Rattle.kernel.proofs.Outcomes.{store_ran, by_store}

-- on the premises nothing is refused
none_unlisted : (t : List ℕ) (X : Events) → ((e : ℕ) → X e ≡ true → e < events t) → unlisted t X ≡ places
none_unlisted t X h =
    sym (lowest_is places places (λ e. X e && leb (events t) e) (omega arith) (λ e l. go e (X e) refl) (λ z. absurd (omega arith)))
  where
    go : (e : ℕ) (b : Bool) → X e ≡ b → (b && leb (events t) e) ≡ false
    go e true x = lt-leb (events t) e (h e x)
    go e false x = refl

pub runs : {t s : List ℕ} {X : Events} {lent : Rooms} → Premises t s X lent → Ok tt ≡ instant_outcome t s X lent
runs {t} {s} {X} {lent} p =
    let listed = none_unlisted t X p.listed in
    let rest = p.at_rest in
    store_ran t lent.store p.most_parked p.store_passes p.parking_room
    ∙ by_store t s p.accepted X lent p.room (omega arith) (omega arith) p.row_room

-- the term that was run stands in the state
pub stands : {t s : List ℕ} {X : Events} {value : Values} {lent : Rooms} {s' : List ℕ} {left : Rooms} {a : Answer}
    (r : Run t s X value lent s' left a) → TermInState t s r.term
stands r = record {
  program = r.program;
  bytes = r.bytes;
  at_rest = r.at_rest;
  only = λ y e b. one_term y r.term (e ∙ sym r.program) (sym b ∙ r.bytes);
}

-- the pieces that stand in the store
pub pieces_of : {t s : List ℕ} {X : Events} {lent : Rooms} → Premises t s X lent → (l : List Piece) × Stored t lent.store l
pieces_of {t} p = stored (admitted t p.accepted).loaded p.store_bytes p.store_passes

module _ {t s : List ℕ} {X : Events} {value : Values} {lent : Rooms} {s' : List ℕ} {left : Rooms} {a : Answer} (p : Premises t s X lent)
    (r : Run t s X value lent s' left a) where
  -- what is parked belongs to the table, and there is room for it
  pub parked : List Piece
  parked = parks r.result.acts

  pub each_belongs : All (Belongs t) parked
  unfolding parked
  each_belongs =
      parks_belong (admitted t p.accepted).loaded r.program r.instant (rest_going X r.term r.at_rest)

  pub parked_few : length (pieces_bytes parked) ≤ p.most_parked
  unfolding parked
  parked_few = few_parked p.accepted r

  pub parked_fits : length (pieces_bytes parked) ≤ store_room lent.store
  parked_fits = omega (arith, parked_few, p.parking_room)

  all_fits : 2 + in_use lent.store + length (pieces_bytes parked) ≤ length lent.store
  all_fits = room_fits lent.store (length (pieces_bytes parked)) (pieces_of p).1.all parked_fits

  pub store_after : left.store ≡ adding (pieces_bytes parked) lent.store
  unfolding parked
  store_after = r.store_is

  pub in_use_after : in_use left.store ≡ in_use lent.store + length (pieces_bytes parked)
  in_use_after = ap in_use store_after ∙ adding_in_use (pieces_bytes parked) lent.store all_fits

  -- the bytes that an instant leaves are as many
  long : length (state_bytes r.result.to) ≡ 4 * nodes t
  long = rw (len_bytes r.result.to, program_kept r.instant, r.program, (admitted t p.accepted).whole)

  beyond : drop (2 + in_use left.store) left.store ≡ drop (2 + in_use left.store) lent.store
  beyond =
      let b = pieces_bytes parked in
      let e : 2 + in_use left.store ≡ 2 + in_use lent.store + length b = omega (arith, in_use_after) in
      ap (λ (n : ℕ). drop n left.store) e
      ∙ (ap (drop (2 + in_use lent.store + length b)) store_after
      ∙ (adding_beyond b lent.store all_fits ∙ ap (λ (n : ℕ). drop n lent.store) (sym e)))

  pub gives : Gives t s lent (pieces_of p).0 s' left a a.passes r.result
  unfolding parked
  gives =
      record {
        event_set = r.events_are;
        event_count = r.count_is;
        event_lowest = r.lowest_is;
        action_count = r.atoms_are;
        actions = rw r.row_is (take_at (atoms r.result.acts) (drop a.atoms lent.row) a.atoms (sym r.atoms_are));
        finished = r.finished_is;
        pass_count = refl;
        next_state = rw r.state_is (take_at (state_bytes r.result.to) (drop (4 * nodes t) s) (4 * nodes t) long);
        state_beyond = rw r.state_is (drop_at (state_bytes r.result.to) (drop (4 * nodes t) s) (4 * nodes t) long);
        row_beyond = rw r.row_is (drop_at (atoms r.result.acts) (drop a.atoms lent.row) a.atoms (sym r.atoms_are));
        next_store = rw r.store_is (parked_holds (pieces_of p).1 each_belongs parked_fits);
        store_beyond = beyond;
        store_length = rw r.store_is (adding_long (pieces_bytes parked) lent.store all_fits);
      }

  -- whatever the rules give is what was run
  gives_all : (n : ℕ) (u : Result) → Instant (left_first value) r.term (handed_in X) n u → Gives t s lent (pieces_of p).0 s' left a n u
  gives_all n u i =
      let (same_passes, same_result) = one_outcome r.instant i in
      subst (λ m. Gives t s lent (pieces_of p).0 s' left a m u) same_passes
      (subst (λ x. Gives t s lent (pieces_of p).0 s' left a a.passes x) same_result gives)

  -- and whatever they report is what was answered
  reports_all : (n : ℕ) (u : Result) (i : Instant (left_first value) r.term (handed_in X) n u) → Reports a (waited i)
  reports_all n u i =
      let same = one_waited r.instant i in
      record { node = r.waits_node_is ∙ ap node_of same; event = r.waits_event_is ∙ ap event_at same }

  -- the term that is left
  stands_next : TermInState t s' r.result.to
  stands_next = record {
    program = program_kept r.instant ∙ r.program;
    bytes = gives.next_state;
    at_rest = leaves_rest r.instant r.at_rest;
    only = λ y e b.
        one_term y r.result.to (e ∙ sym (program_kept r.instant ∙ r.program)) (sym b ∙ gives.next_state);
  }

  -- whatever the printed rules give is what was run, with the pieces parked in their table of frozen instructions
  gives_printed : {T : ℕ → Abstract} {n : ℕ} {α : Flag} {l : List Deed} {u : Abstract} {E : World}
      → value ⊢ reads r.term ∣ world (handed_in X) T —[ α doing l ]— n passes→ u ∣ E
      → GivesPrinted t s' left.row a n α l u E
      × ((v : Result) → Instant (left_first value) r.term (handed_in X) n v → E.frozen ≡ froze (parks v.acts) T)
  gives_printed {T} i =
      let (passes, flag, did, to, env) = printed_exactly {T = T} r.instant i in (
        record {
          event_set = gives.event_set ∙ ap (λ E. E.now) env;
          actions_in_order = gives.actions ∙ (sym (actions_deeds r.result.acts) ∙ ap actions did);
          finished = gives.finished ∙ ap ended flag;
          pass_count = passes;
          next = r.result.to;
          next_stands = stands_next;
          next_reads = to;
        },
        λ v j. sym (ap (λ E. E.frozen) env) ∙ ap (λ x. froze (parks x.acts) T) (one_outcome r.instant j).1,
      )

pub demand_2 : {t s : List ℕ} {X : Events} {value : Values} {lent : Rooms} {s' : List ℕ} {left : Rooms} {q : Reply} → Premises t s X lent
    → Answered t s X value lent s' left q
    → Demand2 t s X value lent s' left q
demand_2 {q = q} p o =
    let (a, is, r) = answered q o (o.outcome_is ∙ sym (runs p)) in
    record {
      answer = a;
      ran = is;
      term = r.term;
      stands = stands r;
      pieces = (pieces_of p).0;
      holds = holds (pieces_of p).1;
      there = (_, r.result, r.instant);
      gives = λ i. gives_all p r _ _ i;
      reports = λ i. reports_all p r _ _ i;
      printed_there = λ T. (_, _, _, _, _, instant_as_printed r.instant T);
      printed_gives = λ i. gives_printed p r i;
    }
