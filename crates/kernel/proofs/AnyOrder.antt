-- L6 of every answer: by the contract of `instant`, demand 2 and the theorem of the definitions.
use Prim.Native.Nat.{ℕ}
use mathlib.Core.Path.{refl, ap, sym, ◌∙◌}
use mathlib.Core.List.{List}
use Rattle.events.specs.Events.{Events}
use Rattle.junior.specs.Term.{prog}
use Rattle.junior.specs.Trace.{parks}
use Rattle.junior.specs.Figures.{LoopsStop}
use Rattle.junior.specs.Values.{Values}
use Rattle.junior.specs.Order.{often}
use Rattle.junior.proofs.Order.{waits_in_any_order, order_free}
use Rattle.store.proofs.OneStore.{holds}
use Rattle.kernel.specs.Answer.{Reply, Rooms, ended, node_of, event_at, Answered}
use Rattle.kernel.specs.Demand2.{Premises}
use Rattle.kernel.specs.AnyOrder.{AnyOrder}
use Rattle.kernel.proofs.Replies.{answered}
use Rattle.kernel.proofs.Accepted.{admitted}
use Rattle.kernel.proofs.Demand2.{runs, stands, pieces_of, gives}
use Rattle.state.specs.StateBytes.{state_bytes}

pub any_order : {t s : List ℕ} {X : Events} {value : Values} {lent : Rooms} {s' : List ℕ} {left : Rooms} {q : Reply}
    → Premises t s X lent
    → Answered t s X value lent s' left q
    → AnyOrder t s X value lent s' left q
any_order {t} {X = X} {value = value} {q = q} p o =
    let (a, is, r) = answered q o (o.outcome_is ∙ sym (runs p)) in
    let loops : LoopsStop (prog r.term) = rw r.program (admitted t p.accepted).loops in
    let free = order_free value r.term X loops r.at_rest in
    let given = gives p r in
    record {
      answer = a;
      ran = is;
      term = r.term;
      stands = stands r;
      pieces = (pieces_of p).0;
      holds = holds (pieces_of p).1;
      order_free = free;
      gives = λ i.
          let same = free.same (free.kernel_order r.instant) i in
          record {
            event_set = given.event_set ∙ same.event_set;
            finished = given.finished ∙ ap ended same.answer;
            end_state = given.next_state ∙ ap state_bytes same.end_state;
            equally_often = λ n. ap (often n) given.actions ∙ same.equally_often n;
            parked = parks r.result.acts;
            next_store = given.next_store;
            same_pieces = same.same_pieces;
          };
      reports = λ i.
          let same = waits_in_any_order r.instant i refl loops refl in
          record { node = r.waits_node_is ∙ ap node_of same; event = r.waits_event_is ∙ ap event_at same };
    }
