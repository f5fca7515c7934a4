-- Demand 3, of every answer: by the contract of `instant` and demand 3 of the definitions.
use Prim.Native.Nat.{ℕ}
use mathlib.Core.Path.{sym, ◌∙◌}
use mathlib.Core.List.{List}
use native.Mathlib.Omega.{arith}
use Rattle.events.specs.Events.{Events}
use Rattle.junior.specs.Values.{Values}
use Rattle.junior.proofs.Demand3.{demand_3 as by_the_rules}
use Rattle.state.proofs.Blameless.{resting}
use Rattle.store.proofs.Room.{parked_good}
use Rattle.kernel.specs.Answer.{Reply, Rooms, Answered}
use Rattle.kernel.specs.Demand2.{Premises}
use Rattle.kernel.specs.Demand3.{Demand3}
use Rattle.kernel.proofs.Replies.{answered}
use Rattle.kernel.proofs.Accepted.{admitted}
use Rattle.kernel.proofs.Demand2.{runs, stands, pieces_of, each_belongs, parked_few, parked_fits, store_after, in_use_after, gives}

pub demand_3 : {t s : List ℕ} {X : Events} {value : Values} {lent : Rooms} {s' : List ℕ} {left : Rooms} {q : Reply} (p : Premises t s X lent)
    → Answered t s X value lent s' left q
    → Demand3 p value s' left q
demand_3 {t} {s} {X} {value} {s' = s'} {q = q} p o =
    let (a, is, r) = answered q o (o.outcome_is ∙ sym (runs p)) in
    let accepted = admitted t p.accepted in
    let settled = (by_the_rules value r.term X (rw r.program accepted.loops) r.at_rest).settled r.instant in
    let next = (gives p r).next_state in
    record {
      answer = a;
      ran = is;
      term = r.term;
      stands = stands r;
      result = r.result;
      instant = r.instant;
      event_set = r.events_are;
      soon = let few = rw (r.program, ← accepted.G_is) at settled.soon in few;
      at_rest = resting t s' accepted.placed r.result.to (settled.same_program ∙ r.program) next settled.rest;
      store_passes = rw (store_after p r) (parked_good (pieces_of p).1 (each_belongs p r) (parked_fits p r) accepted.loaded);
      few_bytes = omega (arith, in_use_after p r, parked_few p r);
      grows = settled.grows;
      idle = settled.idle;
      decided = rw r.events_are settled.decided;
    }
