-- The figures bound the instant that was run: by the laws of figures and of visits.
use Prim.Native.Nat.{ℕ}
use mathlib.Core.List.{List}
use Rattle.events.specs.Events.{Events}
use Rattle.junior.specs.Values.{Values}
use Rattle.junior.specs.Term.{prog}
use Rattle.junior.specs.Figures.{LoopsStop}
use Rattle.junior.proofs.Figures.{at_most-G, at_most-A}
use Rattle.junior.proofs.Parks.{at_most-F}
use Rattle.junior.proofs.Visits.{at_most-W, at_most_in_all}
use Rattle.kernel.specs.Answer.{Reply, Rooms}
use Rattle.kernel.specs.Demand2.{Premises}
use Rattle.kernel.specs.Demand3.{Demand3}
use Rattle.kernel.specs.Bounds.{Bounds}
use Rattle.kernel.proofs.Accepted.{admitted}

pub bounds : {t s : List ℕ} {X : Events} {lent : Rooms} {s' : List ℕ} {left : Rooms} {r : Reply} {p : Premises t s X lent} {value : Values}
    (d : Demand3 p value s' left r) → Bounds d
bounds {t} {p = p} d =
    let accepted = admitted t p.accepted in
    let program = d.stands.program in
    let loops : LoopsStop (prog d.term) = rw program accepted.loops in
    let rest = d.stands.at_rest in
    record {
      few_generations = rw (accepted.G_is, ← program) (at_most-G d.instant loops rest);
      few_atoms = rw (accepted.A_is, ← program) (at_most-A d.instant loops rest);
      few_parked = rw (accepted.F_is, ← program) (at_most-F d.instant loops rest);
      few_in_a_pass = rw (accepted.W_is, ← program) (at_most-W d.instant loops rest);
      few_in_all = rw (accepted.G_is, accepted.W_is, ← program) (at_most_in_all d.instant loops rest);
    }
