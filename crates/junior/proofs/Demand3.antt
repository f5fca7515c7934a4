-- Demand 3, of the definitions: from every state at rest of a program whose Loops' bodies stop, whatever events and
-- values are handed in.
use mathlib.Core.Path.{refl}
use Rattle.events.specs.Events.{Events}
use Rattle.junior.specs.Values.{Values}
use Rattle.junior.specs.Term.{Term, prog}
use Rattle.junior.specs.Rules.{left_first}
use Rattle.junior.specs.Figures.{LoopsStop}
use Rattle.junior.specs.AtRest.{AtRest}
use Rattle.junior.specs.Demand3.{Demand3}
use Rattle.junior.proofs.Grows.{rising}
use Rattle.junior.proofs.End.{idle_once_ended}
use Rattle.junior.proofs.Going.{leaves_rest, program_kept}
use Rattle.junior.proofs.Decided.{decided_right}
use Rattle.junior.proofs.Instants.{within_passes, ends}

pub demand_3 : (value : Values) (t : Term) (X : Events) → LoopsStop (prog t) → AtRest t → Demand3 value t X
demand_3 value t X o a = record {
  ends = ends (left_first value) t o a X;
  settled = λ i. record {
    soon = within_passes i o a;
    rest = leaves_rest i a;
    same_program = program_kept i;
    grows = rising i;
    idle = idle_once_ended i;
    decided = decided_right i a refl;
  };
}
