-- What the figures that a check answers bound, of the instant that was run (demand 3's `instant`).
use Rattle.std.specs.Prelude.{ℕ, ◌+◌, ◌*◌, ◌≤◌, List, length}
use Rattle.events.specs.Events.{Events}
use Rattle.junior.specs.Values.{Values}
use Rattle.junior.specs.Trace.{atoms, generations, parks}
use Rattle.junior.specs.Parked.{together, stored_length}
use Rattle.junior.specs.Figures.{every}
use Rattle.junior.specs.Visits.{visits_by_pass, EachAtMost, sum}
use Rattle.kernel.specs.Answer.{Reply, Rooms}
use Rattle.kernel.specs.Demand2.{Premises}
use Rattle.kernel.specs.Demand3.{Demand3}

pub record Bounds {t s : List ℕ} {X : Events} {lent : Rooms} {s' : List ℕ} {left : Rooms} {r : Reply} {p : Premises t s X lent} {value : Values}
    (d : Demand3 p value s' left r) : Type 0 where
  -- the instant generates at most G events, does at most A atoms and parks at most F bytes
  pub few_generations : length (generations d.result.acts) ≤ p.generations
  pub few_atoms : length (atoms d.result.acts) ≤ p.most_atoms
  pub few_parked : together stored_length (parks d.result.acts) ≤ p.most_parked
  -- each of its passes runs at most W nodes, so the instant, of at most G + 2 passes, at most (G + 2) * W
  pub few_in_a_pass : EachAtMost p.weight (visits_by_pass every d.instant)
  pub few_in_all : sum (visits_by_pass every d.instant) ≤ (p.generations + 2) * p.weight
