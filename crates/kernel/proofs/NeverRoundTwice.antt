-- L5, of every answer: by the contract of `instant` and L5 of the definitions; an accepted table's Loops have bodies that stop.
use Prim.Native.Nat.{ℕ}
use mathlib.Core.Path.{sym, ◌∙◌}
use mathlib.Core.List.{List}
use Rattle.events.specs.Events.{Events}
use Rattle.junior.specs.Values.{Values}
use Rattle.junior.proofs.NeverRoundTwice.{never_round_twice as by_the_rules}
use Rattle.kernel.specs.Answer.{Reply, Rooms, Answered}
use Rattle.kernel.specs.Demand2.{Premises}
use Rattle.kernel.specs.NeverRoundTwice.{NeverRoundTwice}
use Rattle.kernel.proofs.Replies.{answered}
use Rattle.kernel.proofs.Accepted.{admitted}
use Rattle.kernel.proofs.Demand2.{runs, stands, pieces_of, gives}

pub never_round_twice : {t s : List ℕ} {X : Events} {value : Values} {lent : Rooms} {s' : List ℕ} {left : Rooms} {q : Reply}
    → Premises t s X lent
    → Answered t s X value lent s' left q
    → NeverRoundTwice t s X value lent s' left q
never_round_twice {t} {q = q} p o =
    let (a, is, r) = answered q o (o.outcome_is ∙ sym (runs p)) in
    record {
      answer = a;
      ran = is;
      term = r.term;
      stands = stands r;
      result = r.result;
      instant = by_the_rules.instant (rw r.program (admitted t p.accepted).loops) r.instant;
      pieces = (pieces_of p).0;
      gives = gives p r;
    }
