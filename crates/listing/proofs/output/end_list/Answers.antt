-- `end_list` meets its contract: a dash where no number stands, else the last comma is overwritten.
use native.Mathlib.Omega.{arith}
use Rattle.letters.proofs.Writes.{writes_end}
use Rattle.listing.proofs.Lists.{dash_ends, comma_ends}
use Rattle.listing.proofs.output.end_list.Goals as goal

pub returns-then-from-out : goal.returns-then-from-out
returns-then-from-out c =
    record {
      ended = λ start l e w. dash_ends c.args.last l w (omega arith) c.byte.ensures c.byte-then-from-out.ensures;
      short = omega (arith, writes_end c.byte.ensures, writes_end c.byte-then-from-out.ensures);
    }

pub returns : goal.returns
returns c =
    record { ended = λ start l e w. comma_ends c.args.last l w (λ h. c.if-from-out.false (omega arith)); short = omega arith }
