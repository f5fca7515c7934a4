-- `put_word` meets its contract: the first numbers are written.
use mathlib.Core.Path.{◌≡◌, subst}
use native.Mathlib.Omega.{arith}
use lib.ListN.{length}
use lib.Seq.{take-length}
use Rattle.letters.specs.Writing.{Writes}
use Rattle.letters.proofs.Writes.{writes_none, writes_then, writes_end}
use Rattle.calls.specs.Words.{spelled}
use Rattle.calls.proofs.Words.{spelled_more, word_ends, dash_ends}
use Rattle.calls.proofs.writing.put_word.Goals as goal

pub returns-then-list-eq0-clause-written : goal.returns-then-list-eq0-clause-written
returns-then-list-eq0-clause-written g c =
    dash_ends g.T.Spelled.spelling c.args.list.now c.args.end c.if-list-eq0.true c.byte.ensures c.byte-then-list-eq0.ensures

pub loop-number-init : goal.loop-number-init
unfolding spelled
loop-number-init g c = (omega arith, writes_none c.args.out.now)

pub loop-number-preserved : goal.loop-number-preserved
loop-number-preserved g c =
    let i = c.loop-number.number-index in
    let list = c.args.list.now in
    let put = subst (λ n. Writes c.loop-number.out c.put.new.out (g.T.Spelled.spelling n)) c.number-item.is c.put.ensures in (
      omega (arith, writes_end c.put.ensures, g.met.T.Spelled.long c.number-item.result),
      rw (spelled_more g.T.Spelled.spelling list c.number-item.result i (omega arith)) (writes_then c.loop-number.invariant.1 put),
    )

pub returns-clause-written : goal.returns-clause-written
returns-clause-written g c =
    let list = c.args.list.now in
    let all : c.loop-number.number-index ≡ length list = omega arith in
    word_ends g.T.Spelled.spelling list c.args.end c.if-list-eq0.false (rw (all, take-length list) at c.loop-number.invariant.1) c.byte-2.ensures
