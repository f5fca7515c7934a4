-- `scan` meets its contract.
use borrow.Author.Rules.{rules}
use mathlib.Core.Path.{refl, sym, ◌∙◌}
use Rattle.scanner.proofs.WholeTextRead.{reading_first, reading_stops, reading_goes, reading_short, reading_whole}
use Rattle.scanner.proofs.ByteRead.{number_low}
use Rattle.scanner.proofs.scan.scan.Goals as goal

pub loop-i-init : goal.loop-i-init
loop-i-init c = (refl, reading_first c.args.text.now _)

-- return Err(i);
pub returns-in_default : goal.returns-in_default
returns-in_default c =
    reading_stops c.args.text.now c.loop-i.i c.loop-i.at c.loop-i.k c.loop-i.ring c.loop-i.invariant.1
    _ _ c.loop-i-test.true c.in_default.is c.read_byte.ensures

pub counted-k-requires-clause-low : goal.counted-k-requires-clause-low
counted-k-requires-clause-low c = number_low c.loop-i.at.pc c.loop-i.at.number c.loop-i.invariant.1.lies.numbered

pub loop-i-preserved : goal.loop-i-preserved
loop-i-preserved c = (
  search rules,
  reading_goes c.args.text.now c.loop-i.i c.loop-i.at c.loop-i.k c.loop-i.ring c.loop-i.invariant.1 _ _ _ _
      c.loop-i-test.true c.in-Some.is c.read_byte.ensures c.counted-k.ensures,
)

-- return Ok(k);
pub returns-then-code-eq0 : goal.returns-then-code-eq0
returns-then-code-eq0 c =
    reading_whole c.args.text.now c.loop-i.i c.loop-i.at c.loop-i.k c.loop-i.ring c.loop-i.invariant.1
    c.loop-i-test.false (sym c.code.ensures ∙ c.if-code-eq0.true)

-- Err(text.len())
pub returns : goal.returns
returns c =
    reading_short c.args.text.now c.loop-i.i c.loop-i.at c.loop-i.k c.loop-i.ring c.loop-i.invariant.1
    c.loop-i-test.false (λ e. c.if-code-eq0.false (c.code.ensures ∙ e))
