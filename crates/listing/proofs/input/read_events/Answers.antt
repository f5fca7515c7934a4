-- `read_events` meets its contract: what the rest of the line is read as, beside the events so far, is what the line is read as.
use mathlib.Core.Path.{refl}
use mathlib.Core.Bool.{true, false}
use Rattle.events.specs.Events.{none}
use Rattle.events.specs.Members.{marks}
use Rattle.events.proofs.Words.{marks_zeros}
use Rattle.listing.specs.Inside.{token_at}
use Rattle.listing.proofs.Reading.{stops_end, stops_none, goes_last, stops_other, goes_on, marked, shorter}
use Rattle.listing.proofs.input.read_events.Goals as goal

pub loop-at-init : goal.loop-at-init
loop-at-init c = (refl, λ good X g. rw (marks_zeros 16) at g)

-- let Token { event, next } = event_at(line, at)?;
pub returns-in_err-event : goal.returns-in_err-event
returns-in_err-event c =
    let loop = c.loop-at in
    let line = c.args.line.now in
    rw c.from_residual.ensures
    (loop.invariant.1 false none
    (stops_none c.args.separator c.requires line loop.at (token_at line loop.at) refl (marks loop.words) c.in_err-event.ensures))

-- return Some(EventSet { words });
pub returns-then-line-next : goal.returns-then-line-next
returns-then-line-next c =
    let loop = c.loop-at in
    let token = c.in_ok-event.field-0 in
    let (is, known) = c.in_ok-event.ensures in
    loop.invariant.1 true _
    (rw (marked loop.words _ token.event loop.invariant.0 known c.mark.ensures)
    (goes_last c.args.separator c.requires c.args.line.now loop.at token is (marks loop.words) known c.if-line-next.true))

-- return None;
pub returns-then-line-next-2 : goal.returns-then-line-next-2
returns-then-line-next-2 c =
    let loop = c.loop-at in
    loop.invariant.1 false none
    (stops_other c.args.separator c.requires c.args.line.now loop.at c.in_ok-event.field-0 c.in_ok-event.ensures.0 (marks loop.words)
    c.if-line-next.false c.if-line-next-2.true)

pub loop-at-smaller : goal.loop-at-smaller
loop-at-smaller c =
    shorter c.args.separator c.requires c.args.line.now c.loop-at.at c.in_ok-event.field-0 c.in_ok-event.ensures.0 c.loop-at-test.true
    c.in_ok-event.ensures.1

pub loop-at-preserved : goal.loop-at-preserved
loop-at-preserved c =
    let loop = c.loop-at in
    let token = c.in_ok-event.field-0 in
    let (is, known) = c.in_ok-event.ensures in (
      rw c.mark.auto.words loop.invariant.0,
      λ good Y g. loop.invariant.1 good Y
          (goes_on c.args.separator c.requires c.args.line.now loop.at token is (marks loop.words) c.if-line-next.false known c.if-line-next-2.false
          (rw (marked loop.words _ token.event loop.invariant.0 known c.mark.ensures) at g)),
    )

pub returns : goal.returns
returns c =
    let loop = c.loop-at in
    loop.invariant.1 false none (stops_end c.args.separator c.args.line.now loop.at (marks loop.words) c.loop-at-test.false)
