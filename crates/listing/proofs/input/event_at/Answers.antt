-- `event_at` meets its contract: before each byte the number found is the one that begins with the figures so far.
use mathlib.Core.Path.{sym, ap, ◌∙◌}
use Prim.Native.Nat.{◌+◌}
use native.Mathlib.Omega.{arith}
use lib.ListN.{drop}
use Rattle.listing.specs.declared.input.Token.{Token}
use Rattle.listing.proofs.NumberAt.{on_when, token_on, token_ends, begun_digit, none_begun}
use Rattle.listing.proofs.input.event_at.Goals as goal

-- let mut event = digit(line[at])?;
pub returns-in_err-event : goal.returns-in_err-event
returns-in_err-event c = rw c.from_residual.ensures (none_begun c.args.line.now c.args.at c.in_err-event.ensures)

-- while let Some(d) = digit_at(line, next, event) {
pub loop-d-init : goal.loop-d-init
loop-d-init c =
    let first = c.in_ok-event.ensures in (
      omega arith,
      omega (arith, first.1),
      rw first.0 (begun_digit c.args.at _ (drop (c.args.at + 1) c.args.line.now) (rw (← first.0) first.1)),
    )

-- event = 10 * event + d;
pub overflow_add-event : goal.overflow_add-event
overflow_add-event c =
    let low = on_when c.loop-d.event c.in-Some.d c.in-Some.ensures.1 in
    omega (arith, low.1, low.2)

pub loop-d-preserved : goal.loop-d-preserved
loop-d-preserved c =
    let loop = c.loop-d in
    let more = c.in-Some.ensures in
    let low = on_when loop.event c.in-Some.d more.1 in (
      omega (arith, more.2),
      omega (arith, low.1, low.2),
      rw more.0 (loop.invariant.2 ∙ token_on c.args.line.now loop.next loop.event more.2 (rw (← more.0) more.1)),
    )

-- return None;
pub returns-then-event-ge-PLACES : goal.returns-then-event-ge-PLACES
returns-then-event-ge-PLACES c =
    let loop = c.loop-d in
    let e = ap (λ (t : Token). t.event) (loop.invariant.2 ∙ token_ends c.args.line.now loop.next loop.event c.in_default.ensures) in
    omega arith

pub returns : goal.returns
returns c =
    let loop = c.loop-d in
    (sym (loop.invariant.2 ∙ token_ends c.args.line.now loop.next loop.event c.in_default.ensures), omega arith)
