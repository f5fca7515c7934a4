-- `waiting` meets its contract: from each node on the way the same test is led to.
use borrow.Author.Rules.{rules}
use mathlib.Core.Path.{ap, sym, ◌∙◌}
use native.Mathlib.Omega.{arith}
use Rattle.events.specs.Members.{marks}
use Rattle.events.proofs.Sets.{whole}
use Rattle.waiting.specs.Down.{own_wait}
use Rattle.waiting.proofs.OneStep.{tells_some, tells_none, here, goes_on, one_end, fewer}
use Rattle.waiting.proofs.waiting.Goals as goal

-- loop {
pub loop-event-init : goal.loop-event-init
loop-event-init c =
    let (w, l) = c.requires in
    (w, l, λ v k. one_end k l, omega (arith, (whole c.args.events _ c.well_formed.1.1.0).long))

-- if let Some(event) = own_wait(table, state, i, &words) {
pub own_wait-requires : goal.own_wait-requires
own_wait-requires c =
    (c.loop-event.invariant.0, c.loop-event.invariant.1)

-- return Wait { node: i, event };
pub returns-in-Some : goal.returns-in-Some
returns-in-Some c =
    let l = c.loop-event.invariant.1 in
    let o = tells_some (own_wait l.term (marks c.loop-event.words)) (c.in-Some.ensures l.term c.loop-event.invariant.0 l.stands l.leads) in
    let (n, e) = here l.term (marks c.loop-event.words) o l.leads in
    λ v k. let same = c.loop-event.invariant.2 v k in (n ∙ ap (λ w. w.node) (sym same), e ∙ ap (λ w. w.event) (sym same))

-- enter(table, state, i, &mut words);
pub enter-requires : goal.enter-requires
enter-requires c =
    let l = c.loop-event.invariant.1 in
    record { some_stands = (l.term, l.stands); words_long = c.loop-event.invariant.3 }

-- i = next_node(table, state, i);
pub next_node-i-requires : goal.next_node-i-requires
next_node-i-requires c =
    let l = c.loop-event.invariant.1 in (l.term, l.stands)

-- loop {
pub loop-event-smaller : goal.loop-event-smaller
loop-event-smaller c =
    let l = c.loop-event.invariant.1 in
    let o = tells_none (own_wait l.term (marks c.loop-event.words)) (rw c.in_default.is at (c.own_wait.ensures l.term c.loop-event.invariant.0 l.stands l.leads)) in
    rw c.next_node-i.ensures (fewer l (goes_on (marks c.loop-event.words) l.stands o l.leads))

pub loop-event-preserved : goal.loop-event-preserved
loop-event-preserved c =
    let l = c.loop-event.invariant.1 in
    let o = tells_none (own_wait l.term (marks c.loop-event.words)) (rw c.in_default.is at (c.own_wait.ensures l.term c.loop-event.invariant.0 l.stands l.leads)) in
    (c.loop-event.invariant.0, rw (c.next_node-i.ensures, c.enter.ensures) (goes_on (marks c.loop-event.words) l.stands o l.leads).onward, c.loop-event.invariant.2, search rules)
