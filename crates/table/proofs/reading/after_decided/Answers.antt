-- `table::reading::after_decided` meets its contract: the levels left, with the rank within, come to the same as all of them.
use native.Mathlib.Omega.{arith}
use mathlib.Core.Path.{sym, ◌∙◌}
use Rattle.table.proofs.OpenLevels.{none_closed, left_left, left_next, left_none, then_closes}
use Rattle.table.proofs.reading.after_decided.Goals as goal

pub loop-levels-init : goal.loop-levels-init
loop-levels-init c o h = none_closed _ h

-- match close(table, at, levels, sat) {
pub close-requires : goal.close-requires
close-requires c =
    let left = c.loop-levels.invariant c.requires.0 c.requires.1 in
    record { some_open = (left.still, left.opened); inside_a_level = c.loop-levels-test.true }

pub loop-levels-smaller : goal.loop-levels-smaller
loop-levels-smaller c =
    let falls = c.in-Decided.ensures.falls in
    let inside = c.loop-levels-test.true in
    omega arith

pub loop-levels-preserved : goal.loop-levels-preserved
loop-levels-preserved c o h =
    let left = c.loop-levels.invariant o h in
    left_left left (c.in-Decided.ensures.closes_one left.still left.opened)

-- Closed::Undecided(place) => return after_unknown(place.at, place.levels),
pub after_unknown-requires : goal.after_unknown-requires
after_unknown-requires c =
    let left = c.loop-levels.invariant c.requires.0 c.requires.1 in
    let now = c.in-Undecided.ensures.closes_one left.still left.opened in
    (now.still, now.opened.number)

pub returns-in-Undecided : goal.returns-in-Undecided
returns-in-Undecided c o h =
    let left = c.loop-levels.invariant o h in
    let now = left_left left (c.in-Undecided.ensures.closes_one left.still left.opened) in
    then_closes now _ (c.after_unknown.ensures _ now.still now.opened)

pub returns-in-Second : goal.returns-in-Second
returns-in-Second c o h =
    let left = c.loop-levels.invariant o h in
    left_next left (c.in-Second.ensures.closes_one left.still left.opened)

-- ControlFlow::Break(decided(sat))
pub returns : goal.returns
returns c o h E = left_none (c.loop-levels.invariant o h) c.loop-levels-test.false E ∙ sym c.decided.ensures
