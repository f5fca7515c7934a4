-- An Await of a lone event meets its contract: rules 22 to 25.
use mathlib.Core.Path.{refl}
use borrow.Author.Rules.{rules}
use Rattle.steps.proofs.Slices.{all_same}
use Rattle.steps.proofs.TestsRead.{test_here, lone_marked}
use Rattle.steps.proofs.Awaits.{await_tests, lone_waits, lone_refused, lone_met, lone_met_late}
use Rattle.steps.proofs.leaves.run_lone.Goals as goal

-- if marked(&pass.progress.events.words, part_event(pass.table, c)) {
pub part_event-requires : goal.part_event-requires
part_event-requires c =
    let (on, lone) = c.requires.lone_and_there in
    let can = await_tests on c.requires.can_pass.1 in
    search rules

-- return Flag::STOP;
pub returns-then-pass : goal.returns-then-pass
returns-then-pass c =
    let (on, lone) = c.requires.lone_and_there in
    let can = await_tests on c.requires.can_pass.1 in
    let here = lone_marked can (test_here can _ c.argument_at.ensures.0) c.part_event.ensures c.marked.ensures c.if-marked.true in
    record { has_run_beside = λ row. lone_met_late on lone here c.if-pass.true; same_row = refl; named = all_same }

-- return Flag::TERM;
pub returns-then-marked : goal.returns-then-marked
returns-then-marked c =
    let (on, lone) = c.requires.lone_and_there in
    let can = await_tests on c.requires.can_pass.1 in
    let here = lone_marked can (test_here can _ c.argument_at.ensures.0) c.part_event.ensures c.marked.ensures c.if-marked.true in
    record { has_run_beside = λ row. lone_met on lone here c.if-pass.false; same_row = refl; named = all_same }

pub returns : goal.returns
returns c =
    let (on, lone) = c.requires.lone_and_there in
    let can = await_tests on c.requires.can_pass.1 in
    let absent = lone_marked can (test_here can _ c.argument_at.ensures.0) c.part_event.ensures c.marked.ensures c.if-marked.false in
    record { has_run_beside = λ row. lone_refused on lone absent c.if-not-pass.false; same_row = refl; named = all_same }

pub returns-then-not-pass : goal.returns-then-not-pass
returns-then-not-pass c =
    let (on, lone) = c.requires.lone_and_there in
    let can = await_tests on c.requires.can_pass.1 in
    let absent = lone_marked can (test_here can _ c.argument_at.ensures.0) c.part_event.ensures c.marked.ensures c.if-marked.false in
    record { has_run_beside = λ row. lone_waits on lone absent c.if-not-pass.true; same_row = refl; named = all_same }
