-- `run_from` meets its contract: an instant is under way before each pass, and there are at most G + 2.
use borrow.Author.Rules.{rules}
use mathlib.Core.Path.{refl, ◌≡◌, ◌∙◌}
use native.Mathlib.Omega.{arith}
use lib.ListN.{length}
use Rattle.table.specs.Reading.{event_words}
use Rattle.steps.specs.Progress.{words_of}
use Rattle.junior.specs.declared.Flag.TheVariants.{SUSP}
use Rattle.steps.proofs.FlagTests.{ne_is, ne_not}
use Rattle.steps.proofs.Slices.{all_same, named_then}
use Rattle.runner.proofs.Handed.{can_then, ran_then}
use Rattle.kernel.proofs.Passing.{few_passes, begins_by, can_pass, ran_by, can_look}
use Rattle.kernel.proofs.Passing.{goes_by, next_row_holds, left_bytes, some_bytes, finished_by, run_of}
use Rattle.kernel.proofs.passes.run_from.Goals as goal

-- loop {
pub loop-pass-init : goal.loop-pass-init
loop-pass-init c =
    let long : length (words_of c.args.pass.now.progress) ≡ event_words = search rules in
    let (underway, holds, unnamed) = begins_by c.requires.startable c.requires.not_begun long in
    (c.requires.startable, underway, holds, all_same, rw unnamed (record { node_is = c.no_wait-waits.ensures.0; event_is = c.no_wait-waits.ensures.1 }))

-- passes += 1;
pub overflow_add-passes : goal.overflow_add-passes
overflow_add-passes c =
    omega (arith, few_passes c.loop-pass.invariant.1, c.loop-pass.invariant.0.few)

-- let flag = run_child(pass, 0);
pub run_child-flag-requires : goal.run_child-flag-requires
run_child-flag-requires c =
    can_then c.loop-pass.invariant.3.0 (can_pass c.loop-pass.invariant.1 c.loop-pass.invariant.2)

-- end_program(pass.state, flag);
pub end_program-requires : goal.end_program-requires
end_program-requires c =
    let run = ran_then c.loop-pass.invariant.3.0 c.run_child-flag.ensures.has_run in
    some_bytes c.loop-pass.invariant.1 _ (ran_by c.loop-pass.invariant.1 c.loop-pass.invariant.2 run refl)

-- return report(
pub returns-then-ne : goal.returns-then-ne
returns-then-ne c =
    let u = c.loop-pass.invariant.1 in
    let run = ran_then c.loop-pass.invariant.3.0 c.run_child-flag.ensures.has_run in
    let ran = ran_by u c.loop-pass.invariant.2 run refl in
    let told = rw (finished_by c.run_child-flag.result c.eq.ensures) at c.report.ensures in
    let left = c.end_program.ensures ∙ left_bytes u _ ran in
    record {
      ran = run_of c.loop-pass.invariant.0 u ran (ne_is _ SUSP c.ne.ensures c.if-ne.true) left refl c.loop-pass.invariant.4 told;
      named = named_then c.loop-pass.invariant.3 c.run_child-flag.ensures.named;
    }

-- waits = waits_after(pass, waits);
pub waits_after-waits-requires : goal.waits_after-waits-requires
waits_after-waits-requires c =
    let then = named_then c.loop-pass.invariant.3 c.run_child-flag.ensures.named in
    rw then.0 (can_look c.loop-pass.invariant.1 c.loop-pass.invariant.2 (ran_then c.loop-pass.invariant.3.0 c.run_child-flag.ensures.has_run) (ne_not _ SUSP c.ne.ensures c.if-ne.false))

-- loop {
pub loop-pass-smaller : goal.loop-pass-smaller
loop-pass-smaller c =
    let few = rw c.loop-pass.invariant.0.program at (few_passes c.loop-pass.invariant.1) in
    omega arith

pub loop-pass-preserved : goal.loop-pass-preserved
loop-pass-preserved c =
    let run = ran_then c.loop-pass.invariant.3.0 c.run_child-flag.ensures.has_run in
    let (underway, names) = goes_by c.loop-pass.invariant.1 c.loop-pass.invariant.2 run (ne_not _ SUSP c.ne.ensures c.if-ne.false) in
    let then = named_then c.loop-pass.invariant.3 c.run_child-flag.ensures.named in
    rw c.next_pass.ensures (
      c.loop-pass.invariant.0,
      underway,
      next_row_holds c.loop-pass.invariant.1 c.loop-pass.invariant.2 run,
      then,
      names _ _ c.loop-pass.invariant.4 (rw then.0 at c.waits_after-waits.ensures),
    )
