-- The functions of a pass meet their contracts, form by form.
use Prim.Native.Nat.{ℕ, ◌+◌}
use mathlib.Core.Path.{refl, sym, ◌∙◌}
use mathlib.Core.Logic.{inl, inr}
use borrow.Author.Rules.{rules}
use lib.Dec.{lit<}
use Rattle.steps.proofs.Tested.{both_zero, not_both_zero}
use Rattle.steps.proofs.Dispatch.{kind_reads, phase_reads, own_reads, to_kind, by_kind, to_both, by_both, to_half, by_half, to_others, freezable_event, the_last, control_event, argument_reads}
use Rattle.steps.proofs.PendingRuns.{pending_stays}
use Rattle.runner.proofs.Indices.{own_fits, byte_fits}
use Rattle.runner.proofs.Handed.{handed, alone, untouched, passed, can_then, falls_then, ran_then}
use Rattle.runner.proofs.EitherKind.{to_kinds, by_kinds, the_first}
use Rattle.runner.proofs.Falling.{child_rank, form_rank, last_rank, lighter, below_child, below_form, falls_to}
use Rattle.steps.proofs.Ended.{done_run}
use Rattle.steps.proofs.Slices.{all_same, named_then}
use Rattle.steps.proofs.LeafRuns.{event_below}
use Rattle.runner.proofs.ControlRuns.{control_body, control_run, control_rests, control_ends}
use native.Mathlib.Omega.{arith}
use Rattle.steps.specs.Lent.{lent_of, lent_then, HasRun, HasPassed, Named}
use Rattle.steps.specs.Running.{Any}
use Rattle.runner.proofs.HalfRuns.{half_second_in, half_second_few, half_left, half_left_joins, half_left_keeps, half_left_done, half_right, half_right_joins, half_right_done}
use Rattle.runner.proofs.LocalRuns.{local_enters, local_body, local_writes_in, local_done}
use Rattle.runner.proofs.Stages.{Beginning, Starred, InThen}
use Rattle.runner.proofs.GoesOn.{GoesOnAs}
use Rattle.runner.proofs.LoopRuns.{begin_body, begin_writes_in, loop_begun, loop_begins, loop_body, loop_stays, loop_anew}
use Rattle.runner.proofs.ParRuns.{par_second_in, par_joins, par_done}
use Rattle.runner.proofs.ChainRuns.{first_link, above_fits, chain_first, chain_second, next_link, second_done as chain_done}
use Rattle.runner.proofs.RepeatRuns.{TurnsIn, repeat_none, repeat_turn, repeat_by, first_turn, next_turn, times_body, times_own, times_wait, times_end}
use Rattle.runner.proofs.SeqRuns.{second_in, goes_into, second_writes_in, second_done, to_second, by_second, seq_first, seq_second_in, seq_stays, seq_goes_on}
use Rattle.runner.proofs.UntilRuns.{star_tests, star_second_in, star_few, star_body, star_read}
use Rattle.runner.proofs.BreakRuns.{StoppedIn, body_first, body_goes_on, body_stopped, stopped_already}
use Rattle.runner.proofs.Branches.{Branches, by_own_phase}
use Rattle.runner.proofs.WhenRuns.{then_first, then_writes_in, then_done, when_tests, when_suspends, when_branches, when_stops}
use Rattle.runner.proofs.IfRuns.{if_asks, if_branches}
use Rattle.state.specs.Kinds.{loop_kind}
use denote.Enum.Bare.{same_true, same_false}
use Rattle.junior.specs.contracts.Verdict.{the_type}
use Rattle.junior.specs.declared.Verdict.TheVariants.{Unknown}
use Rattle.junior.specs.declared.Flag.TheVariants.{SUSP, STOP, TERM}
use Rattle.steps.proofs.FlagTests.{eq_is, ne_is, ne_not}
use Rattle.steps.specs.Kinds.{OfKind, Break, Choice}
use Rattle.runner.proofs.+run.Goals.{run_loop-Joined-phase-eq-BEGUN, run_loop-then-phase-eq-BEGUN+else-ne, run_loop-else-phase-eq-BEGUN}
use Rattle.runner.proofs.+run.Goals.{run_par-Then-eq-2, run_par-Else-eq-2, run_par-then-kind_at-ne-PAR, run_par-else-kind_at-ne-PAR+then-both_suspended+else-eq, run_par-else-kind_at-ne-PAR+else-both_suspended}
use Rattle.runner.proofs.+run.Goals.{run_repeat-Then-ne, run_repeat-Then-left-eq0, run_repeat-Else-left-eq0, run_repeat-then-phase-eq0, run_repeat-else-phase-eq0, run_repeat-then-kind-eq-NOTHING, run_repeat-else-kind-eq-NOTHING}
use Rattle.runner.proofs.+run.Goals.{run_second-Joined-pass-second-eq-SECOND, run_second-then-pass-second-eq-SECOND, run_second-else-pass-second-eq-SECOND}
use Rattle.runner.proofs.+run.Goals.{run_seq-Joined-kind_at-eq-SEQ, run_seq-then-kind_at-eq-SEQ, run_seq-else-kind_at-eq-SEQ}
use Rattle.runner.proofs.+run.Goals.{run_until-Joined-phase-ne-STARRED, run_until-Else-kind_at-eq-FREEZABLE, run_until-then-phase-ne-STARRED+else-ne, run_until-else-phase-ne-STARRED}
use Rattle.runner.proofs.+run.Goals.{run_when-Else-second, run_when-then-phase-eq0+then-kind_at-eq-IF, run_when-then-phase-eq0+else-kind_at-eq-IF+else-eq+else-pass, run_when-else-phase-eq0}
use Rattle.runner.proofs.+run.Goals as goal

-- A node run once, the most frequent kinds told apart first: whatever function runs it, it is run by the rules.

pub run_child-run_par-requires : goal.run_child-run_par-requires
run_child-run_par-requires t c =
    (below_child _ c.decreases, to_both c.kind_at-kind.ensures.0 c.if-kind-eq-PAR.true (both_zero _ _ (sym c.both_suspended.ensures ∙ c.if-both_suspended.true)) c.requires)

pub run_child-returns-then-both_suspended : goal.run_child-returns-then-both_suspended
run_child-returns-then-both_suspended t c =
    handed (by_both c.kind_at-kind.ensures.0 c.if-kind-eq-PAR.true (both_zero _ _ (sym c.both_suspended.ensures ∙ c.if-both_suspended.true))) c.run_par.ensures

pub run_child-run_half-requires : goal.run_child-run_half-requires
run_child-run_half-requires t c =
    (below_child _ c.decreases, to_half c.kind_at-kind.ensures.0 c.if-kind-eq-PAR.true (not_both_zero _ _ (sym c.both_suspended.ensures ∙ c.if-both_suspended.false)) c.requires)

pub run_child-returns-then-kind-eq-PAR : goal.run_child-returns-then-kind-eq-PAR
run_child-returns-then-kind-eq-PAR t c =
    handed (by_half c.kind_at-kind.ensures.0 c.if-kind-eq-PAR.true (not_both_zero _ _ (sym c.both_suspended.ensures ∙ c.if-both_suspended.false))) c.run_half.ensures

pub run_child-run_await-requires : goal.run_child-run_await-requires
run_child-run_await-requires t c = (_, to_kind c.kind_at-kind.ensures.0 c.if-kind-eq-AWAIT.true c.requires)

pub run_child-returns-then-kind-eq-AWAIT : goal.run_child-returns-then-kind-eq-AWAIT
run_child-returns-then-kind-eq-AWAIT t c = handed (by_kind c.kind_at-kind.ensures.0 c.if-kind-eq-AWAIT.true) (alone c.run_await.ensures)

pub run_child-run_seq-requires : goal.run_child-run_seq-requires
run_child-run_seq-requires t c = (below_child _ c.decreases, to_kind c.kind_at-kind.ensures.0 c.if-kind-eq-SEQ.true c.requires)

pub run_child-returns-then-kind-eq-SEQ : goal.run_child-returns-then-kind-eq-SEQ
run_child-returns-then-kind-eq-SEQ t c = handed (by_kind c.kind_at-kind.ensures.0 c.if-kind-eq-SEQ.true) c.run_seq.ensures

pub run_child-run_nothing-requires : goal.run_child-run_nothing-requires
run_child-run_nothing-requires t c = (_, to_kind c.kind_at-kind.ensures.0 c.in-0.is c.requires)

pub run_child-run_stop-requires : goal.run_child-run_stop-requires
run_child-run_stop-requires t c = (_, to_kind c.kind_at-kind.ensures.0 c.in-1.is c.requires)

pub run_child-run_atom-requires : goal.run_child-run_atom-requires
run_child-run_atom-requires t c = to_kind c.kind_at-kind.ensures.0 c.in-2.is c.requires

pub run_child-run_loop-requires : goal.run_child-run_loop-requires
run_child-run_loop-requires t c = (below_child _ c.decreases, to_kind c.kind_at-kind.ensures.0 c.in-5.is c.requires)

pub run_child-run_repeat-requires : goal.run_child-run_repeat-requires
run_child-run_repeat-requires t c = (below_child _ c.decreases, to_kinds c.kind_at-kind.ensures.0 (inl c.in-6.is) c.requires)

pub run_child-run_repeat-requires-in-15 : goal.run_child-run_repeat-requires-in-15
run_child-run_repeat-requires-in-15 t c = (below_child _ c.decreases, to_kinds c.kind_at-kind.ensures.0 (inr c.in-15.is) c.requires)

pub run_child-run_generate-requires : goal.run_child-run_generate-requires
run_child-run_generate-requires t c = (_, to_kind c.kind_at-kind.ensures.0 c.in-7.is c.requires)

pub run_child-run_when-requires : goal.run_child-run_when-requires
run_child-run_when-requires t c = (below_child _ c.decreases, to_kinds c.kind_at-kind.ensures.0 (inl c.in-9.is) c.requires)

pub run_child-run_until-requires : goal.run_child-run_until-requires
run_child-run_until-requires t c = (below_child _ c.decreases, to_kinds c.kind_at-kind.ensures.0 (inl c.in-10.is) c.requires)

pub run_child-run_control-requires : goal.run_child-run_control-requires
run_child-run_control-requires t c = (below_child _ c.decreases, to_kind c.kind_at-kind.ensures.0 c.in-11.is c.requires)

pub run_child-stays_pending-requires : goal.run_child-stays_pending-requires
run_child-stays_pending-requires t c = freezable_event (to_kind c.kind_at-kind.ensures.0 c.in-13.is c.requires)

pub run_child-returns-then-stays_pending : goal.run_child-returns-then-stays_pending
run_child-returns-then-stays_pending t c =
    let stays = pending_stays (sym c.stays_pending.ensures ∙ c.if-stays_pending.true) in
    untouched (by_kind c.kind_at-kind.ensures.0 c.in-13.is stays)

pub run_child-run_until-requires-in-13 : goal.run_child-run_until-requires-in-13
run_child-run_until-requires-in-13 t c = (below_child _ c.decreases, to_kinds c.kind_at-kind.ensures.0 (inr c.in-13.is) c.requires)

pub run_child-run_when-requires-in-14 : goal.run_child-run_when-requires-in-14
run_child-run_when-requires-in-14 t c = (below_child _ c.decreases, to_kinds c.kind_at-kind.ensures.0 (inr c.in-14.is) c.requires)

pub run_child-run_local-requires : goal.run_child-run_local-requires
run_child-run_local-requires t c =
    let others = to_others c.kind_at-kind.ensures.0 c.if-kind-eq-PAR.false c.if-kind-eq-AWAIT.false c.if-kind-eq-SEQ.false c.requires in
    let local = the_last others c.kind_at-kind.ensures.0 (search rules) in
    (below_child _ c.decreases, to_kind c.kind_at-kind.ensures.0 local c.requires)

pub run_child-returns-in-0 : goal.run_child-returns-in-0
run_child-returns-in-0 t c = handed (by_kind c.kind_at-kind.ensures.0 c.in-0.is) (alone c.run_nothing.ensures)

pub run_child-returns-in-1 : goal.run_child-returns-in-1
run_child-returns-in-1 t c = handed (by_kind c.kind_at-kind.ensures.0 c.in-1.is) (alone c.run_stop.ensures)

pub run_child-returns-in-2 : goal.run_child-returns-in-2
run_child-returns-in-2 t c = handed (by_kind c.kind_at-kind.ensures.0 c.in-2.is) c.run_atom.ensures

pub run_child-returns-in-5 : goal.run_child-returns-in-5
run_child-returns-in-5 t c = handed (by_kind c.kind_at-kind.ensures.0 c.in-5.is) c.run_loop.ensures

pub run_child-returns-in-6 : goal.run_child-returns-in-6
run_child-returns-in-6 t c = handed (by_kinds c.kind_at-kind.ensures.0 (inl c.in-6.is)) c.run_repeat.ensures

pub run_child-returns-in-15 : goal.run_child-returns-in-15
run_child-returns-in-15 t c = handed (by_kinds c.kind_at-kind.ensures.0 (inr c.in-15.is)) c.run_repeat-in-15.ensures

pub run_child-returns-in-7 : goal.run_child-returns-in-7
run_child-returns-in-7 t c = handed (by_kind c.kind_at-kind.ensures.0 c.in-7.is) (alone c.run_generate.ensures)

pub run_child-returns-in-9 : goal.run_child-returns-in-9
run_child-returns-in-9 t c = handed (by_kinds c.kind_at-kind.ensures.0 (inl c.in-9.is)) c.run_when.ensures

pub run_child-returns-in-10 : goal.run_child-returns-in-10
run_child-returns-in-10 t c = handed (by_kinds c.kind_at-kind.ensures.0 (inl c.in-10.is)) c.run_until.ensures

pub run_child-returns-in-11 : goal.run_child-returns-in-11
run_child-returns-in-11 t c = handed (by_kind c.kind_at-kind.ensures.0 c.in-11.is) c.run_control.ensures

pub run_child-returns-else-stays_pending : goal.run_child-returns-else-stays_pending
run_child-returns-else-stays_pending t c = handed (by_kinds c.kind_at-kind.ensures.0 (inr c.in-13.is)) c.run_until-in-13.ensures

pub run_child-returns-in-14 : goal.run_child-returns-in-14
run_child-returns-in-14 t c = handed (by_kinds c.kind_at-kind.ensures.0 (inr c.in-14.is)) c.run_when-in-14.ensures

pub run_child-returns-in_default : goal.run_child-returns-in_default
run_child-returns-in_default t c =
    let others = to_others c.kind_at-kind.ensures.0 c.if-kind-eq-PAR.false c.if-kind-eq-AWAIT.false c.if-kind-eq-SEQ.false c.requires in
    let local = the_last others c.kind_at-kind.ensures.0 (search rules) in
    handed (by_kind c.kind_at-kind.ensures.0 local) c.run_local.ensures

pub run_child-kind_at-kind-requires : goal.run_child-kind_at-kind-requires
run_child-kind_at-kind-requires t c = kind_reads c.requires

pub run_child-bounds-pass-i : goal.run_child-bounds-pass-i
run_child-bounds-pass-i t c = phase_reads c.requires

pub run_child-bounds-pass-i-then-kind-eq-PAR : goal.run_child-bounds-pass-i-then-kind-eq-PAR
run_child-bounds-pass-i-then-kind-eq-PAR t c = own_reads c.requires 1 (lit< tt)

pub run_child-bounds-pass-i-in-13 : goal.run_child-bounds-pass-i-in-13
run_child-bounds-pass-i-in-13 t c = phase_reads c.requires

-- A Control meets its contract: rules 26 to 28.
pub run_control-returns-then-pass-i-eq-GONE : goal.run_control-returns-then-pass-i-eq-GONE
run_control-returns-then-pass-i-eq-GONE t c = passed (done_run c.if-pass-i-eq-GONE.true) all_same

pub run_control-argument_at-requires : goal.run_control-argument_at-requires
run_control-argument_at-requires t c = argument_reads c.requires

pub run_control-has_event-requires : goal.run_control-has_event-requires
run_control-has_event-requires t c =
    event_below c.argument_at.ensures.0 (control_event c.requires)

pub run_control-run_child-requires : goal.run_control-run_child-requires
run_control-run_child-requires t c = control_body c.if-pass-i-eq-GONE.false c.argument_at.ensures.0 (sym c.has_event.ensures ∙ c.if-has_event.true) c.requires c.decreases

pub run_control-returns-then-has_event : goal.run_control-returns-then-has_event
run_control-returns-then-has_event t c =
    handed (control_run c.if-pass-i-eq-GONE.false c.argument_at.ensures.0 (sym c.has_event.ensures ∙ c.if-has_event.true)) c.run_child.ensures

pub run_control-returns : goal.run_control-returns
run_control-returns t c =
    let absent = sym c.has_event.ensures ∙ c.if-has_event.false in
    untouched (control_ends c.if-pass-i-eq-GONE.false c.argument_at.ensures.0 absent c.if-not-pass.false)

pub run_control-returns-then-not-pass : goal.run_control-returns-then-not-pass
run_control-returns-then-not-pass t c =
    let absent = sym c.has_event.ensures ∙ c.if-has_event.false in
    untouched (control_rests c.if-pass-i-eq-GONE.false c.argument_at.ensures.0 absent c.if-not-pass.true)

pub run_control-bounds-pass-i : goal.run_control-bounds-pass-i
run_control-bounds-pass-i t c = phase_reads c.requires

pub run_control-bounds-pass-i-then-pass-i-eq-GONE : goal.run_control-bounds-pass-i-then-pass-i-eq-GONE
run_control-bounds-pass-i-then-pass-i-eq-GONE t c = phase_reads c.requires

-- A Par of which one branch is run meets its contract: rules 10 and 11.
pub run_half-returns-then-pass-i-eq-GONE : goal.run_half-returns-then-pass-i-eq-GONE
run_half-returns-then-pass-i-eq-GONE t c = passed (done_run c.if-pass-i-eq-GONE.true) all_same

pub run_half-second_at-second-requires : goal.run_half-second_at-second-requires
run_half-second_at-second-requires t c = half_second_in c.if-pass-i-eq-GONE.false c.requires

pub run_half-run_child-f-requires : goal.run_half-run_child-f-requires
run_half-run_child-f-requires t c = half_left c.if-pass-i-eq-GONE.false c.if-low-eq0.true c.requires c.decreases

pub run_half-overflow_mul-second : goal.run_half-overflow_mul-second
run_half-overflow_mul-second t c = omega (arith, half_second_few c.if-pass-i-eq-GONE.false c.requires c.second_at-second.ensures)

pub run_half-first_ran-requires : goal.run_half-first_ran-requires
run_half-first_ran-requires t c =
    let on = c.if-pass-i-eq-GONE.false in
    let is = c.second_at-second.ensures in
    let run = c.run_child-f.ensures.has_run in
    record { in_bounds = half_left_joins on c.if-low-eq0.true is run c.requires; flags_before = rw c.flag_at-g.ensures (half_left_keeps on c.if-low-eq0.true is run c.requires) }

pub run_half-returns-then-low-eq0 : goal.run_half-returns-then-low-eq0
run_half-returns-then-low-eq0 t c =
    let on = c.if-pass-i-eq-GONE.false in
    let is = c.second_at-second.ensures in
    let run = c.run_child-f.ensures.has_run in
    passed (half_left_done on c.if-low-eq0.true is run (rw c.flag_at-g.ensures at c.first_ran.ensures)) c.run_child-f.ensures.named

pub run_half-run_child-g-requires : goal.run_half-run_child-g-requires
run_half-run_child-g-requires t c =
    falls_to form_rank child_rank (lit< tt) (half_right c.if-pass-i-eq-GONE.false c.if-low-eq0.false c.second_at-second.ensures c.requires) c.decreases

pub run_half-overflow_mul-second-2 : goal.run_half-overflow_mul-second-2
run_half-overflow_mul-second-2 t c = own_fits (half_right c.if-pass-i-eq-GONE.false c.if-low-eq0.false c.second_at-second.ensures c.requires).1

pub run_half-par_end-requires : goal.run_half-par_end-requires
run_half-par_end-requires t c =
    let on = c.if-pass-i-eq-GONE.false in
    let is = c.second_at-second.ensures in
    let run = c.run_child-g.ensures.has_run in
    half_right_joins on c.if-low-eq0.false is run c.requires

pub run_half-returns : goal.run_half-returns
run_half-returns t c =
    let on = c.if-pass-i-eq-GONE.false in
    let is = c.second_at-second.ensures in
    let run = c.run_child-g.ensures.has_run in
    passed (half_right_done on c.if-low-eq0.false is run (rw c.flag_at.ensures at c.par_end.ensures)) c.run_child-g.ensures.named

pub run_half-bounds-pass-i : goal.run_half-bounds-pass-i
run_half-bounds-pass-i t c = phase_reads c.requires

pub run_half-bounds-pass-i-then-pass-i-eq-GONE : goal.run_half-bounds-pass-i-then-pass-i-eq-GONE
run_half-bounds-pass-i-then-pass-i-eq-GONE t c = phase_reads c.requires

pub run_half-overflow_add-flags : goal.run_half-overflow_add-flags
run_half-overflow_add-flags t c = byte_fits c.requires 1 (lit< tt)

pub run_half-bounds-pass-i-2 : goal.run_half-bounds-pass-i-2
run_half-bounds-pass-i-2 t c = own_reads c.requires 1 (lit< tt)

-- A Local meets its contract: rules 35 to 39.
pub run_local-returns-then-phase-eq-GONE : goal.run_local-returns-then-phase-eq-GONE
run_local-returns-then-phase-eq-GONE t c = passed (done_run c.if-phase-eq-GONE.true) all_same

pub run_local-exchange_event-outside-requires : goal.run_local-exchange_event-outside-requires
run_local-exchange_event-outside-requires t c = local_enters c.if-phase-eq-GONE.false c.argument_at-event.ensures.0 c.requires

pub run_local-run_child-f-requires : goal.run_local-run_child-f-requires
run_local-run_child-f-requires t c =
    falls_to form_rank child_rank (lit< tt) (local_body c.if-phase-eq-GONE.false c.argument_at-event.ensures.0 c.exchange_event-outside.ensures.1 c.requires) c.decreases

pub run_local-exchange_event-inside-requires : goal.run_local-exchange_event-inside-requires
run_local-exchange_event-inside-requires t c =
    local_enters c.if-phase-eq-GONE.false c.argument_at-event.ensures.0 c.requires

pub run_local-returns : goal.run_local-returns
run_local-returns t c =
    let (was, marked) = c.exchange_event-outside.ensures in
    let done = local_done c.if-phase-eq-GONE.false c.argument_at-event.ensures.0 marked c.run_child-f.ensures.has_run was c.exchange_event-inside.ensures c.sign_after.ensures in
    passed done c.run_child-f.ensures.named

pub run_local-bounds-pass-i-2 : goal.run_local-bounds-pass-i-2
run_local-bounds-pass-i-2 t c =
    local_writes_in c.if-phase-eq-GONE.false c.argument_at-event.ensures.0 c.exchange_event-outside.ensures.1 c.run_child-f.ensures.has_run c.requires

pub run_local-bounds-pass-i : goal.run_local-bounds-pass-i
run_local-bounds-pass-i t c = phase_reads c.requires

pub run_local-bounds-pass-i-then-phase-eq-GONE : goal.run_local-bounds-pass-i-then-phase-eq-GONE
run_local-bounds-pass-i-then-phase-eq-GONE t c = phase_reads c.requires

pub run_local-argument_at-event-requires : goal.run_local-argument_at-event-requires
run_local-argument_at-event-requires t c = argument_reads c.requires

-- A Loop meets its contract: rule 12 when its body begins, 4 and 5 in the rest of it.
pub run_loop-returns-then-phase-eq-GONE : goal.run_loop-returns-then-phase-eq-GONE
run_loop-returns-then-phase-eq-GONE t c = passed (done_run c.if-phase-eq-GONE.true) all_same

pub run_loop-run_child-f-requires : goal.run_loop-run_child-f-requires
run_loop-run_child-f-requires t c = loop_body c.if-phase-eq-BEGUN.true c.requires c.decreases

pub run_loop-returns-then-ne : goal.run_loop-returns-then-ne
run_loop-returns-then-ne t c = handed (λ run. loop_stays c.if-phase-eq-BEGUN.true run (ne_is _ TERM c.ne.ensures c.if-ne.true)) c.run_child-f.ensures

-- the body begins, at once or since it has ended
begins : (t : ℕ) (c : run_loop-Joined-phase-eq-BEGUN t) → let a = c.args in let now = c.if-phase-eq-BEGUN in
    GoesOnAs Beginning (OfKind loop_kind) (lent_of a.pass.now) a.i (lent_then a.pass.now now.pass)
    × Named a.pass.now now.pass
begins t c =
    elim c.if-phase-eq-BEGUN.branch [
      | run_loop-then-phase-eq-BEGUN+else-ne w ↦
          rw w.pass-is (loop_anew w.if-phase-eq-BEGUN.true w.run_child-f.ensures.has_run (ne_not _ TERM w.ne.ensures w.if-ne.false) c.requires, w.run_child-f.ensures.named)
      | run_loop-else-phase-eq-BEGUN w ↦
          rw w.pass-is (loop_begins c.if-phase-eq-GONE.false w.if-phase-eq-BEGUN.false c.requires, all_same)
    ]

pub run_loop-run_child-f-requires-2 : goal.run_loop-run_child-f-requires-2
run_loop-run_child-f-requires-2 t c =
    let (on, same) = begins t (goal.at.run_loop-run_child-f-requires-2 t c).Joined-phase-eq-BEGUN in
    falls_then same.0 child_rank (begin_body on.can c.decreases)

pub run_loop-returns : goal.run_loop-returns
run_loop-returns t c =
    let (on, same) = begins t (goal.at.run_loop-returns t c).Joined-phase-eq-BEGUN in
    let ran = c.run_child-f-2.ensures in
    passed (on.has (loop_begun (ran_then same.0 ran.has_run))) (named_then same ran.named)

pub run_loop-bounds-pass-i-2 : goal.run_loop-bounds-pass-i-2
run_loop-bounds-pass-i-2 t c =
    let (on, same) = begins t (goal.at.run_loop-bounds-pass-i-2 t c).Joined-phase-eq-BEGUN in
    begin_writes_in (ran_then same.0 c.run_child-f-2.ensures.has_run) on.can

pub run_loop-bounds-pass-i : goal.run_loop-bounds-pass-i
run_loop-bounds-pass-i t c = phase_reads c.requires

pub run_loop-bounds-pass-i-then-phase-eq-GONE : goal.run_loop-bounds-pass-i-then-phase-eq-GONE
run_loop-bounds-pass-i-then-phase-eq-GONE t c = phase_reads c.requires

-- A Par of which both branches are run meets its contract: rule 8.
pub run_par-run_child-f-requires : goal.run_par-run_child-f-requires
run_par-run_child-f-requires t c =
    let (u, same) = c.loop-pass.invariant in
    falls_then same.0 child_rank (chain_first u c.decreases)

pub run_par-run_child-g-requires : goal.run_par-run_child-g-requires
run_par-run_child-g-requires t c =
    let (u, same) = c.loop-pass.invariant in
    let first = ran_then same.0 c.run_child-f.ensures.has_run in
    let then = named_then same c.run_child-f.ensures.named in
    let is = rw then.0 at c.second_at-second.ensures in
    let (_, l, s) = chain_second u first is in
    falls_then then.0 child_rank (falls_to form_rank child_rank (lit< tt) (l, s) c.decreases)

pub run_par-loop-pass-preserved : goal.run_par-loop-pass-preserved
run_par-loop-pass-preserved t c =
    let (u, same) = c.loop-pass.invariant in
    let first = ran_then same.0 c.run_child-f.ensures.has_run in
    let then = named_then same c.run_child-f.ensures.named in
    let is = rw then.0 at c.second_at-second.ensures in
    let kind = rw then.0 at c.kind_at.ensures.0 in
    let z = both_zero _ _ (sym c.both_suspended.ensures ∙ c.if-both_suspended.true) in
    let s = (chain_second u first is).2 in
    (next_link u first is (eq_is _ SUSP c.eq.ensures c.if-eq.true) (to_both kind c.if-kind_at-ne-PAR.false z s) (λ L' r run. by_both kind c.if-kind_at-ne-PAR.false z run), then)

pub run_par-run_par-requires : goal.run_par-run_par-requires
run_par-run_par-requires t c =
    let (u, same) = c.loop-pass.invariant in
    let first = ran_then same.0 c.run_child-f.ensures.has_run in
    let then = named_then same c.run_child-f.ensures.named in
    let is = rw then.0 at c.second_at-second.ensures in
    let kind = rw then.0 at c.kind_at.ensures.0 in
    let (_, l, s) = chain_second u first is in
    let z = both_zero _ _ (sym c.both_suspended.ensures ∙ c.if-both_suspended.true) in
    falls_then then.0 form_rank (lighter form_rank form_rank (lit< tt) l c.decreases, to_both kind c.if-kind_at-ne-PAR.false z s)

pub run_par-run_half-requires : goal.run_par-run_half-requires
run_par-run_half-requires t c =
    let (u, same) = c.loop-pass.invariant in
    let first = ran_then same.0 c.run_child-f.ensures.has_run in
    let then = named_then same c.run_child-f.ensures.named in
    let is = rw then.0 at c.second_at-second.ensures in
    let kind = rw then.0 at c.kind_at.ensures.0 in
    let (_, l, s) = chain_second u first is in
    let z = not_both_zero _ _ (sym c.both_suspended.ensures ∙ c.if-both_suspended.false) in
    falls_then then.0 form_rank (lighter form_rank form_rank (lit< tt) l c.decreases, to_half kind c.if-kind_at-ne-PAR.false z s)

-- the second branch has run, by one of the three: where the first is suspended
beside_suspended : (t : ℕ) (c : run_par-Then-eq-2 t) → let first = c.run_child-f.new in let now = c.if-kind_at-ne-PAR in
    HasPassed 0 Any first.pass c.second_at-second.result now.pass now.g
beside_suspended t c =
    elim c.if-kind_at-ne-PAR.branch [
      | run_par-then-kind_at-ne-PAR w ↦ rw (w.pass-is, w.g-is) w.run_child-g.ensures
      | run_par-else-kind_at-ne-PAR+then-both_suspended+else-eq w ↦ rw (w.pass-is, w.g-is) (handed (by_both c.kind_at.ensures.0 w.if-kind_at-ne-PAR.false (both_zero _ _ (sym w.both_suspended.ensures ∙ w.if-both_suspended.true))) w.run_par.ensures)
      | run_par-else-kind_at-ne-PAR+else-both_suspended w ↦ rw (w.pass-is, w.g-is) (handed (by_half c.kind_at.ensures.0 w.if-kind_at-ne-PAR.false (not_both_zero _ _ (sym w.both_suspended.ensures ∙ w.if-both_suspended.false))) w.run_half.ensures)
    ]

-- and where it isn't
beside_ended : (t : ℕ) (c : run_par-Else-eq-2 t) → let first = c.run_child-f.new in let now = c.if-kind_at-ne-PAR in
    HasPassed 0 Any first.pass c.second_at-second.result now.pass now.g
beside_ended t c =
    elim c.if-kind_at-ne-PAR.branch [
      | run_par-then-kind_at-ne-PAR w ↦ rw (w.pass-is, w.g-is) w.run_child-g.ensures
      | run_par-else-kind_at-ne-PAR+then-both_suspended+else-eq w ↦ rw (w.pass-is, w.g-is) (handed (by_both c.kind_at.ensures.0 w.if-kind_at-ne-PAR.false (both_zero _ _ (sym w.both_suspended.ensures ∙ w.if-both_suspended.true))) w.run_par.ensures)
      | run_par-else-kind_at-ne-PAR+else-both_suspended w ↦ rw (w.pass-is, w.g-is) (handed (by_half c.kind_at.ensures.0 w.if-kind_at-ne-PAR.false (not_both_zero _ _ (sym w.both_suspended.ensures ∙ w.if-both_suspended.false))) w.run_half.ensures)
    ]

pub run_par-second_ran-requires : goal.run_par-second_ran-requires
run_par-second_ran-requires t c =
    let (u, same) = c.loop-pass.invariant in
    let first = ran_then same.0 c.run_child-f.ensures.has_run in
    let then = named_then same c.run_child-f.ensures.named in
    let is = rw then.0 at c.second_at-second.ensures in
    let ran = beside_suspended t (goal.at.run_par-second_ran-requires t c).Then-eq-2 in
    let second = ran_then then.0 ran.has_run in
    let (bounds, flags) = par_joins first is second u.can in
    record { in_bounds = bounds; flags_before = flags }

pub run_par-returns-then-eq-2 : goal.run_par-returns-then-eq-2
run_par-returns-then-eq-2 t c =
    let (u, same) = c.loop-pass.invariant in
    let first = ran_then same.0 c.run_child-f.ensures.has_run in
    let then = named_then same c.run_child-f.ensures.named in
    let is = rw then.0 at c.second_at-second.ensures in
    let ran = beside_suspended t (goal.at.run_par-returns-then-eq-2 t c).Then-eq-2 in
    let second = ran_then then.0 ran.has_run in
    passed (chain_done u first is (eq_is _ SUSP c.eq-in-loop-pass.ensures c.if-eq-2.true) second c.second_ran.ensures) (named_then then ran.named)

pub run_par-heard_above-requires : goal.run_par-heard_above-requires
run_par-heard_above-requires t c =
    let (u, same) = c.loop-pass.invariant in
    let first = ran_then same.0 c.run_child-f.ensures.has_run in
    let then = named_then same c.run_child-f.ensures.named in
    let is = rw then.0 at c.second_at-second.ensures in
    let ran = beside_ended t (goal.at.run_par-heard_above-requires t c).Else-eq-2 in
    let second = ran_then then.0 ran.has_run in
    u.heard_asks (par_done first is second c.both_ran-r.ensures)

pub run_par-returns-in-loop-pass : goal.run_par-returns-in-loop-pass
run_par-returns-in-loop-pass t c =
    let (u, same) = c.loop-pass.invariant in
    let first = ran_then same.0 c.run_child-f.ensures.has_run in
    let then = named_then same c.run_child-f.ensures.named in
    let is = rw then.0 at c.second_at-second.ensures in
    let ran = beside_ended t (goal.at.run_par-returns-in-loop-pass t c).Else-eq-2 in
    let second = ran_then then.0 ran.has_run in
    passed (u.goes_on (par_done first is second c.both_ran-r.ensures) c.heard_above.ensures) (named_then then ran.named)

pub run_par-loop-pass-init : goal.run_par-loop-pass-init
run_par-loop-pass-init t c = (first_link c.requires, all_same)

pub run_par-second_at-second-requires : goal.run_par-second_at-second-requires
run_par-second_at-second-requires t c =
    let (u, same) = c.loop-pass.invariant in
    rw (named_then same c.run_child-f.ensures.named).0 (par_second_in u.can)

pub run_par-kind_at-requires : goal.run_par-kind_at-requires
run_par-kind_at-requires t c =
    let (u, same) = c.loop-pass.invariant in
    let first = ran_then same.0 c.run_child-f.ensures.has_run in
    let then = named_then same c.run_child-f.ensures.named in
    let is = rw then.0 at c.second_at-second.ensures in
    rw then.0 (kind_reads (chain_second u first is).2)

pub run_par-overflow_mul-second : goal.run_par-overflow_mul-second
run_par-overflow_mul-second t c =
    let (u, same) = c.loop-pass.invariant in
    let first = ran_then same.0 c.run_child-f.ensures.has_run in
    let then = named_then same c.run_child-f.ensures.named in
    let is = rw then.0 at c.second_at-second.ensures in
    own_fits (chain_second u first is).2

pub run_par-bounds-pass-second : goal.run_par-bounds-pass-second
run_par-bounds-pass-second t c =
    let (u, same) = c.loop-pass.invariant in
    let first = ran_then same.0 c.run_child-f.ensures.has_run in
    let then = named_then same c.run_child-f.ensures.named in
    let is = rw then.0 at c.second_at-second.ensures in
    phase_reads (chain_second u first is).2

pub run_par-overflow_mul-second-else-kind_at-ne-PAR : goal.run_par-overflow_mul-second-else-kind_at-ne-PAR
run_par-overflow_mul-second-else-kind_at-ne-PAR t c =
    let (u, same) = c.loop-pass.invariant in
    let first = ran_then same.0 c.run_child-f.ensures.has_run in
    let then = named_then same c.run_child-f.ensures.named in
    let is = rw then.0 at c.second_at-second.ensures in
    own_fits (chain_second u first is).2

pub run_par-overflow_add-second : goal.run_par-overflow_add-second
run_par-overflow_add-second t c =
    let (u, same) = c.loop-pass.invariant in
    let first = ran_then same.0 c.run_child-f.ensures.has_run in
    let then = named_then same c.run_child-f.ensures.named in
    let is = rw then.0 at c.second_at-second.ensures in
    byte_fits (chain_second u first is).2 1 (lit< tt)

pub run_par-bounds-pass-second-else-kind_at-ne-PAR : goal.run_par-bounds-pass-second-else-kind_at-ne-PAR
run_par-bounds-pass-second-else-kind_at-ne-PAR t c =
    let (u, same) = c.loop-pass.invariant in
    let first = ran_then same.0 c.run_child-f.ensures.has_run in
    let then = named_then same c.run_child-f.ensures.named in
    let is = rw then.0 at c.second_at-second.ensures in
    own_reads (chain_second u first is).2 1 (lit< tt)

pub run_par-loop-pass-smaller : goal.run_par-loop-pass-smaller
run_par-loop-pass-smaller t c =
    let (u, same) = c.loop-pass.invariant in
    let first = ran_then same.0 c.run_child-f.ensures.has_run in
    let then = named_then same c.run_child-f.ensures.named in
    let is = rw then.0 at c.second_at-second.ensures in
    (chain_second u first is).0

pub run_par-overflow_mul-second-then-eq-2 : goal.run_par-overflow_mul-second-then-eq-2
run_par-overflow_mul-second-then-eq-2 t c =
    let (u, same) = c.loop-pass.invariant in
    let first = ran_then same.0 c.run_child-f.ensures.has_run in
    let then = named_then same c.run_child-f.ensures.named in
    let is = rw then.0 at c.second_at-second.ensures in
    own_fits (chain_second u first is).2

pub run_par-overflow_mul-second-in-loop-pass : goal.run_par-overflow_mul-second-in-loop-pass
run_par-overflow_mul-second-in-loop-pass t c =
    let (u, same) = c.loop-pass.invariant in
    let first = ran_then same.0 c.run_child-f.ensures.has_run in
    let then = named_then same c.run_child-f.ensures.named in
    let is = rw then.0 at c.second_at-second.ensures in
    own_fits (chain_second u first is).2

pub run_par-both_ran-r-requires : goal.run_par-both_ran-r-requires
run_par-both_ran-r-requires t c =
    let (u, same) = c.loop-pass.invariant in
    let first = ran_then same.0 c.run_child-f.ensures.has_run in
    let then = named_then same c.run_child-f.ensures.named in
    let is = rw then.0 at c.second_at-second.ensures in
    let ran = beside_ended t (goal.at.run_par-both_ran-r-requires t c).Else-eq-2 in
    let second = ran_then then.0 ran.has_run in
    let (bounds, flags) = par_joins first is second u.can in
    record { in_bounds = bounds; flags_before = flags }

pub run_par-overflow_mul-above : goal.run_par-overflow_mul-above
run_par-overflow_mul-above t c = above_fits c.loop-pass.invariant.0

-- A Repeat or a RepeatExt meets its contract: rules 14 and 15 when it begins, 4 and 5 in the rest of a run of its body.
pub run_repeat-returns-then-phase-eq-GONE : goal.run_repeat-returns-then-phase-eq-GONE
run_repeat-returns-then-phase-eq-GONE t c = passed (done_run c.if-phase-eq-GONE.true) all_same

pub run_repeat-times_at-turns-requires : goal.run_repeat-times_at-turns-requires
run_repeat-times_at-turns-requires t c = argument_reads c.requires

pub run_repeat-returns-then-turns-eq0 : goal.run_repeat-returns-then-turns-eq0
run_repeat-returns-then-turns-eq0 t c =
    let turns : TurnsIn (lent_of c.args.pass.now) c.args.i c.if-phase-eq0.turns = elim c.if-phase-eq0.branch [
      | run_repeat-then-phase-eq0 w ↦ inl (w.if-phase-eq0.true, w.turns-is ∙ w.times_at-turns.ensures)
      | run_repeat-else-phase-eq0 w ↦ inr (w.if-phase-eq0.false, w.turns-is ∙ w.turns_left-turns.ensures)
    ] in
    untouched (repeat_none c.if-phase-eq-GONE.false turns c.if-turns-eq0.true)

pub run_repeat-kind_at-kind-requires : goal.run_repeat-kind_at-kind-requires
run_repeat-kind_at-kind-requires t c =
    let turns : TurnsIn (lent_of c.args.pass.now) c.args.i c.if-phase-eq0.turns = elim c.if-phase-eq0.branch [
      | run_repeat-then-phase-eq0 w ↦ inl (w.if-phase-eq0.true, w.turns-is ∙ w.times_at-turns.ensures)
      | run_repeat-else-phase-eq0 w ↦ inr (w.if-phase-eq0.false, w.turns-is ∙ w.turns_left-turns.ensures)
    ] in
    kind_reads (times_body (repeat_turn c.if-phase-eq-GONE.false turns c.if-turns-eq0.false c.requires).0).1

pub run_repeat-loop-pass-init : goal.run_repeat-loop-pass-init
run_repeat-loop-pass-init t c =
    let turns : TurnsIn (lent_of c.args.pass.now) c.args.i c.if-phase-eq0.turns = elim c.if-phase-eq0.branch [
      | run_repeat-then-phase-eq0 w ↦ inl (w.if-phase-eq0.true, w.turns-is ∙ w.times_at-turns.ensures)
      | run_repeat-else-phase-eq0 w ↦ inr (w.if-phase-eq0.false, w.turns-is ∙ w.turns_left-turns.ensures)
    ] in
    let (o, z) = repeat_turn c.if-phase-eq-GONE.false turns c.if-turns-eq0.false c.requires in
    (turns, first_turn o z, all_same)

pub run_repeat-run_nothing-f-requires : goal.run_repeat-run_nothing-f-requires
run_repeat-run_nothing-f-requires t c =
    let (_, turn, same) = c.loop-pass.invariant in
    (_, can_then same.0 (to_kind c.kind_at-kind.ensures.0 c.if-kind-eq-NOTHING.true (times_body turn.can).1))

pub run_repeat-run_child-f-requires : goal.run_repeat-run_child-f-requires
run_repeat-run_child-f-requires t c =
    let (_, turn, same) = c.loop-pass.invariant in
    falls_then same.0 child_rank (falls_to form_rank child_rank (lit< tt) (times_body turn.can) c.decreases)

-- the body has run, by the one or the other: it goes on
turn_stays : (t : ℕ) (c : run_repeat-Then-ne t) → let p = c.args.pass.now in let was = c.loop-pass.pass in let now = c.if-kind-eq-NOTHING in
    HasRun 0 Any (lent_then p was) (c.args.i + 1) (lent_then p now.pass) now.f × Named p now.pass
turn_stays t c =
    let same = c.loop-pass.invariant.2 in
    elim c.if-kind-eq-NOTHING.branch [
      | run_repeat-then-kind-eq-NOTHING w ↦ rw (w.pass-is, w.f-is)
          (by_kind c.kind_at-kind.ensures.0 w.if-kind-eq-NOTHING.true (ran_then same.0 (alone w.run_nothing-f.ensures).has_run), named_then same w.run_nothing-f.ensures.named)
      | run_repeat-else-kind-eq-NOTHING w ↦ rw (w.pass-is, w.f-is) (ran_then same.0 w.run_child-f.ensures.has_run, named_then same w.run_child-f.ensures.named)
    ]

-- it has ended, as the last
turn_ends : (t : ℕ) (c : run_repeat-Then-left-eq0 t) → let p = c.args.pass.now in let was = c.loop-pass.pass in let now = c.if-kind-eq-NOTHING in
    HasRun 0 Any (lent_then p was) (c.args.i + 1) (lent_then p now.pass) now.f × Named p now.pass
turn_ends t c =
    let same = c.loop-pass.invariant.2 in
    elim c.if-kind-eq-NOTHING.branch [
      | run_repeat-then-kind-eq-NOTHING w ↦ rw (w.pass-is, w.f-is)
          (by_kind c.kind_at-kind.ensures.0 w.if-kind-eq-NOTHING.true (ran_then same.0 (alone w.run_nothing-f.ensures).has_run), named_then same w.run_nothing-f.ensures.named)
      | run_repeat-else-kind-eq-NOTHING w ↦ rw (w.pass-is, w.f-is) (ran_then same.0 w.run_child-f.ensures.has_run, named_then same w.run_child-f.ensures.named)
    ]

-- and not as the last
turn_again : (t : ℕ) (c : run_repeat-Else-left-eq0 t) → let p = c.args.pass.now in let was = c.loop-pass.pass in let now = c.if-kind-eq-NOTHING in
    HasRun 0 Any (lent_then p was) (c.args.i + 1) (lent_then p now.pass) now.f × Named p now.pass
turn_again t c =
    let same = c.loop-pass.invariant.2 in
    elim c.if-kind-eq-NOTHING.branch [
      | run_repeat-then-kind-eq-NOTHING w ↦ rw (w.pass-is, w.f-is)
          (by_kind c.kind_at-kind.ensures.0 w.if-kind-eq-NOTHING.true (ran_then same.0 (alone w.run_nothing-f.ensures).has_run), named_then same w.run_nothing-f.ensures.named)
      | run_repeat-else-kind-eq-NOTHING w ↦ rw (w.pass-is, w.f-is) (ran_then same.0 w.run_child-f.ensures.has_run, named_then same w.run_child-f.ensures.named)
    ]

pub run_repeat-begin_turn-requires : goal.run_repeat-begin_turn-requires
run_repeat-begin_turn-requires t c =
    let ran = turn_stays t (goal.at.run_repeat-begin_turn-requires t c).Then-ne in
    times_own ran.0 c.loop-pass.invariant.1.can

pub run_repeat-returns-then-ne : goal.run_repeat-returns-then-ne
run_repeat-returns-then-ne t c =
    let ran = turn_stays t (goal.at.run_repeat-returns-then-ne t c).Then-ne in
    let waits = times_wait ran.0 c.loop-pass.invariant.1.no_flags_yet (ne_is _ TERM c.ne.ensures c.if-ne.true) c.begin_turn.ensures in
    passed (repeat_by c.if-phase-eq-GONE.false c.loop-pass.invariant.0 c.if-turns-eq0.false (c.loop-pass.invariant.1.goes_on waits)) ran.1

pub run_repeat-end_turns-requires : goal.run_repeat-end_turns-requires
run_repeat-end_turns-requires t c =
    let ran = turn_ends t (goal.at.run_repeat-end_turns-requires t c).Then-left-eq0 in
    (times_own ran.0 c.loop-pass.invariant.1.can).0

pub run_repeat-returns-then-left-eq0 : goal.run_repeat-returns-then-left-eq0
run_repeat-returns-then-left-eq0 t c =
    let ran = turn_ends t (goal.at.run_repeat-returns-then-left-eq0 t c).Then-left-eq0 in
    let ends = times_end ran.0 c.loop-pass.invariant.1.no_flags_yet (ne_not _ TERM c.ne.ensures c.if-ne.false) c.if-left-eq0.true c.end_turns.ensures in
    passed (repeat_by c.if-phase-eq-GONE.false c.loop-pass.invariant.0 c.if-turns-eq0.false (c.loop-pass.invariant.1.goes_on ends)) ran.1

pub run_repeat-loop-pass-preserved : goal.run_repeat-loop-pass-preserved
run_repeat-loop-pass-preserved t c =
    let ran = turn_again t (goal.at.run_repeat-loop-pass-preserved t c).Else-left-eq0 in
    (c.loop-pass.invariant.0, next_turn c.loop-pass.invariant.1 ran.0 (ne_not _ TERM c.ne.ensures c.if-ne.false) c.if-left-eq0.false, ran.1)

pub run_repeat-bounds-pass-i : goal.run_repeat-bounds-pass-i
run_repeat-bounds-pass-i t c = phase_reads c.requires

pub run_repeat-bounds-pass-i-then-phase-eq-GONE : goal.run_repeat-bounds-pass-i-then-phase-eq-GONE
run_repeat-bounds-pass-i-then-phase-eq-GONE t c = phase_reads c.requires

pub run_repeat-overflow_add-i : goal.run_repeat-overflow_add-i
run_repeat-overflow_add-i t c = byte_fits c.requires 2 (lit< tt)

pub run_repeat-bounds-pass-i-else-phase-eq0 : goal.run_repeat-bounds-pass-i-else-phase-eq0
run_repeat-bounds-pass-i-else-phase-eq0 t c = own_reads c.requires 2 (lit< tt)

-- A Seq, When or Until in its second child meets its contract: in phase 2 until that ends.
pub run_second-run_second-f-requires : goal.run_second-run_second-f-requires
run_second-run_second-f-requires t c =
    let (l, s) = goes_into c.second_at-second.ensures c.requires in
    (lighter last_rank last_rank (lit< tt) l c.decreases, to_second c.if-pass-second-eq-SECOND.true s)

pub run_second-run_child-f-requires : goal.run_second-run_child-f-requires
run_second-run_child-f-requires t c = falls_to last_rank child_rank (lit< tt) (goes_into c.second_at-second.ensures c.requires) c.decreases

-- the second child has run, by the one or the other
second_child_ran : (t : ℕ) (c : run_second-Joined-pass-second-eq-SECOND t) → let a = c.args in let now = c.if-pass-second-eq-SECOND in
    HasPassed 0 Any a.pass.now c.second_at-second.result now.pass now.f
second_child_ran t c =
    elim c.if-pass-second-eq-SECOND.branch [
      | run_second-then-pass-second-eq-SECOND w ↦ rw (w.pass-is, w.f-is) (handed (by_second w.if-pass-second-eq-SECOND.true) w.run_second-f.ensures)
      | run_second-else-pass-second-eq-SECOND w ↦ rw (w.pass-is, w.f-is) w.run_child-f.ensures
    ]

pub run_second-returns : goal.run_second-returns
run_second-returns t c =
    let ran = second_child_ran t (goal.at.run_second-returns t c).Joined-pass-second-eq-SECOND in
    passed (second_done c.second_at-second.ensures ran.has_run c.phase_after.ensures) ran.named

pub run_second-bounds-pass-i : goal.run_second-bounds-pass-i
run_second-bounds-pass-i t c =
    let ran = second_child_ran t (goal.at.run_second-bounds-pass-i t c).Joined-pass-second-eq-SECOND in
    second_writes_in c.second_at-second.ensures ran.has_run c.requires

pub run_second-second_at-second-requires : goal.run_second-second_at-second-requires
run_second-second_at-second-requires t c = second_in c.requires

pub run_second-overflow_mul-second : goal.run_second-overflow_mul-second
run_second-overflow_mul-second t c = own_fits (goes_into c.second_at-second.ensures c.requires).1

pub run_second-bounds-pass-second : goal.run_second-bounds-pass-second
run_second-bounds-pass-second t c = phase_reads (goes_into c.second_at-second.ensures c.requires).1

-- A Seq in its first child meets its contract: rules 4 and 5.
pub run_seq-returns-then-phase-eq-GONE : goal.run_seq-returns-then-phase-eq-GONE
run_seq-returns-then-phase-eq-GONE t c = passed (done_run c.if-phase-eq-GONE.true) all_same

pub run_seq-run_second-requires : goal.run_seq-run_second-requires
run_seq-run_second-requires t c = (below_form _ c.decreases, to_second c.if-phase-eq-SECOND.true c.requires)

pub run_seq-returns-then-phase-eq-SECOND : goal.run_seq-returns-then-phase-eq-SECOND
run_seq-returns-then-phase-eq-SECOND t c = handed (by_second c.if-phase-eq-SECOND.true) c.run_second.ensures

pub run_seq-run_child-f-requires : goal.run_seq-run_child-f-requires
run_seq-run_child-f-requires t c = seq_first c.if-phase-eq-GONE.false c.if-phase-eq-SECOND.false c.requires c.decreases

pub run_seq-returns-then-ne : goal.run_seq-returns-then-ne
run_seq-returns-then-ne t c = handed (λ run. seq_stays c.if-phase-eq-GONE.false c.if-phase-eq-SECOND.false run (ne_is _ TERM c.ne.ensures c.if-ne.true)) c.run_child-f.ensures

pub run_seq-second_at-second-requires : goal.run_seq-second_at-second-requires
run_seq-second_at-second-requires t c = rw c.run_child-f.ensures.named.0 (seq_second_in c.if-phase-eq-GONE.false c.if-phase-eq-SECOND.false c.requires)

pub run_seq-kind_at-requires : goal.run_seq-kind_at-requires
run_seq-kind_at-requires t c =
    let first = c.run_child-f.ensures in
    let over = seq_goes_on c.if-phase-eq-GONE.false c.if-phase-eq-SECOND.false first.has_run (ne_not _ TERM c.ne.ensures c.if-ne.false) c.requires in
    let is = rw first.named.0 at c.second_at-second.ensures in
    rw first.named.0 (kind_reads (goes_into is over.can).1)

pub run_seq-run_seq-g-requires : goal.run_seq-run_seq-g-requires
run_seq-run_seq-g-requires t c =
    let first = c.run_child-f.ensures in
    let over = seq_goes_on c.if-phase-eq-GONE.false c.if-phase-eq-SECOND.false first.has_run (ne_not _ TERM c.ne.ensures c.if-ne.false) c.requires in
    let is = rw first.named.0 at c.second_at-second.ensures in
    let (l, s) = goes_into is over.can in
    falls_then first.named.0 form_rank
    (lighter form_rank form_rank (lit< tt) l c.decreases, to_kind (rw first.named.0 at c.kind_at.ensures.0) c.if-kind_at-eq-SEQ.true s)

pub run_seq-run_child-g-requires : goal.run_seq-run_child-g-requires
run_seq-run_child-g-requires t c =
    let first = c.run_child-f.ensures in
    let over = seq_goes_on c.if-phase-eq-GONE.false c.if-phase-eq-SECOND.false first.has_run (ne_not _ TERM c.ne.ensures c.if-ne.false) c.requires in
    let is = rw first.named.0 at c.second_at-second.ensures in
    falls_then first.named.0 child_rank (falls_to form_rank child_rank (lit< tt) (goes_into is over.can) c.decreases)

-- the second child has run, by the one or the other
seq_second_ran : (t : ℕ) (c : run_seq-Joined-kind_at-eq-SEQ t) → let first = c.run_child-f.new in let now = c.if-kind_at-eq-SEQ in
    HasPassed 0 Any first.pass c.second_at-second.result now.pass now.g
seq_second_ran t c =
    elim c.if-kind_at-eq-SEQ.branch [
      | run_seq-then-kind_at-eq-SEQ w ↦ rw (w.pass-is, w.g-is) (handed (by_kind c.kind_at.ensures.0 w.if-kind_at-eq-SEQ.true) w.run_seq-g.ensures)
      | run_seq-else-kind_at-eq-SEQ w ↦ rw (w.pass-is, w.g-is) w.run_child-g.ensures
    ]

pub run_seq-returns : goal.run_seq-returns
run_seq-returns t c =
    let first = c.run_child-f.ensures in
    let over = seq_goes_on c.if-phase-eq-GONE.false c.if-phase-eq-SECOND.false first.has_run (ne_not _ TERM c.ne.ensures c.if-ne.false) c.requires in
    let is = rw first.named.0 at c.second_at-second.ensures in
    let ran = seq_second_ran t (goal.at.run_seq-returns t c).Joined-kind_at-eq-SEQ in
    let second = ran_then first.named.0 ran.has_run in
    passed (over.has (second_done is second c.phase_after.ensures)) (named_then first.named ran.named)

pub run_seq-bounds-pass-i-2 : goal.run_seq-bounds-pass-i-2
run_seq-bounds-pass-i-2 t c =
    let first = c.run_child-f.ensures in
    let over = seq_goes_on c.if-phase-eq-GONE.false c.if-phase-eq-SECOND.false first.has_run (ne_not _ TERM c.ne.ensures c.if-ne.false) c.requires in
    let is = rw first.named.0 at c.second_at-second.ensures in
    let ran = seq_second_ran t (goal.at.run_seq-bounds-pass-i-2 t c).Joined-kind_at-eq-SEQ in
    let second = ran_then first.named.0 ran.has_run in
    second_writes_in is second over.can

pub run_seq-bounds-pass-i : goal.run_seq-bounds-pass-i
run_seq-bounds-pass-i t c = phase_reads c.requires

pub run_seq-bounds-pass-i-then-phase-eq-GONE : goal.run_seq-bounds-pass-i-then-phase-eq-GONE
run_seq-bounds-pass-i-then-phase-eq-GONE t c = phase_reads c.requires

-- An Until meets its contract, rules 29 to 34, and so does a Freezable, rules 40 and 41.
pub run_until-returns-then-phase-eq-GONE : goal.run_until-returns-then-phase-eq-GONE
run_until-returns-then-phase-eq-GONE t c = passed (done_run c.if-phase-eq-GONE.true) all_same

pub run_until-run_second-requires : goal.run_until-run_second-requires
run_until-run_second-requires t c = (below_form _ c.decreases, to_second c.if-phase-eq-SECOND.true c.requires)

pub run_until-returns-then-phase-eq-SECOND : goal.run_until-returns-then-phase-eq-SECOND
run_until-returns-then-phase-eq-SECOND t c = handed (by_second c.if-phase-eq-SECOND.true) c.run_second.ensures

pub run_until-run_child-f-requires : goal.run_until-run_child-f-requires
run_until-run_child-f-requires t c =
    falls_to form_rank child_rank (lit< tt) (body_first c.if-phase-eq-GONE.false c.if-phase-ne-STARRED.true c.if-phase-eq-SECOND.false c.requires) c.decreases

pub run_until-returns-then-ne : goal.run_until-returns-then-ne
run_until-returns-then-ne t c =
    handed (λ run. body_goes_on c.if-phase-eq-GONE.false c.if-phase-ne-STARRED.true c.if-phase-eq-SECOND.false run (ne_is _ STOP c.ne.ensures c.if-ne.true)) c.run_child-f.ensures

-- its body has stopped, now or before
stopped : (t : ℕ) (c : run_until-Joined-phase-ne-STARRED t) → StoppedIn c.args.pass.now c.args.i c.if-phase-ne-STARRED.pass
stopped t c =
    elim c.if-phase-ne-STARRED.branch [
      | run_until-then-phase-ne-STARRED+else-ne w ↦ rw w.pass-is
          (body_stopped c.if-phase-eq-GONE.false w.if-phase-ne-STARRED.true c.if-phase-eq-SECOND.false w.run_child-f.ensures.has_run (ne_not _ STOP w.ne.ensures w.if-ne.false) c.requires, w.run_child-f.ensures.named)
      | run_until-else-phase-ne-STARRED w ↦ rw w.pass-is (stopped_already w.if-phase-ne-STARRED.false c.requires, all_same)
    ]

pub run_until-kind_at-requires : goal.run_until-kind_at-requires
run_until-kind_at-requires t c = rw (stopped t (goal.at.run_until-kind_at-requires t c).Joined-phase-ne-STARRED).1.0 (kind_reads c.requires)

pub run_until-run_pending-requires : goal.run_until-run_pending-requires
run_until-run_pending-requires t c =
    let (body, same) = stopped t (goal.at.run_until-run_pending-requires t c).Joined-phase-ne-STARRED in
    let kind = rw same.0 at c.kind_at.ensures.0 in
    (_, can_then same.0 (body.to_pending (sym kind ∙ c.if-kind_at-eq-FREEZABLE.true)).can)

pub run_until-returns-then-kind_at-eq-FREEZABLE : goal.run_until-returns-then-kind_at-eq-FREEZABLE
run_until-returns-then-kind_at-eq-FREEZABLE t c =
    let (body, same) = stopped t (goal.at.run_until-returns-then-kind_at-eq-FREEZABLE t c).Joined-phase-ne-STARRED in
    let kind = rw same.0 at c.kind_at.ensures.0 in
    let on = body.to_pending (sym kind ∙ c.if-kind_at-eq-FREEZABLE.true) in
    passed (on.has (ran_then same.0 (alone c.run_pending.ensures).has_run)) (named_then same c.run_pending.ensures.named)

-- it is no Freezable: it is Until* now
starred : (t : ℕ) (c : run_until-Else-kind_at-eq-FREEZABLE t) → let p = c.args.pass.now in let now = c.if-phase-ne-STARRED.pass in
    StoppedIn p c.args.i now → GoesOnAs Starred Break (lent_of p) c.args.i (lent_then p now) × Named p now
starred t c (body, same) =
    let kind = rw same.0 at c.kind_at.ensures.0 in
    (body.to_star (the_first kind c.if-kind_at-eq-FREEZABLE.false c.requires), same)

pub run_until-test_at-verdict-requires : goal.run_until-test_at-verdict-requires
run_until-test_at-verdict-requires t c =
    let at = goal.at.run_until-test_at-verdict-requires t c in
    let (on, same) = starred t at.Else-kind_at-eq-FREEZABLE (stopped t at.Joined-phase-ne-STARRED) in
    rw same.0 (star_tests on.can)

pub run_until-second_at-second-requires : goal.run_until-second_at-second-requires
run_until-second_at-second-requires t c =
    let at = goal.at.run_until-second_at-second-requires t c in
    let (on, same) = starred t at.Else-kind_at-eq-FREEZABLE (stopped t at.Joined-phase-ne-STARRED) in
    rw same.0 (star_second_in on.can)

pub run_until-overflow_mul-second : goal.run_until-overflow_mul-second
run_until-overflow_mul-second t c =
    let at = goal.at.run_until-overflow_mul-second t c in
    let (on, same) = starred t at.Else-kind_at-eq-FREEZABLE (stopped t at.Joined-phase-ne-STARRED) in
    omega (arith, star_few (rw same.0 at c.second_at-second.ensures) on.can)

pub run_until-read_star-f-requires : goal.run_until-read_star-f-requires
run_until-read_star-f-requires t c =
    let at = goal.at.run_until-read_star-f-requires t c in
    let (on, same) = starred t at.Else-kind_at-eq-FREEZABLE (stopped t at.Joined-phase-ne-STARRED) in
    star_body (rw same.0 at c.second_at-second.ensures) on.can

pub run_until-returns-then-ne-2 : goal.run_until-returns-then-ne-2
run_until-returns-then-ne-2 t c =
    let at = goal.at.run_until-returns-then-ne-2 t c in
    let (on, same) = starred t at.Else-kind_at-eq-FREEZABLE (stopped t at.Joined-phase-ne-STARRED) in
    let read = star_read on (rw same.0 at c.test_at-verdict.ensures) (rw same.0 at c.second_at-second.ensures) c.read_star-f.ensures in
    passed (read.answers (ne_is _ TERM c.ne-2.ensures c.if-ne-2.true)) same

pub run_until-run_second-requires-2 : goal.run_until-run_second-requires-2
run_until-run_second-requires-2 t c =
    let at = goal.at.run_until-run_second-requires-2 t c in
    let (on, same) = starred t at.Else-kind_at-eq-FREEZABLE (stopped t at.Joined-phase-ne-STARRED) in
    let read = star_read on (rw same.0 at c.test_at-verdict.ensures) (rw same.0 at c.second_at-second.ensures) c.read_star-f.ensures in
    falls_then same.0 last_rank (below_form _ c.decreases, (read.to_handler (ne_not _ TERM c.ne-2.ensures c.if-ne-2.false)).can)

pub run_until-returns : goal.run_until-returns
run_until-returns t c =
    let at = goal.at.run_until-returns t c in
    let (on, same) = starred t at.Else-kind_at-eq-FREEZABLE (stopped t at.Joined-phase-ne-STARRED) in
    let read = star_read on (rw same.0 at c.test_at-verdict.ensures) (rw same.0 at c.second_at-second.ensures) c.read_star-f.ensures in
    passed ((read.to_handler (ne_not _ TERM c.ne-2.ensures c.if-ne-2.false)).has (ran_then same.0 c.run_second-2.ensures.has_run)) (named_then same c.run_second-2.ensures.named)

pub run_until-bounds-pass-i : goal.run_until-bounds-pass-i
run_until-bounds-pass-i t c = phase_reads c.requires

pub run_until-bounds-pass-i-then-phase-eq-GONE : goal.run_until-bounds-pass-i-then-phase-eq-GONE
run_until-bounds-pass-i-then-phase-eq-GONE t c = phase_reads c.requires

-- A When meets its contract, rules 17 to 21, and so does an If, 001's "Boolean Test".
pub run_when-returns-then-phase-eq-GONE : goal.run_when-returns-then-phase-eq-GONE
run_when-returns-then-phase-eq-GONE t c = passed (done_run c.if-phase-eq-GONE.true) all_same

pub run_when-argument_at-requires : goal.run_when-argument_at-requires
run_when-argument_at-requires t c = argument_reads c.requires

pub run_when-value_of-second-requires : goal.run_when-value_of-second-requires
run_when-value_of-second-requires t c = if_asks c.if-phase-eq0.true (to_kind c.kind_at.ensures.0 c.if-kind_at-eq-IF.true c.requires) c.argument_at.ensures.0

pub run_when-test_at-verdict-requires : goal.run_when-test_at-verdict-requires
run_when-test_at-verdict-requires t c = when_tests c.if-phase-eq0.true (to_kind refl (the_first c.kind_at.ensures.0 c.if-kind_at-eq-IF.false c.requires) c.requires)

pub run_when-returns-then-eq : goal.run_when-returns-then-eq
run_when-returns-then-eq t c =
    let is = the_first c.kind_at.ensures.0 c.if-kind_at-eq-IF.false c.requires in
    untouched (by_kind refl is (when_suspends c.if-phase-eq0.true c.test_at-verdict.ensures (same_true the_type tt _ Unknown (sym c.eq.ensures ∙ c.if-eq.true))))

pub run_when-returns-then-pass : goal.run_when-returns-then-pass
run_when-returns-then-pass t c =
    let is = the_first c.kind_at.ensures.0 c.if-kind_at-eq-IF.false c.requires in
    let stops = when_stops c.if-phase-eq0.true c.test_at-verdict.ensures (same_false the_type _ Unknown (sym c.eq.ensures ∙ c.if-eq.false)) c.eq-second.ensures c.if-pass.true c.chosen.ensures in
    passed (by_kind refl is stops) all_same

pub run_when-run_second-requires : goal.run_when-run_second-requires
run_when-run_second-requires t c =
    let chooses : Branches Choice (lent_of c.args.pass.now) c.args.i c.if-phase-eq0.second = elim c.if-phase-eq0.branch [
      | run_when-then-phase-eq0+then-kind_at-eq-IF w ↦ if_branches w.kind_at.ensures.0 w.if-kind_at-eq-IF.true w.if-phase-eq0.true w.argument_at.ensures.0 w.value_of-second.ensures w.second-is c.requires
      | run_when-then-phase-eq0+else-kind_at-eq-IF+else-eq+else-pass w ↦ when_branches w.kind_at.ensures.0 w.if-kind_at-eq-IF.false w.if-phase-eq0.true w.test_at-verdict.ensures (same_false the_type _ Unknown (sym w.eq.ensures ∙ w.if-eq.false)) (w.second-is ∙ w.eq-second.ensures) w.if-pass.false c.requires
      | run_when-else-phase-eq0 w ↦ by_own_phase (λ t u. u) c.if-phase-eq-GONE.false w.if-phase-eq0.false c.requires w.second-is
    ] in
    (below_form _ c.decreases, (chooses.to_second c.if-second.true).can)

pub run_when-returns-then-second : goal.run_when-returns-then-second
run_when-returns-then-second t c =
    let chooses : Branches Choice (lent_of c.args.pass.now) c.args.i c.if-phase-eq0.second = elim c.if-phase-eq0.branch [
      | run_when-then-phase-eq0+then-kind_at-eq-IF w ↦ if_branches w.kind_at.ensures.0 w.if-kind_at-eq-IF.true w.if-phase-eq0.true w.argument_at.ensures.0 w.value_of-second.ensures w.second-is c.requires
      | run_when-then-phase-eq0+else-kind_at-eq-IF+else-eq+else-pass w ↦ when_branches w.kind_at.ensures.0 w.if-kind_at-eq-IF.false w.if-phase-eq0.true w.test_at-verdict.ensures (same_false the_type _ Unknown (sym w.eq.ensures ∙ w.if-eq.false)) (w.second-is ∙ w.eq-second.ensures) w.if-pass.false c.requires
      | run_when-else-phase-eq0 w ↦ by_own_phase (λ t u. u) c.if-phase-eq-GONE.false w.if-phase-eq0.false c.requires w.second-is
    ] in
    handed (chooses.to_second c.if-second.true).has c.run_second.ensures

-- it goes into its first branch, by its value, by its test or by its phase
goes_into_first : (t : ℕ) (c : run_when-Else-second t) → let L = lent_of c.args.pass.now in GoesOnAs InThen Choice L c.args.i L
goes_into_first t c =
    let chooses : Branches Choice (lent_of c.args.pass.now) c.args.i c.if-phase-eq0.second = elim c.if-phase-eq0.branch [
      | run_when-then-phase-eq0+then-kind_at-eq-IF w ↦ if_branches w.kind_at.ensures.0 w.if-kind_at-eq-IF.true w.if-phase-eq0.true w.argument_at.ensures.0 w.value_of-second.ensures w.second-is c.requires
      | run_when-then-phase-eq0+else-kind_at-eq-IF+else-eq+else-pass w ↦ when_branches w.kind_at.ensures.0 w.if-kind_at-eq-IF.false w.if-phase-eq0.true w.test_at-verdict.ensures (same_false the_type _ Unknown (sym w.eq.ensures ∙ w.if-eq.false)) (w.second-is ∙ w.eq-second.ensures) w.if-pass.false c.requires
      | run_when-else-phase-eq0 w ↦ by_own_phase (λ t u. u) c.if-phase-eq-GONE.false w.if-phase-eq0.false c.requires w.second-is
    ] in
    chooses.to_first c.if-second.false

pub run_when-run_child-f-requires : goal.run_when-run_child-f-requires
run_when-run_child-f-requires t c =
    falls_to form_rank child_rank (lit< tt) (then_first (goes_into_first t (goal.at.run_when-run_child-f-requires t c).Else-second).can) c.decreases

pub run_when-returns : goal.run_when-returns
run_when-returns t c =
    let then = (goes_into_first t (goal.at.run_when-returns t c).Else-second).has (then_done c.run_child-f.ensures.has_run c.phase_after.ensures) in
    passed then c.run_child-f.ensures.named

pub run_when-bounds-pass-i-2 : goal.run_when-bounds-pass-i-2
run_when-bounds-pass-i-2 t c = then_writes_in c.run_child-f.ensures.has_run (goes_into_first t (goal.at.run_when-bounds-pass-i-2 t c).Else-second).can

pub run_when-bounds-pass-i : goal.run_when-bounds-pass-i
run_when-bounds-pass-i t c = phase_reads c.requires

pub run_when-bounds-pass-i-then-phase-eq-GONE : goal.run_when-bounds-pass-i-then-phase-eq-GONE
run_when-bounds-pass-i-then-phase-eq-GONE t c = phase_reads c.requires

pub run_when-kind_at-requires : goal.run_when-kind_at-requires
run_when-kind_at-requires t c = kind_reads c.requires
