-- What falls with each call inside a pass: the bytes of the node's subtree, and within them the step from a form to its child and to its own last part.
use Rattle.runner.proofs.Falling.{weigh, child_rank, form_rank, last_rank}
use Prim.Native.Nat.{◌-◌}
use Rattle.table.specs.Records.{size_at}
use Rattle.steps.specs.Lent.{lent_of, lent_then, Named}
use Rattle.runner.proofs.ChainRuns.{Chain}
use Rattle.runner.proofs.RepeatRuns.{Turn, TurnsIn}
use Rattle.runner.proofs.+run.Given as goal

abbrev pub decreases-run_child : goal.decreases-run_child
decreases-run_child l = weigh l.pass.now.table.now l.i child_rank

abbrev pub decreases-run_control : goal.decreases-run_control
decreases-run_control l = weigh l.pass.now.table.now l.i form_rank

abbrev pub decreases-run_half : goal.decreases-run_half
decreases-run_half l = weigh l.pass.now.table.now l.i form_rank

abbrev pub decreases-run_local : goal.decreases-run_local
decreases-run_local l = weigh l.pass.now.table.now l.i form_rank

abbrev pub decreases-run_loop : goal.decreases-run_loop
decreases-run_loop l = weigh l.pass.now.table.now l.i form_rank

abbrev pub decreases-run_par : goal.decreases-run_par
decreases-run_par l = weigh l.pass.now.table.now l.i form_rank

abbrev pub decreases-run_repeat : goal.decreases-run_repeat
decreases-run_repeat l = weigh l.pass.now.table.now l.i form_rank

abbrev pub decreases-run_seq : goal.decreases-run_seq
decreases-run_seq l = weigh l.pass.now.table.now l.i form_rank

abbrev pub decreases-run_until : goal.decreases-run_until
decreases-run_until l = weigh l.pass.now.table.now l.i form_rank

abbrev pub decreases-run_when : goal.decreases-run_when
decreases-run_when l = weigh l.pass.now.table.now l.i form_rank

abbrev pub decreases-run_second : goal.decreases-run_second
decreases-run_second l = weigh l.pass.now.table.now l.i last_rank

abbrev pub invariant-run_par-loop-pass : goal.invariant-run_par-loop-pass
invariant-run_par-loop-pass l =
    let p = l.initial.pass in
    let now = lent_then p l.pass in
    Chain (lent_of p) l.i now.table now.state now.progress now.rooms l.above l.at × Named p l.pass

abbrev pub decreases-run_par-loop-pass : goal.decreases-run_par-loop-pass
decreases-run_par-loop-pass l = size_at l.initial.pass.table.now l.at

abbrev pub invariant-run_repeat-loop-pass : goal.invariant-run_repeat-loop-pass
invariant-run_repeat-loop-pass l =
    let p = l.initial.pass in
    TurnsIn (lent_of p) l.i l.turns × Turn (lent_of p) l.i (l.turns - 1) (lent_then p l.pass) l.left × Named p l.pass

abbrev pub decreases-run_repeat-loop-pass : goal.decreases-run_repeat-loop-pass
decreases-run_repeat-loop-pass l = l.left
