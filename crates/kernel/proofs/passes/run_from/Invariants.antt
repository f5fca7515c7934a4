-- `run_from` meets its contract: an instant is under way before each pass, and there are at most G + 2.
use Prim.Native.Nat.{◌+◌, ◌-◌}
use Rattle.events.specs.Members.{marks}
use Rattle.junior.specs.Figures.{G}
use Rattle.table.specs.Spells.{tree_of}
use Rattle.steps.specs.Running.{values_in}
use Rattle.steps.specs.Progress.{words_of, tally_of, Holds}
use Rattle.steps.specs.Lent.{lent_of, lent_then, Named}
use Rattle.kernel.specs.Passes.{Startable}
use Rattle.kernel.proofs.Passing.{Underway, Names}
use Rattle.kernel.proofs.passes.run_from.Given as goal

abbrev pub invariant-loop-pass : goal.invariant-loop-pass
invariant-loop-pass l =
    let p = l.initial.pass in
    let now = lent_then p l.pass in
    (b : Startable p.table.now p.state.now p.atoms.now p.store.now)
    × (u : Underway p.table.now b.term (marks (words_of p.progress)) (values_in (tally_of p.progress)) (lent_of p).rooms now.state (words_of now.progress)
    now.rooms (tally_of now.progress) l.passes)
    × Holds p.table.now l.pass.progress
    × Named p l.pass
    × Names l.waits u.named

abbrev pub decreases-loop-pass : goal.decreases-loop-pass
decreases-loop-pass l = G (tree_of l.initial.pass.table.now) + 2 - l.passes
