-- `read_byte` meets its contract.
use mathlib.Core.Path.{◌≡◌, sym, ◌∙◌}
use borrow.Author.Rules.{rules}
use Rattle.std.specs.Prelude.{None}
use Rattle.scanner.proofs.ByteRead.{taken_dead, taken_on, taken_opens, taken_entered, taken_left, into_in_names}
use Rattle.scanner.proofs.ByteRead.{number_low, ringed}
use Rattle.scanner.proofs.scan.read_byte.Goals as goal

pub turn_at-requires : goal.turn_at-requires
turn_at-requires c =
    record { low = number_low c.args.at.pc c.args.at.number c.requires.somewhere.1.numbered }

pub enter-requires-clause-in_the_table : goal.enter-requires-clause-in_the_table
enter-requires-clause-in_the_table c =
    into_in_names c.args.text.now c.args.i c.args.at c.args.ring.now c.requires.somewhere.0 _ c.requires.somewhere.1
    (rw c.in-Into.is at (sym c.in_ok-turn.was ∙ c.turn_at.ensures))

pub leave-requires-clause-ringed : goal.leave-requires-clause-ringed
leave-requires-clause-ringed c =
    ringed c.args.text.now c.args.at.bracket c.args.at.depth c.args.at.live c.args.ring.now c.requires.somewhere.1.kept

pub returns-in_err-turn : goal.returns-in_err-turn
returns-in_err-turn c =
    let e : c.from_residual.result ≡ None = search rules in
    rw e (taken_dead c.args.text.now c.args.i c.args.at c.args.ring.now (sym c.in_err-turn.was ∙ c.turn_at.ensures))

pub returns-in-On : goal.returns-in-On
returns-in-On c =
    taken_on c.args.text.now c.args.i c.args.at c.args.ring.now _ _
    (rw c.in-On.is at (sym c.in_ok-turn.was ∙ c.turn_at.ensures))

pub returns-in-Opens : goal.returns-in-Opens
returns-in-Opens c =
    taken_opens c.args.text.now c.args.i c.args.at c.args.ring.now _
    (rw c.in-Opens.is at (sym c.in_ok-turn.was ∙ c.turn_at.ensures))

pub returns-in-Into : goal.returns-in-Into
returns-in-Into c =
    taken_entered c.args.text.now c.args.i c.args.at c.args.ring.now _ _ _ _ c.requires.ring_len
    (rw c.in-Into.is at (sym c.in_ok-turn.was ∙ c.turn_at.ensures)) c.opened.ensures c.enter.ensures.place c.enter.ensures.left

pub returns-in-Out : goal.returns-in-Out
returns-in-Out c =
    taken_left c.args.text.now c.args.i c.args.at c.args.ring.now _
    (rw c.in-Out.is at (sym c.in_ok-turn.was ∙ c.turn_at.ensures)) c.leave.ensures
