-- `answer_line` meets its contract: a bad line, a refused instant or one that ran, each with its output line and what stands under it.
use mathlib.Core.Path.{sym}
use native.Mathlib.Omega.{arith}
use lib.Seq.{length-take-le}
use Rattle.events.specs.Members.{members}
use Rattle.player.specs.Answering.{Lists}
use Rattle.player.proofs.Answering.{zeros_handed, atoms_within, answers, answers_under}
use Rattle.player.proofs.Named.{one_of_its_nodes}
use Rattle.player.proofs.answer.Player.answer_line.Goals as goal

-- return listing::write_bad(room, number);
pub returns-in_default-clause-answers : goal.returns-in_default-clause-answers
returns-in_default-clause-answers c =
    answers (omega arith) (Lists.bad c.in_default.ensures) c.write_bad.ensures

-- &row[..n],
pub slice_bounds-write_ran-end : goal.slice_bounds-write_ran-end
slice_bounds-write_ran-end c =
    sym (length-take-le c.in-Ok.answer.atoms c.instant-reply.new.atoms (atoms_within (rw c.in-Ok.is at c.instant-reply.ensures).leaves))

-- put_under(self.table, answer.waits, room, listed, self.why)
pub put_under-requires : goal.put_under-requires
put_under-requires c =
    let within = atoms_within (rw c.in-Ok.is at c.instant-reply.ensures).leaves in
    let long = length-take-le c.in-Ok.answer.atoms c.instant-reply.new.atoms within in
    record { one_of_its_nodes = one_of_its_nodes (rw c.in-Ok.is at c.instant-reply.ensures); room_enough = omega (arith, c.requires, long, within, c.instant-reply.auto.atoms, c.write_ran-listed.ensures.short, c.write_ran-listed.auto.room) }

-- pub fn answer_line
pub returns-in-Ok-clause-answers : goal.returns-in-Ok-clause-answers
returns-in-Ok-clause-answers c =
    let within = atoms_within (rw c.in-Ok.is at c.instant-reply.ensures).leaves in
    let long = length-take-le c.in-Ok.answer.atoms c.instant-reply.new.atoms within in
    let reading = c.in-Some.ensures in
    let answered = rw (zeros_handed, c.in-Ok.is) at c.instant-reply.ensures in
    let ran = Lists.ran (members c.in-Some.events) c.in-Ok.answer reading answered in
    answers_under (omega (arith, c.requires, long, within, c.instant-reply.auto.atoms)) c.write_ran-listed.ensures c.put_under.ensures
    c.write_ran-listed.auto.room (ran c.put_under.ensures.under)

pub returns-in-Err-clause-answers : goal.returns-in-Err-clause-answers
returns-in-Err-clause-answers c =
    let reading = c.in-Some.ensures in
    let answered = rw (zeros_handed, c.in-Err.is) at c.instant-reply.ensures in
    answers (omega arith) (Lists.refused (members c.in-Some.events) c.in-Err.why reading answered)
    (rw (c.from-refusal.ensures.0, c.from-refusal.ensures.1) at c.write_refused.ensures)
