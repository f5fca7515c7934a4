-- A kind with a second part or branch rests in phase 2 if the first is zero.
use mathlib.Core.Path.{sym, ◌∙◌}
use Rattle.table.specs.declared.kinds.Kind.TheVariants.{Seq, When, Until, If}
use Rattle.table.proofs.Subtrees.{pair}
use Rattle.state.proofs.ByNumber.{another, of_four}
use Rattle.state.proofs.Near.{child_read, first_near}
use Rattle.state.proofs.Phases.{second_children, in_second, not_in_second}
use Rattle.state.proofs.resting.Node.second_rests.Goals as goal

-- second_at(self.table, self.i) <= self.near
pub second_at-requires : goal.second_at-requires
second_at-requires c =
    let j = c.args.self.now.judging in
    let two = second_children (of_four c.kind.ensures c.in-Seq.is) in
    child_read j.behind.rooted _ (pair j.behind.rooted _ j.inside two).first_in

pub returns-in-Seq : goal.returns-in-Seq
returns-in-Seq c =
    let j = c.args.self.now.judging in
    let kinds = of_four c.kind.ensures c.in-Seq.is in
    rw c.second_at.ensures
    (sym (first_near j (pair j.behind.rooted _ j.inside (second_children kinds)).first_in) ∙ sym (in_second _ _ _ kinds))

-- _ => false,
pub returns-in_default : goal.returns-in_default
returns-in_default c =
    let is = c.kind.ensures in
    let d = c.in_default in
    sym (not_in_second _ _ _ _ (another Seq is d.not-Seq) (another When is d.not-When) (another Until is d.not-Until) (another If is d.not-If))
