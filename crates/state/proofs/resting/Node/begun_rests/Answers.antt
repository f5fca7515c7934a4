-- Phase 1 with the count 0, sort of kinds by sort of kinds.
use mathlib.Core.Path.{◌≡◌, sym, ◌∙◌}
use Rattle.table.specs.declared.kinds.Kind.TheVariants.{Loop, When, If}
use Rattle.table.specs.Records.{kind_at}
use Rattle.state.specs.Resting.{phase_rests, count_rests}
use Rattle.state.proofs.ByNumber.{named, another, of_two}
use Rattle.state.proofs.Phases.{two_branches, branches_begun, repeats_begun, none_begun}
use Rattle.state.proofs.resting.Node.begun_rests.Goals as goal

-- Some(most) => 0 < most,
pub returns-in-Some : goal.returns-in-Some
returns-in-Some c =
    let r = c.in-Some.ensures in
    rw r.1 (sym (repeats_begun _ _ _ _ r.0))

-- Kind::When | Kind::If => self.second_zero(),
pub second_zero-requires : goal.second_zero-requires
second_zero-requires c = record { two_children = two_branches (of_two c.kind.ensures c.in-When.is) }

-- Kind::Loop => true,
pub returns-in-Loop : goal.returns-in-Loop
unfolding phase_rests count_rests
returns-in-Loop c =
    let node = c.args.self.now in
    let e : kind_at node.table.now node.i ≡ 5 = named c.kind.ensures Loop c.in-Loop.is in
    rw e

pub returns-in-When : goal.returns-in-When
returns-in-When c = c.second_zero.ensures ∙ sym (branches_begun _ _ _ (of_two c.kind.ensures c.in-When.is))

-- None => false,
pub returns-in-None : goal.returns-in-None
returns-in-None c =
    let is = c.kind.ensures in
    let d = c.in_default in
    sym (none_begun _ _ _ _ c.in-None.ensures (another Loop is d.not-Loop) (another When is d.not-When) (another If is d.not-If))
