-- The whole test of a node, number by number.
use mathlib.Core.Path.{refl, sym, ◌∙◌}
use Rattle.table.specs.declared.kinds.Kind.TheVariants.{Par}
use Rattle.state.proofs.ByNumber.{named, another}
use Rattle.state.proofs.Near.{below_near}
use Rattle.state.proofs.Owned.{phase_alone, gone_so, second_so, begun_so, flag_so, count_so}
use Rattle.state.proofs.resting.Node.rests.Goals as goal

-- return self.end() <= self.near;
pub returns-then-own : goal.returns-then-own
returns-then-own c =
    let alone = phase_alone c.own_at-own.ensures 3 c.if-own.true in
    rw c.end.ensures (sym (gone_so _ _ _ alone ∙ below_near c.args.self.now.judging))

-- return self.second_rests();
pub returns-then-own-2 : goal.returns-then-own-2
returns-then-own-2 c = c.second_rests.ensures ∙ sym (second_so _ _ _ (phase_alone c.own_at-own.ensures 2 c.if-own-2.true))

-- return self.begun_rests();
pub returns-then-own-3 : goal.returns-then-own-3
returns-then-own-3 c = c.begun_rests.ensures ∙ sym (begun_so _ _ _ (phase_alone c.own_at-own.ensures 1 c.if-own-3.true))

-- Kind::Par => self.flag_rests(own),
pub returns-in-Par : goal.returns-in-Par
returns-in-Par c = c.flag_rests.ensures ∙ sym (flag_so _ _ _ c.own_at-own.ensures c.requires c.if-own.false (named c.kind.ensures Par c.in-Par.is))

-- _ => self.count_rests(own),
pub returns-in_default : goal.returns-in_default
returns-in_default c =
    let is = c.kind.ensures in
    let n = c.count_rests.ensures in
    sym (count_so _ _ _ c.own_at-own.ensures c.requires c.if-own.false refl (another Par is c.in_default.not-Par) c.if-own-2.false c.if-own-3.false
    c.count_rests.result n.counted n.fits)
