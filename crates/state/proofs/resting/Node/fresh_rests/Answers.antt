-- Kinds that rest by their own bytes, by their second part, and the others.
use mathlib.Core.Path.{sym, ◌∙◌}
use native.Mathlib.Omega.{arith}
use Rattle.state.proofs.ByNumber.{of_two, of_four}
use Rattle.state.proofs.Phases.{two_parts, parts_fresh, plain_fresh}
use Rattle.state.proofs.Around.{not_fresh}
use Rattle.state.proofs.resting.Node.fresh_rests.Goals as goal

-- Kind::Par | Kind::Control | Kind::Local | Kind::Freezable => true,
pub returns-in-Par : goal.returns-in-Par
returns-in-Par c =
    let plain = of_four c.kind.ensures c.in-Par.is in
    sym (plain_fresh _ _ _ _ (λ e. omega arith) (λ e. omega arith) (λ e. omega arith) (λ e. omega arith) (λ e. omega arith) (λ e. omega arith) (λ e. omega arith))

-- Kind::Seq | Kind::Until => self.second_zero(),
pub second_zero-requires : goal.second_zero-requires
second_zero-requires c = record { two_children = two_parts (of_two c.kind.ensures c.in-Seq.is) }

pub returns-in-Seq : goal.returns-in-Seq
returns-in-Seq c = c.second_zero.ensures ∙ sym (parts_fresh _ _ _ (of_two c.kind.ensures c.in-Seq.is))

-- _ => false,
pub returns-in_default : goal.returns-in_default
returns-in_default c =
    let d = c.in_default in
    sym (not_fresh c.args.self.now.judging c.requires c.kind.result c.kind.ensures d.not-Seq d.not-Par d.not-Until d.not-Control d.not-Local d.not-Freezable)
