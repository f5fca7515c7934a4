-- `table::reading::close` meets its contract, digit by digit.
use borrow.Author.Rules.{rules}
use mathlib.Core.Path.{refl}
use native.Mathlib.Omega.{arith}
use Rattle.table.proofs.OpenLevels.{top, second_inside}
use Rattle.table.proofs.OpenLevels.{closes_not, closes_decided, closes_to_second, closes_unknown, closes_second}
use Rattle.table.proofs.reading.close.Goals as goal

pub returns-then-level-eq1 : goal.returns-then-level-eq1
returns-then-level-eq1 c =
    record { falls = refl; closes_one = λ o h. closes_not _ (top o h.number c.requires.inside_a_level) c.if-level-eq1.true h.to_come }

-- at: at + 4 * part_size(table, at),
pub part_size-requires : goal.part_size-requires
part_size-requires c =
    let v = top c.requires.some_open.0 c.requires.some_open.1.number c.requires.inside_a_level in
    let i = second_inside c.args.table.now c.args.at v c.if-level-eq1.false c.if-level-lt4.true c.requires.some_open.1.to_come in
    omega (arith, i.own)

pub overflow_add-behind : goal.overflow_add-behind
overflow_add-behind c =
    let v = top c.requires.some_open.0 c.requires.some_open.1.number c.requires.inside_a_level in
    let i = second_inside c.args.table.now c.args.at v c.if-level-eq1.false c.if-level-lt4.true c.requires.some_open.1.to_come in
    let own = i.own in
    let few = c.part_size.ensures.1 in
    search rules

-- return Closed::Decided(behind, sat);
pub returns-then-sat-or : goal.returns-then-sat-or
returns-then-sat-or c =
    record {
      falls = refl;
      closes_one = λ o h.
          rw c.part_size.ensures.0
          (closes_decided _ (top o h.number c.requires.inside_a_level) c.if-level-eq1.false c.if-level-lt4.true c.if-sat-or.true h.to_come);
    }

pub returns-then-level-lt4 : goal.returns-then-level-lt4
returns-then-level-lt4 c =
    record {
      falls = refl;
      closes_one = λ o h.
          closes_to_second _ (top o h.number c.requires.inside_a_level) c.if-level-eq1.false c.if-level-lt4.true c.if-sat-or.false h.to_come;
    }

pub returns-then-sat-or-2 : goal.returns-then-sat-or-2
returns-then-sat-or-2 c =
    record {
      falls = refl;
      closes_one = λ o h.
          closes_unknown _ (top o h.number c.requires.inside_a_level) c.if-level-lt4.false c.if-sat-or-2.true h.to_come;
    }

-- Closed::Decided(here, sat)
pub returns : goal.returns
returns c =
    record {
      falls = refl;
      closes_one = λ o h.
          closes_second _ (top o h.number c.requires.inside_a_level) c.if-level-lt4.false c.if-sat-or-2.false h.to_come;
    }
