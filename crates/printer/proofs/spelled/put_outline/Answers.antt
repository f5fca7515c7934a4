-- `put_outline` meets its contract: what the node's own record tells, and how it closes.
use mathlib.Core.Path.{sym, ap, ◌∙◌}
use Rattle.table.specs.Good.{children}
use Rattle.table.proofs.Loaded.{own_known}
use Rattle.printer.proofs.Outlined.{own_part_fits, bracket_fits, dots_fit, puts_bracket, puts_dots}
use Rattle.printer.proofs.spelled.put_outline.Goals as goal

-- let begun = put_head(&names, table, i, room, at);
pub put_head-begun-requires : goal.put_head-begun-requires
put_head-begun-requires c =
    own_part_fits c.requires

-- if kind_of(table, i).children() == 0 {
pub kind_of-requires-clause-known_kind : goal.kind_of-requires-clause-known_kind
kind_of-requires-clause-known_kind c = own_known c.requires.placed

-- return put(room, begun, b")");
pub put-requires : goal.put-requires
put-requires c =
    let count = ap children (sym c.kind_of.ensures) ∙ c.children.ensures in
    bracket_fits c.requires c.put_head-begun.ensures (count ∙ c.if-children-eq0.true)

pub returns-then-children-eq0 : goal.returns-then-children-eq0
returns-then-children-eq0 c =
    let count = ap children (sym c.kind_of.ensures) ∙ c.children.ensures in
    puts_bracket c.put_head-begun.ensures (count ∙ c.if-children-eq0.true) c.put.ensures

-- put(room, begun, b"..)")
pub put-requires-2 : goal.put-requires-2
put-requires-2 c =
    let count = ap children (sym c.kind_of.ensures) ∙ c.children.ensures in
    dots_fit c.requires c.put_head-begun.ensures (λ e. c.if-children-eq0.false (sym count ∙ e))

-- pub fn put_outline
pub returns : goal.returns
returns c =
    let count = ap children (sym c.kind_of.ensures) ∙ c.children.ensures in
    puts_dots c.put_head-begun.ensures (λ e. c.if-children-eq0.false (sym count ∙ e)) c.put-2.ensures
