-- `put_head` meets its contract: name, argument and link, one behind the other.
use mathlib.Core.Path.{◌∙◌}
use native.Mathlib.Omega.{arith}
use Rattle.table.proofs.Tree.{size_pos}
use Rattle.table.proofs.Loaded.{in_table}
use Rattle.form.proofs.Rows.{code_first, code_behind}
use Rattle.printer.proofs.ArgumentsIn.{link_is, form_few, name_fits, argument_part, link_fits, puts_head}
use Rattle.printer.proofs.spelled.put_head.Goals as goal

-- let kind = kind_at(table, i);
pub kind_at-kind-requires : goal.kind_at-kind-requires
kind_at-kind-requires c =
    omega (arith, in_table c.requires.placed 0 (size_pos c.requires.program))

-- let inside = names.name_end(FIRST_FORM + kind);
pub overflow_add-kind : goal.overflow_add-kind
overflow_add-kind c =
    let e = c.kind_at-kind.ensures.0 in
    let l = form_few e c.requires in
    omega arith

pub name_end-inside-requires : goal.name_end-inside-requires
name_end-inside-requires c =
    let e = c.kind_at-kind.ensures.0 in
    let l = form_few e c.requires in
    record { in_the_table = omega arith }

-- let named = put_opening(names, kind, inside, room, at);
pub put_opening-named-requires : goal.put_opening-named-requires
put_opening-named-requires c =
    let e = c.kind_at-kind.ensures.0 in
    record { known = form_few e c.requires; name_ends = c.name_end-inside.ensures.0; fits = name_fits e c.requires }

-- let argued = put_argument(table, i, first, names.code(inside + 3), room, named);
pub put_argument-argued-requires : goal.put_argument-argued-requires
put_argument-argued-requires c =
    let e = c.kind_at-kind.ensures.0 in
    let n = rw e at c.name_end-inside.ensures.0 in
    record {
      first_code = c.code-first.ensures ∙ code_first _ n;
      behind_a_comma = c.code.ensures ∙ code_behind _ n 3;
      printable = argument_part e c.requires c.put_opening-named.ensures;
    }

-- put_link(room, argued, first, names.code(inside + 1))
pub put_link-requires : goal.put_link-requires
put_link-requires c =
    let e = c.kind_at-kind.ensures.0 in
    let n = rw e at c.name_end-inside.ensures.0 in
    rw (c.code-first.ensures, c.code-2.ensures, link_is _ n) (link_fits e c.requires c.put_opening-named.ensures c.put_argument-argued.ensures)

-- fn put_head
pub returns : goal.returns
returns c =
    let e = c.kind_at-kind.ensures.0 in
    let n = rw e at c.name_end-inside.ensures.0 in
    puts_head e c.put_opening-named.ensures c.put_argument-argued.ensures
    (rw (c.code-first.ensures, c.code-2.ensures, link_is _ n) at c.put_link.ensures)
