-- `name_end` meets its contract: the first byte that ends a name.
use Prim.Native.Nat.{◌*◌}
use mathlib.Core.Path.{◌≡◌, sym, ◌∙◌}
use native.Mathlib.Numerals.{add-one}
use native.Mathlib.Omega.{arith}
use lib.ListN.{drop, length-drop}
use Rattle.std.specs.Prelude.{None, Some}
use Rattle.std.specs.List.{position}
use Rattle.std.proofs.lemmas.List.Quantifiers.{position-Some}
use Rattle.form.specs.Inside.Rows.{names as table, ends_name, name_end}
use Rattle.form.proofs.Rows.{length_names, behind_found, behind_none, none_passes}
use Rattle.form.proofs.names.Names.name_end.Goals as goal

pub returns-in-Some : goal.returns-in-Some
unfolding name_end
returns-in-Some c =
    let l = drop (20 * c.args.row) table in
    let f : position ends_name l ≡ Some c.in-Some.last = rw c.from_row.ensures at (sym c.last_of_name.ensures ∙ c.in-Some.is) in
    let g = position-Some ends_name l c.in-Some.last 0 f in
    let n = length-drop (20 * c.args.row) table in
    let m = length_names in
    (simp add-one (sym (behind_found (20 * c.args.row) l c.in-Some.last g.0 g.1 g.2)), omega (arith, g.0))

pub returns-in-None : goal.returns-in-None
unfolding name_end
returns-in-None c =
    let l = drop (20 * c.args.row) table in
    let f : position ends_name l ≡ None = rw c.from_row.ensures at (sym c.last_of_name.ensures ∙ c.in-None.is) in
    let n = length-drop (20 * c.args.row) table in
    let m = length_names in
    let e = behind_none (20 * c.args.row) l (none_passes ends_name l f) in
    (omega (arith, c.requires.in_the_table), omega arith)
