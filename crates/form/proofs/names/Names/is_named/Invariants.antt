-- `is_named` meets its contract: what is left of the text is held to what is left of the row.
use mathlib.Core.Path.{◌≡◌}
use Rattle.form.specs.Inside.Rows.{starts, named}
use Rattle.form.proofs.names.Names.is_named.Given as goal

abbrev pub invariant-loop-x : goal.invariant-loop-x
invariant-loop-x l = named l.row l.text ≡ starts l.x-iterator.a.rest.now l.x-iterator.b.rest.now
