-- `form_named` meets its contract: no form below k is named, and k is looked at next.
use Prim.Native.Nat.{◌-◌}
use mathlib.Core.Path.{◌≡◌}
use Rattle.form.specs.Inside.Rows.{form_count, form_from, form_in}
use Rattle.form.proofs.names.Names.form_named.Given as goal

abbrev pub invariant-loop-k : goal.invariant-loop-k
invariant-loop-k l = form_in l.text ≡ form_from (form_count - l.k) l.k l.text
