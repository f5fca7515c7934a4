-- `pair_named` meets its contract: the words of the kinds 2 and 3.
use mathlib.Core.Path.{sym, ◌∙◌}
use Rattle.form.specs.Inside.Rows.{pair_of}
use Rattle.form.proofs.names.Names.pair_named.Goals as goal

pub returns-then-is_named : goal.returns-then-is_named
unfolding pair_of
returns-then-is_named c = rw (sym c.is_named.ensures ∙ c.if-is_named.true)

pub returns-then-is_named-2 : goal.returns-then-is_named-2
unfolding pair_of
returns-then-is_named-2 c =
    rw (sym c.is_named.ensures ∙ c.if-is_named.false, sym c.is_named-2.ensures ∙ c.if-is_named-2.true)

pub returns : goal.returns
unfolding pair_of
returns c =
    rw (sym c.is_named.ensures ∙ c.if-is_named.false, sym c.is_named-2.ensures ∙ c.if-is_named-2.false)
