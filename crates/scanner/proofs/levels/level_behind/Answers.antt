-- `level_behind` meets its contract: form by form.
use Prim.Native.Nat.{◌<◌, ◌≤◌}
use mathlib.Core.Path.{refl, sym, ◌∙◌}
use native.Mathlib.Numerals.{add-one}
use native.Mathlib.Omega.{arith}
use borrow.Author.Tests.{lt-ltb, le-ltb}
use Rattle.form.specs.Inside.Rows.{form_row, form_count}
use Rattle.form.proofs.Rows.{name_after}
use Rattle.scanner.specs.Levels.{level_of}
use Rattle.scanner.proofs.RowSearch.{level_here, level_next, level_none}
use Rattle.scanner.proofs.levels.level_behind.Goals as goal

-- return Level::Test;
pub returns-then-last-lt97 : goal.returns-then-last-lt97
unfolding level_of
returns-then-last-lt97 c =
    rw (lt-ltb c.args.last 97 c.if-last-lt97.true) refl

pub loop-k-init : goal.loop-k-init
loop-k-init c = refl

-- if ends_so(names, end, before, last) {
pub ends_so-requires : goal.ends_so-requires
ends_so-requires c =
    let l = name_after (form_row c.loop-k.k) in
    record { behind_a_name = omega (arith, c.name_end-end.ensures.0) }

-- return level_in(names, end);
pub returns-then-ends_so : goal.returns-then-ends_so
unfolding level_of
returns-then-ends_so c =
    let k : c.loop-k.k < form_count = omega arith in
    let e = rw c.name_end-end.ensures.0 at c.ends_so.ensures in
    let h = c.loop-k.invariant ∙ level_here c.args.before c.args.last c.loop-k.k k (sym e ∙ c.if-ends_so.true) in
    rw (le-ltb c.args.last 97 c.if-last-lt97.false) (rw c.name_end-end.ensures.0 at c.level_in.ensures ∙ sym h)

pub loop-k-preserved : goal.loop-k-preserved
loop-k-preserved c =
    let k : c.loop-k.k < form_count = omega arith in
    let e = rw c.name_end-end.ensures.0 at c.ends_so.ensures in
    simp add-one (c.loop-k.invariant ∙ level_next c.args.before c.args.last c.loop-k.k k (sym e ∙ c.if-ends_so.false))

-- fn level_behind
pub returns : goal.returns
unfolding level_of
returns c =
    let k : form_count ≤ c.loop-k.k = omega arith in
    rw (le-ltb c.args.last 97 c.if-last-lt97.false)
    (sym (c.loop-k.invariant ∙ level_none c.args.before c.args.last c.loop-k.k k))
