-- `around` meets its contract.
use Prim.Native.Nat.{◌-◌}
use mathlib.Core.Path.{refl, sym, ◌∙◌}
use borrow.Author.Rules.{rules}
use native.Mathlib.Omega.{arith}
use lib.ListN.{get_or}
use Rattle.scanner.proofs.BackToBracket.{nested_le, spaced_le, back_found, back_on, back_none}
use Rattle.scanner.proofs.levels.around.Goals as goal

pub loop-at-init : goal.loop-at-init
loop-at-init c = (search rules, search rules, refl)

pub returns-then-opens : goal.returns-then-opens
returns-then-opens c =
    sym (c.loop-at.invariant.2 ∙ back_found c.args.text.now c.loop-at.at c.loop-at.closed c.loop-at.spaces
    c.loop-at-test.true (sym c.opens.ensures ∙ c.if-opens.true))

pub loop-at-preserved : goal.loop-at-preserved
loop-at-preserved c =
    let b = get_or c.args.text.now (c.loop-at.at - 1) 0 in
    let n = nested_le b c.loop-at.closed in
    let s = spaced_le b c.loop-at.closed c.loop-at.spaces in (
      omega (arith, n, c.loop-at.invariant.0, c.loop-at-test.true, c.nested-closed.ensures),
      omega (
        arith,
        s,
        c.loop-at.invariant.1,
        c.loop-at-test.true,
        c.spaced-spaces.ensures,
      ),
      c.loop-at.invariant.2 ∙ (back_on c.args.text.now c.loop-at.at c.loop-at.closed
          c.loop-at.spaces c.loop-at-test.true (sym c.opens.ensures ∙ c.if-opens.false) ∙ rw (c.nested-closed.ensures, c.spaced-spaces.ensures)),
    )

pub returns : goal.returns
returns c =
    sym (c.loop-at.invariant.2 ∙ back_none c.args.text.now c.loop-at.at c.loop-at.closed c.loop-at.spaces c.loop-at-test.false)
