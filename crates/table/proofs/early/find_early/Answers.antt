-- `table::early::find_early` meets its contract: from configuration j on the row has when each can be decided early.
use borrow.Author.Rules.{rules}
use mathlib.Core.Path.{refl}
use native.Mathlib.Omega.{arith}
use lib.ListN.{length-set}
use Rattle.table.proofs.KnownEarly.{none_known, behind, more_known, early_small}
use Rattle.table.proofs.early.find_early.Goals as goal

-- for j in (0..m).rev() {
pub loop-j-init : goal.loop-j-init
loop-j-init c =
    (omega arith, refl, none_known c.requires.some_framed c.args.early.now c.requires.early_long)

pub early_at-e-requires : goal.early_at-e-requires
early_at-e-requires c =
    let loop = c.loop-j in
    let loop-test = c.loop-j-test in
    behind c.requires.some_framed _ (rw loop.invariant.1 c.requires.early_long) loop-test.true loop.invariant.0 loop.invariant.2

-- early[j] = e as u8;
pub overflow_cast-early : goal.overflow_cast-early
overflow_cast-early c =
    let loop = c.loop-j in
    let loop-test = c.loop-j-test in
    let early-at = c.early_at-e in
    let B = behind c.requires.some_framed loop.early (rw loop.invariant.1 c.requires.early_long) loop-test.true loop.invariant.0 loop.invariant.2 in
    let s = early_small B _ early-at.ensures in
    search rules

pub loop-j-preserved : goal.loop-j-preserved
loop-j-preserved c =
    let loop = c.loop-j in
    let loop-test = c.loop-j-test in
    let early-at = c.early_at-e in (
      omega arith,
      simp length-set loop.invariant.1,
      more_known c.requires.some_framed loop.early (rw loop.invariant.1 c.requires.early_long) loop-test.true loop.invariant.0 loop.invariant.2 early-at.ensures,
    )

pub returns : goal.returns
returns c =
    let loop = c.loop-j in
    λ k a b. loop.invariant.2 k (omega arith) b
