-- `table::frame::distances_good` meets its contract.
use mathlib.Core.Path.{sym}
use borrow.Author.Tests.{eq-eqb, ne_eqb}
use Rattle.table.proofs.Framing.{distances}
use Rattle.table.proofs.frame.distances_good.Goals as goal

-- return false;
pub returns-then-word_at-all : goal.returns-then-word_at-all
returns-then-word_at-all c =
    let word_at = c.word_at in
    let if1 = c.if-word_at-all in
    let p = c.requires.counts in
    simp (distances c.args.table.now _ _ p.0 p.1, sym word_at.ensures.0, ne_eqb _ _ if1.true)

pub returns-then-word_at-m : goal.returns-then-word_at-m
returns-then-word_at-m c =
    let word_at = c.word_at in
    let if1 = c.if-word_at-all in
    let word-at2 = c.word_at-2 in
    let if2 = c.if-word_at-m in
    let p = c.requires.counts in
    let both = distances c.args.table.now _ _ p.0 p.1 in
    simp (both, sym word_at.ensures.0, eq-eqb _ _ if1.false, sym word-at2.ensures.0, ne_eqb _ _ if2.true)

-- fn distances_good
pub returns : goal.returns
returns c =
    let word_at = c.word_at in
    let if1 = c.if-word_at-all in
    let word-at2 = c.word_at-2 in
    let if2 = c.if-word_at-m in
    let p = c.requires.counts in
    let both = distances c.args.table.now _ _ p.0 p.1 in
    simp (both, sym word_at.ensures.0, eq-eqb _ _ if1.false, sym word-at2.ensures.0, eq-eqb _ _ if2.false)
