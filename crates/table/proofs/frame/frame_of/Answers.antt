-- `table::frame::frame_of` meets its contract.
use mathlib.Core.Path.{sym, ◌∙◌}
use borrow.Author.Tests.{le-leb, lt-leb}
use Rattle.table.specs.Verdict.{length_good}
use Rattle.table.specs.Inside.Framing.{frame_of}
use Rattle.table.proofs.Framing.{length_is, counts}
use Rattle.table.proofs.frame.frame_of.Goals as goal

-- return Err(TableRefusal::BadLength);
pub returns-then-length-lt16 : goal.returns-then-length-lt16
unfolding frame_of length_good
returns-then-length-lt16 c =
    let if1 = c.if-length-lt16 in
    rw (lt-leb _ _ if1.true)

pub returns-then-length-gt32778 : goal.returns-then-length-gt32778
unfolding frame_of length_good
returns-then-length-gt32778 c =
    let if1 = c.if-length-lt16 in
    let if2 = c.if-length-gt32778 in
    rw (le-leb _ _ if1.false, lt-leb _ _ if2.true)

-- return Ok(Counts { n, m, v });
pub returns-then-distances_good : goal.returns-then-distances_good
unfolding frame_of
returns-then-distances_good c =
    let if1 = c.if-length-lt16 in
    let if2 = c.if-length-gt32778 in
    let word_at = c.word_at-n in
    let word-at2 = c.word_at-m in
    let word-at3 = c.word_at-v in
    let counts-good = c.counts_good in
    let if3 = c.if-counts_good in
    let good_distances = c.distances_good in
    let if4 = c.if-distances_good in
    let t = c.args.table.now in
    let good = counts t _ _ _ word_at.ensures.0 word-at2.ensures.0 word-at3.ensures.0 ∙ (sym counts-good.ensures ∙ if3.true) in
    rw (length_is t if1.false if2.false, good, sym good_distances.ensures ∙ if4.true, word_at.ensures.0, word-at2.ensures.0, word-at3.ensures.0)

-- return Err(TableRefusal::BadDistances);
pub returns-then-counts_good : goal.returns-then-counts_good
unfolding frame_of
returns-then-counts_good c =
    let if1 = c.if-length-lt16 in
    let if2 = c.if-length-gt32778 in
    let word_at = c.word_at-n in
    let word-at2 = c.word_at-m in
    let word-at3 = c.word_at-v in
    let counts-good = c.counts_good in
    let if3 = c.if-counts_good in
    let good_distances = c.distances_good in
    let if4 = c.if-distances_good in
    let t = c.args.table.now in
    let good = counts t _ _ _ word_at.ensures.0 word-at2.ensures.0 word-at3.ensures.0 ∙ (sym counts-good.ensures ∙ if3.true) in
    rw (length_is t if1.false if2.false, good, sym good_distances.ensures ∙ if4.false)

-- pub fn frame_of
pub returns : goal.returns
unfolding frame_of
returns c =
    let if1 = c.if-length-lt16 in
    let if2 = c.if-length-gt32778 in
    let word_at = c.word_at-n in
    let word-at2 = c.word_at-m in
    let word-at3 = c.word_at-v in
    let counts-good = c.counts_good in
    let if3 = c.if-counts_good in
    let t = c.args.table.now in
    let bad = counts t _ _ _ word_at.ensures.0 word-at2.ensures.0 word-at3.ensures.0 ∙ (sym counts-good.ensures ∙ if3.false) in
    rw (length_is t if1.false if2.false, bad)
