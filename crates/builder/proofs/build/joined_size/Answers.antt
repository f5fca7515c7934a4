-- `joined_size` meets its contract: the sizes of the two in front, and one more.
use borrow.Author.Rules.{rules}
use Rattle.builder.specs.Building.{joined_size}
use Rattle.builder.proofs.WrittenSizes.{product_small}
use Rattle.builder.proofs.build.joined_size.Goals as goal

-- 1 + first + word_in(records, long * first + at)
pub overflow_mul-long : goal.overflow_mul-long
overflow_mul-long c =
    let b = product_small c.args.long c.word_in-first.result c.requires.record_long c.word_in-first.ensures.1 in
    search rules

pub overflow_add-long : goal.overflow_add-long
overflow_add-long c =
    let b = product_small c.args.long c.word_in-first.result c.requires.record_long c.word_in-first.ensures.1 in
    search rules

pub word_in-requires : goal.word_in-requires
word_in-requires c =
    let b = product_small c.args.long c.word_in-first.result c.requires.record_long c.word_in-first.ensures.1 in
    search rules

-- fn joined_size
pub returns : goal.returns
unfolding joined_size
returns c =
    rw (c.word_in.ensures.0, c.word_in-first.ensures.0)
