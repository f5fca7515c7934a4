-- `put_word` meets its contract: the events below the lowest digit that is left are written, and the digits from there on are still the word's.
use mathlib.Core.Path.{◌≡◌, sym, ap, ◌∙◌}
use mathlib.Core.List.{[], ◌∷◌}
use Prim.Native.Nat.{ℕ, ◌+◌, ◌<◌}
use native.Mathlib.Omega.{arith}
use lib.Count.{trailing_le, trailing_of_zero}
use Rattle.events.specs.Members.{marks}
use Rattle.events.proofs.Bits.{digits}
use Rattle.letters.proofs.Decimal.{decimal_length}
use Rattle.letters.proofs.Writes.{writes_none, number_ends}
use Rattle.listing.specs.Output.{rising}
use Rattle.listing.specs.Inside.{items}
use Rattle.listing.proofs.Lists.{writes_event}
use Rattle.listing.proofs.Rising.{low, one_word, low_digit, without_fits, low_rises, still_like, rising_low}
use Rattle.listing.proofs.Rising.{rising_first}
use Rattle.listing.proofs.output.put_word.Goals as goal

-- while left != 0 {
pub loop-left-init : goal.loop-left-init
unfolding items
loop-left-init c =
    let word = c.args.word in
    let like : (j : ℕ) → j < 64 → digits word j ≡ marks (word ∷ []) j = λ j h. sym (one_word word j h) in (
      omega arith,
      omega arith,
      rw (rising_first word (marks (word ∷ [])) like) (writes_none c.args.out.now),
      λ j h k. like j k,
    )

pub number-requires : goal.number-requires
number-requires c =
    let loop = c.loop-left in
    let below = low_digit loop.left loop.invariant.0 c.loop-left-test.true in
    omega (arith, loop.invariant.2.long, decimal_length 4 (c.args.base + low loop.left) (omega arith))

-- while left != 0 {
pub loop-left-smaller : goal.loop-left-smaller
loop-left-smaller c =
    let loop = c.loop-left in
    let some = c.loop-left-test.true in
    omega (arith, low_digit loop.left loop.invariant.0 some, low_rises loop.left loop.invariant.0 some)

pub loop-left-preserved : goal.loop-left-preserved
loop-left-preserved c =
    let loop = c.loop-left in
    let some = c.loop-left-test.true in
    let left = loop.left in
    let base = c.args.base in
    let X = marks (c.args.word ∷ []) in
    let below = low_digit left loop.invariant.0 some in (
      without_fits left loop.invariant.0 some,
      omega (arith, number_ends 4 (base + low left) 44 (omega arith) c.number.ensures, low_rises left loop.invariant.0 some),
      rw (rising_low left loop.invariant.0 some X loop.invariant.3)
          (writes_event base (rising (low left) X) (low left) loop.invariant.2 c.number.ensures),
      still_like left loop.invariant.0 some X loop.invariant.3,
    )

-- fn put_word
pub returns : goal.returns
returns c =
    let loop = c.loop-left in
    let all = ap low c.loop-left-test.false ∙ trailing_of_zero 64 in
    record { written = rw all at loop.invariant.2; short = omega arith }
