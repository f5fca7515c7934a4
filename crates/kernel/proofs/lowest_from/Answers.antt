-- `lowest_from` meets its contract: in v's own word, or in those behind it.
use Prim.Native.Nat.{◌+◌, ◌-◌, ◌*◌, ◌/◌}
use mathlib.Core.Path.{◌≡◌, sym, ap, ◌∙◌}
use native.Mathlib.Omega.{arith}
use lib.Count.{trailing_le}
use lib.ListN.{length, drop, length-drop}
use lib.Seq.{take_all}
use Rattle.events.proofs.Sets.{whole}
use Rattle.kernel.specs.Lowest.{joined}
use Rattle.kernel.proofs.Unlisted.{onward, over_word, in_word, found, none_found, lowest_further, none_behind, found_further}
use Rattle.kernel.proofs.lowest_from.Goals as goal

pub overflow_cast-low : goal.overflow_cast-low
overflow_cast-low c = omega (arith, trailing_le 64 (onward c.args.events.words c.args.v))

-- in v's own word
pub returns-then-low-lt64 : goal.returns-then-low-lt64
returns-then-low-lt64 c =
    let set = c.args.events in
    let v = c.args.v in
    let fits = (whole set _ c.well_formed.0).fits (v / 64) in (
      found set.words v v (λ k h l. absurd (omega arith)) fits c.if-low-lt64.true (omega arith) c.if-v-lt-PLACES.true,
      omega (arith, in_word set.words v fits c.if-low-lt64.true),
    )

-- in a later one
pub returns-then-joined_words-ne0 : goal.returns-then-joined_words-ne0
returns-then-joined_words-ne0 c =
    let words = c.args.events.words in
    let v = c.args.v in
    found_further words v (64 * (v / 64 + 1)) (lowest_further words v (64 * (v / 64 + 1)) (omega arith) (over_word words v v (λ k h l. absurd (omega arith)) c.if-low-lt64.false)) c.lowest_in.result c.lowest_in.ensures

-- in none
pub returns-else-joined_words-ne0 : goal.returns-else-joined_words-ne0
returns-else-joined_words-ne0 c =
    let words = c.args.events.words in
    let v = c.args.v in
    let behind = v / 64 + 1 in
    let all = take_all (length words - behind) (drop behind words) (omega (arith, length-drop behind words)) in
    let none : joined 0 (drop behind words) ≡ 0 = ap (joined 0) (sym all) ∙ (sym c.joined_words.ensures ∙ c.if-joined_words-ne0.false) in
    sym (sym (none_behind words behind none) ∙ lowest_further words v (64 * behind) (omega arith) (over_word words v v (λ k h l. absurd (omega arith)) c.if-low-lt64.false))

pub returns-else-v-lt-PLACES : goal.returns-else-v-lt-PLACES
returns-else-v-lt-PLACES c = sym (none_found c.args.events.words c.args.v c.args.v (λ k h l. absurd (omega arith)) c.if-v-lt-PLACES.false)
