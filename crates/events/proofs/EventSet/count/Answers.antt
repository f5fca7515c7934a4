-- `EventSet::count` meets its contract: `n` counts the events in the words before the word at hand.
use mathlib.Core.Path.{◌≡◌, refl, sym}
use Prim.Native.Nat.{◌+◌, ◌-◌, ◌*◌, ◌≤◌}
use native.Mathlib.Omega.{arith}
use borrow.Author.Rules.{rules}
use Rattle.events.specs.Events.{how_many}
use Rattle.events.specs.Members.{places, members}
use Rattle.events.proofs.Events.{how_many_le}
use Rattle.events.proofs.Sets.{whole}
use Rattle.events.proofs.Words.{how_many_word}
use Rattle.events.proofs.EventSet.count.Goals as goal

-- for word in self.words.iter() {
pub loop-word-init : goal.loop-word-init
unfolding how_many
loop-word-init c = refl

-- n += word.count_ones() as usize;
pub overflow_cast-n : goal.overflow_cast-n
overflow_cast-n c =
    let loop = c.loop-word in
    let set = c.args.self in
    let more = how_many_word set.words loop.word-index ((whole set _ c.well_formed.0).fits loop.word-index) in
    omega (arith, how_many_le (64 * (loop.word-index + 1)) (members set))

pub overflow_add-n : goal.overflow_add-n
overflow_add-n c =
    let loop = c.loop-word in
    let set = c.args.self in
    let more = how_many_word set.words loop.word-index ((whole set _ c.well_formed.0).fits loop.word-index) in
    omega (arith, how_many_le (64 * (loop.word-index + 1)) (members set))

-- for word in self.words.iter() {
pub loop-word-preserved : goal.loop-word-preserved
loop-word-preserved c =
    let loop = c.loop-word in
    let set = c.args.self in
    let more = how_many_word set.words loop.word-index ((whole set _ c.well_formed.0).fits loop.word-index) in
    rw loop.invariant (sym more)

-- pub fn count
pub returns : goal.returns
returns c =
    let loop = c.loop-word in
    let all : 64 * loop.word-index ≡ places = omega arith in
    rw all at loop.invariant
