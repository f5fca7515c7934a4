-- `mark` meets its contract: one digit of the event's word is set or cleared, and an event past the words is absent already.
use mathlib.Core.Path.{sym}
use mathlib.Core.Bool.{false, and-false}
use Prim.Native.Nat.{◌*◌, ◌/◌}
use native.Mathlib.Omega.{arith}
use borrow.Author.Rules.{rules}
use borrow.Author.Tests.{lt-ltb, le-ltb}
use lib.ListN.{length}
use Rattle.events.specs.Members.{marks}
use Rattle.events.proofs.Events.{put_same}
use Rattle.events.proofs.Words.{marks_past, marks_set, marks_clear}
use Rattle.events.proofs.mark.Goals as goal

-- pub fn mark
pub returns-then-present : goal.returns-then-present
returns-then-present c =
    let if1 = c.if-at-words in
    let if2 = c.if-present in
    let l = c.args.words.now in
    let e = c.args.event in
    rw (if2.true, lt-ltb e (64 * length l) (omega arith)) (marks_set l e if1.true)

pub returns-else-present : goal.returns-else-present
returns-else-present c =
    let if1 = c.if-at-words in
    let if2 = c.if-present in
    let l = c.args.words.now in
    let e = c.args.event in
    rw if2.false (marks_clear l e if1.true (c.slice_known-else-present-1.given (e / 64)).fits)

pub returns-else-at-words : goal.returns-else-at-words
returns-else-at-words c =
    let l = c.args.words.now in
    let e = c.args.event in
    rw (le-ltb e (64 * length l) (omega arith), and-false c.args.present) (sym (put_same e false (marks l) (marks_past l e (omega arith))))
