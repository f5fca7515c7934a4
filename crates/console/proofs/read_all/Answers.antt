-- `read_all` meets its contract: what came before and what this turn reads stand one behind the other.
use Rattle.std.proofs.Common.{◌≡◌, ℕ, ◌+◌, ◌-◌, ◌≤◌, List, ◌++◌, rules, arith, length, take, ap, sym, ◌∙◌, subst}
use Rattle.std.proofs.Math.Seq.{length-take-le, take-append-add, take-append-le}
use Rattle.std.specs.Io.KnownBytes.{Consumes}
use Rattle.std.proofs.KnownBytes.{Consumes-trans}
use borrow.Rule.Slice.PartMut.{put_mid, post_of}
use Rattle.console.proofs.read_all.Goals as goal

take_behind : (at k n : ℕ) (room part : List ℕ) → at ≤ length room → n ≤ length part
    → take (at + n) (put_mid at k room part) ≡ take at room ++ take n part
take_behind at k n room part h l =
    let e = take-append-add (take at room) (part ++ post_of at k room) n in
    (rw (length-take-le at room h) at e) ∙ ap (λ w. take at room ++ w) (take-append-le n part (post_of at k room) l)

pub loop-done-preserved : goal.loop-done-preserved
loop-done-preserved g c =
    let loop = c.loop-done in
    let part = c.read_some.new.room in
    let both = Consumes-trans _ _ _ _ _ loop.invariant.2 c.in_ok-got.ensures.bytes.0 in
    let bytes = take_behind loop.done (length loop.room - loop.done) c.in_ok-got.got loop.room part (omega arith) c.in_ok-got.ensures.bound in
    (search rules, search rules, subst (Consumes _ _) (sym bytes) both)
