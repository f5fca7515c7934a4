-- `put_four` meets its contract: two pairs.
use mathlib.Core.Path.{◌≡◌, sym, ap, ◌∙◌}
use mathlib.Core.List.{List}
use Prim.Native.Nat.{ℕ, ◌+◌, ◌-◌, ◌*◌, ◌/◌, ◌%◌}
use native.Mathlib.Omega.{arith}
use lib.Seq.{sets}
use Rattle.letters.specs.Inside.{pair}
use Rattle.letters.proofs.Rooms.{sets_append}
use Rattle.letters.proofs.number.put_four.Goals as goal

-- fn put_four
pub returns : goal.returns
returns c =
    let put-pair = c.put_pair in
    let put-pair2 = c.put_pair-2 in
    let l = c.args.room.now in
    let at = c.args.at in
    let n = c.args.n in
    let low : n - 100 * (n / 100) ≡ n % 100 = omega arith in
    rw low at put-pair2.ensures
    ∙ (ap (λ (m : List ℕ). sets m (at + 2) (pair (n % 100))) put-pair.ensures ∙ sym (sets_append l at (pair (n / 100)) (pair (n % 100))))
