-- What stands in front of the words, then the words: that is the whole row.
use Prim.Native.Nat.{ℕ, ◌≤◌}
use mathlib.Core.Path.{◌≡◌}
use mathlib.Core.List.{List, [], ◌++◌, append-nil}
use native.Mathlib.Omega.{arith}
use borrow.Author.Rules.{rules}
use borrow.Rule.Slice.PartMut.{put_mid}
use lib.ListN.{length, drop, replicate, drop_of_length-le}
use lib.Seq.{take_at, drop_at}
use Rattle.kernel_c.proofs.places_of.Goals as goal

filled : (leading words room : List ℕ) (n m : ℕ) → length leading ≡ n → length room ≤ m → put_mid n m (leading ++ room) words ≡ leading ++ words
filled leading words room n m l k =
    let none : drop m room ≡ [] = drop_of_length-le room {i = m} k in
    rw (take_at leading room n l, drop_at leading room n l, none, append-nil words)

-- fn places_of
pub returns : goal.returns
returns c =
    let long : length c.args.leading ≡ 9 = search rules in
    rw (c.copy_from_slice.ensures.after, c.copy_from_slice-2.ensures.after)
    (filled c.args.leading c.args.words (replicate 16 0) 9 16 long (omega arith))
