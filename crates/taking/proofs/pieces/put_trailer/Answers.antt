-- Five words, one behind the other.
use Prim.Native.Nat.{◌+◌, ◌*◌}
use mathlib.Core.Path.{refl}
use mathlib.Core.List.{[], ◌++◌}
use Rattle.store.specs.Store.{two}
use Rattle.taking.proofs.Written.{word_behind}
use Rattle.taking.proofs.pieces.put_trailer.Goals as goal

pub returns : goal.returns
returns c =
    let n = c.args.n in
    let m = c.args.m in
    let v = c.args.v in
    let room = c.args.room.now in
    let one = word_behind _ _ room [] 0 n refl refl c.put_word.ensures in
    let two_words = word_behind _ _ room (two n) 2 m refl one c.put_word-2.ensures in
    let three = word_behind _ _ room (two n ++ two m) 4 v refl two_words c.put_word-3.ensures in
    let four = word_behind _ _ room (two n ++ two m ++ two v) 6 (6 * n + 4 * m) refl three c.put_word-4.ensures in
    word_behind _ _ room (two n ++ two m ++ two v ++ two (6 * n + 4 * m)) 8 (4 * m) refl four c.put_word-5.ensures
