-- `put_rest` meets its contract: the configurations, then the trailer.
use Rattle.taking.proofs.Written.{rest_written}
use Rattle.taking.proofs.pieces.put_rest.Goals as goal

-- fn put_rest
pub returns : goal.returns
returns c =
    let A = c.args in
    rest_written c.requires.loaded.0 A.n _ _ c.word_at-m.ensures.0 c.word_at-v.ensures.0 A.room.now _ _ c.requires.room_long
    c.copy.ensures c.put_trailer.ensures
