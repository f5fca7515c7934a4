-- The room is the length, at most 65,537 of it, less 2 and the bytes in use.
use native.Mathlib.Omega.{arith}
use Rattle.store.specs.Store.{store_room}
use Rattle.store.proofs.room_of.Goals as goal

-- return n - 2 - used;
pub returns-then-n-le65537 : goal.returns-then-n-le65537
unfolding store_room
returns-then-n-le65537 c =
    omega (arith, c.word_at-used.ensures.0)

-- 65535 - used
pub returns : goal.returns
unfolding store_room
returns c =
    omega (arith, c.word_at-used.ensures.0)
