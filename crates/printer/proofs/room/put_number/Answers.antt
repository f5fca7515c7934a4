-- `put_number` meets its contract: the digits are put into a room of their own, and from there into the lent one.
use mathlib.Core.Path.{◌≡◌, ap}
use mathlib.Core.List.{List}
use Prim.Native.Nat.{ℕ, ◌^◌, ◌<◌}
use native.Mathlib.Omega.{arith}
use lib.ListN.{length, take, replicate, length-replicate}
use Rattle.letters.specs.Decimal.{decimal}
use Rattle.letters.specs.Rooms.{Puts}
use Rattle.letters.proofs.Decimal.{decimal_length}
use Rattle.letters.proofs.Puts.{puts_front}
use Rattle.printer.proofs.room.put_number.Goals as goal

-- the room of 20 bytes begins with them
digits_are : (n : ℕ) {b : List ℕ} {r : ℕ} → n < 2 ^ 64 → Puts (replicate 20 0) b 0 (decimal n) r → take r b ≡ decimal n
digits_are n h p = puts_front p (omega (arith, length-replicate {A = ℕ} 20 0, decimal_length 19 n (omega arith)))

-- out.decimal(n as u64);
pub decimal-requires : goal.decimal-requires
decimal-requires c =
    omega (arith, decimal_length 19 c.args.n (omega arith))

pub slice_bounds-put-end : goal.slice_bounds-put-end
slice_bounds-put-end c =
    omega (arith, c.decimal.ensures.puts.next, ap length (digits_are c.args.n (omega arith) c.decimal.ensures.puts))

pub put-requires : goal.put-requires
put-requires c =
    rw (digits_are c.args.n (omega arith) c.decimal.ensures.puts) c.requires

-- pub fn put_number
pub returns : goal.returns
returns c =
    rw (digits_are c.args.n (omega arith) c.decimal.ensures.puts) at c.put.ensures
