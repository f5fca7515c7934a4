-- `put_long` meets its contract: the last four digits behind the others.
use Prim.Native.Nat.{◌%◌}
use native.Mathlib.Omega.{arith}
use Rattle.letters.specs.Inside.{four}
use Rattle.letters.proofs.LastDigits.{decimal_long, long_length}
use Rattle.letters.proofs.Puts.{puts_more}
use Rattle.letters.proofs.number.+put_long.Goals as goal

-- let to = put_short(room, at, high);
pub put_short-to-requires : goal.put_short-to-requires
put_short-to-requires t c =
    let if1 = c.if-high-lt10000 in
    (if1.true, omega (arith, long_length c.args.n c.requires.0))

-- put_four(room, to, n % 10000);
pub put_four-requires : goal.put_four-requires
put_four-requires t c =
    let put-short = c.put_short-to in
    (omega arith, omega (arith, long_length c.args.n c.requires.0, put-short.ensures.next, put-short.auto.room))

-- return to + 4;
pub overflow_add-result : goal.overflow_add-result
overflow_add-result t c =
    let put-short = c.put_short-to in
    omega (arith, long_length c.args.n c.requires.0, put-short.ensures.next)

pub returns-then-high-lt10000 : goal.returns-then-high-lt10000
returns-then-high-lt10000 t c =
    let put-short = c.put_short-to in
    let put_four = c.put_four in
    rw (decimal_long c.args.n c.requires.0)
    (puts_more (four (c.args.n % 10000)) put-short.ensures put_four.ensures)

-- let to = put_long(room, at, high);
pub put_long-to-requires : goal.put_long-to-requires
put_long-to-requires t c =
    let if1 = c.if-high-lt10000 in
    (omega arith, (if1.false, omega (arith, long_length c.args.n c.requires.0)))

-- put_four(room, to, n % 10000);
pub put_four-requires-2 : goal.put_four-requires-2
put_four-requires-2 t c =
    let put_long = c.put_long-to in
    (omega arith, omega (arith, long_length c.args.n c.requires.0, put_long.ensures.next, put_long.auto.room))

-- to + 4
pub overflow_add-result-2 : goal.overflow_add-result-2
overflow_add-result-2 t c =
    let put_long = c.put_long-to in
    omega (arith, long_length c.args.n c.requires.0, put_long.ensures.next)

pub returns : goal.returns
returns t c =
    let put_long = c.put_long-to in
    let put-four2 = c.put_four-2 in
    rw (decimal_long c.args.n c.requires.0)
    (puts_more (four (c.args.n % 10000)) put_long.ensures put-four2.ensures)
