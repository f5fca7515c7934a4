-- `put_short` meets its contract: the digits by the number's size.
use mathlib.Core.Path.{◌≡◌, refl, ap}
use Prim.Native.Nat.{◌-◌, ◌*◌, ◌/◌, ◌%◌}
use native.Mathlib.Omega.{arith}
use native.Mathlib.Numerals.{add-one}
use lib.ListN.{length, length-set}
use Rattle.letters.proofs.Decimal.{decimal_digit}
use Rattle.letters.proofs.LastDigits.{decimal_two, decimal_three, decimal_four}
use Rattle.letters.proofs.number.put_short.Goals as goal

-- room[at] = 48 + n as u8;
pub bounds-room-at : goal.bounds-room-at
bounds-room-at c =
    let if1 = c.if-n-lt10 in
    omega (arith, ap length (decimal_digit c.args.n if1.true))

-- return at + 1;
pub returns-then-n-lt10 : goal.returns-then-n-lt10
returns-then-n-lt10 c =
    let if1 = c.if-n-lt10 in
    let is = decimal_digit c.args.n if1.true in
    rw is (record { next = refl; room = refl })

-- put_pair(room, at, n);
pub put_pair-requires : goal.put_pair-requires
put_pair-requires c =
    let if1 = c.if-n-lt10 in
    let if2 = c.if-n-lt100 in
    (if2.true, omega (arith, ap length (decimal_two c.args.n if1.false if2.true)))

-- return at + 2;
pub returns-then-n-lt100 : goal.returns-then-n-lt100
returns-then-n-lt100 c =
    let if1 = c.if-n-lt10 in
    let if2 = c.if-n-lt100 in
    let put-pair = c.put_pair in
    let is = decimal_two c.args.n if1.false if2.true in
    rw is (record { next = refl; room = put-pair.ensures })

-- room[at] = 48 + hundreds as u8;
pub bounds-room-at-then-n-lt1000 : goal.bounds-room-at-then-n-lt1000
bounds-room-at-then-n-lt1000 c =
    let if2 = c.if-n-lt100 in
    let if3 = c.if-n-lt1000 in
    omega (arith, ap length (decimal_three c.args.n if2.false if3.true))

-- put_pair(room, at + 1, n - 100 * hundreds);
pub put_pair-requires-then-n-lt1000 : goal.put_pair-requires-then-n-lt1000
put_pair-requires-then-n-lt1000 c =
    let if2 = c.if-n-lt100 in
    let if3 = c.if-n-lt1000 in
    (omega arith, simp length-set (omega (arith, ap length (decimal_three c.args.n if2.false if3.true))))

pub returns-then-n-lt1000 : goal.returns-then-n-lt1000
returns-then-n-lt1000 c =
    let if2 = c.if-n-lt100 in
    let if3 = c.if-n-lt1000 in
    let put-pair2 = c.put_pair-then-n-lt1000 in
    let n = c.args.n in
    let is = decimal_three n if2.false if3.true in
    let low : n - 100 * (n / 100) ≡ n % 100 = omega arith in
    rw is (record { next = refl; room = rw (add-one c.args.at, low) at put-pair2.ensures })

-- put_four(room, at, n);
pub put_four-requires : goal.put_four-requires
put_four-requires c =
    let if3 = c.if-n-lt1000 in
    (c.requires.0, omega (arith, ap length (decimal_four c.args.n if3.false c.requires.0)))

-- fn put_short
pub returns : goal.returns
returns c =
    let if3 = c.if-n-lt1000 in
    let put_four = c.put_four in
    let is = decimal_four c.args.n if3.false c.requires.0 in
    rw is (record { next = refl; room = put_four.ensures })
