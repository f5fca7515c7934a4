-- Decimal numbers, the last two or four digits apart.
use Prim.Native.Nat.{ℕ, ◌+◌, ◌/◌, ◌%◌, ◌≤◌, ◌<◌}
use mathlib.Core.Path.{◌≡◌, ap, ◌∙◌}
use mathlib.Core.List.{◌∷◌, ◌++◌, append_assoc}
use native.Mathlib.Omega.{arith}
use lib.ListN.{length, length-append}
use Rattle.letters.specs.Decimal.{decimal}
use Rattle.letters.proofs.Decimal.{decimal_digit, decimal_more}
use Rattle.letters.specs.Inside.{pair, four}

-- the last two digits apart
pub decimal_pair : (n : ℕ) → 100 ≤ n → decimal n ≡ decimal (n / 100) ++ pair (n % 100)
decimal_pair n h =
    let rest : n / 10 / 10 ≡ n / 100 = omega arith in
    let tens : n / 10 % 10 ≡ n % 100 / 10 = omega arith in
    let ones : n % 10 ≡ n % 100 % 10 = omega arith in
    rw (decimal_more n (omega arith), decimal_more (n / 10) (omega arith), rest, tens, ones) (append_assoc (decimal (n / 100)) _ _)

-- a number of two, of three and of four digits
pub decimal_two : (n : ℕ) → 10 ≤ n → n < 100 → decimal n ≡ pair n
decimal_two n h k = rw (decimal_more n h, decimal_digit (n / 10) (omega arith))

pub decimal_three : (n : ℕ) → 100 ≤ n → n < 1000 → decimal n ≡ (48 + n / 100) ∷ pair (n % 100)
decimal_three n h k = rw (decimal_pair n h, decimal_digit (n / 100) (omega arith))

pub decimal_four : (n : ℕ) → 1000 ≤ n → n < 10000 → decimal n ≡ four n
decimal_four n h k = rw (decimal_pair n (omega arith), decimal_two (n / 100) (omega arith) (omega arith))

-- the last four digits apart
pub decimal_long : (n : ℕ) → 10000 ≤ n → decimal n ≡ decimal (n / 10000) ++ four (n % 10000)
decimal_long n h =
    let rest : n / 100 / 100 ≡ n / 10000 = omega arith in
    let high : n / 100 % 100 ≡ n % 10000 / 100 = omega arith in
    let low : n % 100 ≡ n % 10000 % 100 = omega arith in
    rw (decimal_pair n (omega arith), decimal_pair (n / 100) (omega arith), rest, high, low) (append_assoc (decimal (n / 10000)) _ _)

-- a number of more than four digits has four more than its other digits
pub long_length : (n : ℕ) → 10000 ≤ n → length (decimal n) ≡ length (decimal (n / 10000)) + 4
long_length n h = ap length (decimal_long n h) ∙ length-append (decimal (n / 10000)) (four (n % 10000))
