-- Reading the digits of a number.
use Prim.Native.Nat.{ℕ, ◌+◌, ◌-◌, ◌*◌, ◌%◌, ◌≤◌, ◌<◌}
use mathlib.Core.Bool.{true, false}
use mathlib.Core.Path.{◌≡◌, refl, ap, ◌∙◌}
use mathlib.Core.List.{List, [], ◌∷◌, ◌++◌}
use native.Mathlib.Nat.{add-zero}
use native.Mathlib.Numerals.{add-one}
use native.Mathlib.Omega.{arith}
use lib.ListN.{length, drop, drop_of_length-le}
use lib.Seq.{drop-cons, get_or-drop}
use Rattle.letters.specs.Decimal.{decimal}
use Rattle.table.specs.Records.{byte}
use Rattle.form.specs.Inside.Machine.{is_digit_byte}
use Rattle.letters.proofs.ReadsDecimal.{Reader, reads_decimal}
use Rattle.form.proofs.Digits.{is_digit}
use Rattle.builder.specs.Building.{number}

-- what no digit changes, no number changes
pub past_decimal : {A : Type 0} (f : List ℕ → A) → ((d : ℕ) (x : List ℕ) → d < 10 → f ((48 + d) ∷ x) ≡ f x)
    → (n : ℕ) (x : List ℕ) → f (decimal n ++ x) ≡ f x
past_decimal {A} f step n x =
    let r : Reader n f (λ v. f) = record { first = step; more = λ v d y g h l. step d y h } in
    reads_decimal r n (omega arith) x

-- a number begins with a digit
pub begins_decimal : (n : ℕ) (x : List ℕ) → is_digit_byte (byte (decimal n ++ x) 0) ≡ true
begins_decimal n x =
    let r : Reader n (λ (w : List ℕ). is_digit_byte (byte w 0)) (λ v w. true) = record { first = λ d y h. is_digit d h; more = λ v d y g h l. refl } in
    reads_decimal r n (omega arith) x

-- its digits come to it
one_digit : (v d n : ℕ) (x : List ℕ) → d < 10 → 10 * v + d ≡ n → n ≤ 65535 → number v ((48 + d) ∷ x) ≡ number n x
unfolding number
one_digit v d n x h e l =
    let more : (10 * v + (48 + d - 48)) % 65536 ≡ n = omega arith in
    rw (is_digit d h, more)

pub number_decimal : (n : ℕ) (x : List ℕ) → n ≤ 65535 → number 0 (decimal n ++ x) ≡ number n x
number_decimal n x l =
    let r : Reader 65535 (number 0) number =
    record { first = λ d y h. one_digit 0 d d y h (omega arith) (omega arith); more = λ v d y g h k. one_digit v d _ y h refl k } in
    reads_decimal r n l x

-- no digit follows
pub number_ends : (v : ℕ) (x : List ℕ) → is_digit_byte (byte x 0) ≡ false → number v x ≡ v
unfolding number
number_ends v [] h = refl
number_ends v (b ∷ x) h = rw h

-- reading on from byte `at`
pub number_step :
    (t : List ℕ) (at v : ℕ)
    → at < length t
    → is_digit_byte (byte t at) ≡ true
    → number ((10 * v + (byte t at - 48)) % 65536) (drop (at + 1) t) ≡ number v (drop at t)
unfolding number
number_step t at v h e = rw (add-one at, drop-cons t at 0 h, e)

pub number_stop : (t : List ℕ) (at v : ℕ) → is_digit_byte (byte t at) ≡ false → number v (drop at t) ≡ v
number_stop t at v e =
    number_ends v (drop at t) (ap is_digit_byte (get_or-drop at t 0 0 ∙ ap (byte t) (add-zero at)) ∙ e)

pub number_out : (t : List ℕ) (at v : ℕ) → length t ≤ at → number v (drop at t) ≡ v
unfolding number
number_out t at v h = rw (drop_of_length-le t h)
