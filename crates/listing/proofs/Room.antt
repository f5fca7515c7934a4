-- How long an output line is: a room of `enough` bytes has a place for every line of an instant that ran, and one of 32,768 bytes for 4,096 atoms.
use mathlib.Core.Path.{◌≡◌, refl, ap}
use mathlib.Core.Bool.{Bool, true, false, cond}
use mathlib.Core.List.{List, [], ◌∷◌}
use Prim.Native.Nat.{ℕ, zero, suc, ◌+◌, ◌*◌, ◌^◌, ◌≤◌, ◌<◌}
use native.Mathlib.Omega.{arith}
use lib.Dec.{lit≤}
use lib.ListN.{length, get_or, length-append}
use Rattle.events.specs.Events.{Events}
use Rattle.events.specs.Members.{places}
use Rattle.letters.specs.Decimal.{decimal}
use Rattle.letters.specs.Text.{bytes, comma, led, joined}
use Rattle.letters.proofs.Decimal.{decimal_length}
use Rattle.listing.specs.Output.{rising, listed, line, ran_line, bad_line, refused_line, table_refused_line, enough}
use Rattle.listing.specs.Inside.{items}
use Rattle.listing.proofs.Lists.{items_append, items_listed}

-- with a comma behind each, events and atoms take 6 bytes each
events_length : (n : ℕ) (X : Events) → n ≤ 65536 → length (items (rising n X)) ≤ 6 * n
unfolding rising items
events_length zero X h = omega arith
events_length (suc n) X h =
    rw (items_append (rising n X) (cond (X n) (n ∷ []) []), length-append (items (rising n X)) (items (cond (X n) (n ∷ []) [])))
    (go (X n) (events_length n X (omega arith)))
  where
    go : (b : Bool) → length (items (rising n X)) ≤ 6 * n → length (items (rising n X)) + length (items (cond b (n ∷ []) [])) ≤ 6 * suc n
    go true k = omega (arith, length-append (decimal n) (comma ∷ []), decimal_length 4 n (omega arith))
    go false k = omega arith

atoms_length : (l : List ℕ) → ((i : ℕ) → get_or l i 0 < 65536) → length (items l) ≤ 6 * length l
unfolding items
atoms_length [] h = omega arith
atoms_length (n ∷ l) h =
    let small : n < 65536 = h 0 in
    omega (arith, length-append (decimal n) (comma ∷ items l), decimal_length 4 n (omega arith), atoms_length l (λ i. h (suc i)))

listed_length : (l : List ℕ) → length (listed l) ≤ length (items l) + 1
unfolding listed
listed_length [] = omega arith
listed_length (n ∷ l) = omega (arith, ap length (items_listed n l), length-append (listed (n ∷ l)) (comma ∷ []))

field_length : (w v : List ℕ) (l : List (List ℕ)) → length (line (w ∷ v ∷ l)) ≡ length w + 1 + length (line (v ∷ l))
unfolding line joined led
field_length w v l = simp length-append (omega arith)

last_length : (w : List ℕ) → length (line (w ∷ [])) ≡ length w + 1
unfolding line joined led
last_length w = simp length-append (omega arith)

flag_four : (b : Bool) → length (cond b (bytes "TERM") (bytes "STOP")) ≡ 4
flag_four true = refl
flag_four false = refl

pub ran_fits : (number passes : ℕ) (finished : Bool) (X : Events) (atoms : List ℕ) → number < 2 ^ 64 → passes < 2 ^ 64
    → ((i : ℕ) → get_or atoms i 0 < 65536) → length (ran_line number passes finished X atoms) ≤ enough (length atoms)
unfolding ran_line
ran_fits number passes finished X atoms h k a =
    simp (field_length, last_length)
    (omega (
      arith,
      decimal_length 19 number (omega arith),
      decimal_length 19 passes (omega arith),
      flag_four finished,
      events_length places X (omega arith),
      listed_length (rising places X),
      atoms_length atoms a,
      listed_length atoms,
    ))

-- nor is a line without atoms longer
pub bad_fits : (number : ℕ) → number < 2 ^ 64 → length (bad_line number) ≤ enough 0
unfolding bad_line
bad_fits number h = simp (field_length, last_length) (omega (arith, decimal_length 19 number (omega arith)))

pub refused_fits : (number refusal index : ℕ) → number < 2 ^ 64 → refusal < 2 ^ 64 → index < 2 ^ 64
    → length (refused_line number refusal index) ≤ enough 0
unfolding refused_line
refused_fits number refusal index h k l =
    simp (field_length, last_length)
    (omega (
      arith,
      decimal_length 19 number (omega arith),
      decimal_length 19 refusal (omega arith),
      decimal_length 19 index (omega arith),
    ))

pub table_refused_fits : (refusal index : ℕ) → refusal < 2 ^ 64 → index < 2 ^ 64 → length (table_refused_line refusal index) ≤ enough 0
unfolding table_refused_line
table_refused_fits refusal index k l =
    simp (field_length, last_length)
    (omega (arith, decimal_length 19 refusal (omega arith), decimal_length 19 index (omega arith)))

pub enough_4096 : enough 4096 ≤ 32768
enough_4096 = lit≤ tt
