-- The bytes that configurations and programs begin with.
use Prim.Native.Nat.{ℕ, ◌<◌}
use mathlib.Core.Path.{◌≡◌, refl}
use mathlib.Core.List.{List, ◌++◌, append_assoc}
use native.Mathlib.Omega.{arith}
use Rattle.letters.specs.Decimal.{decimal}
use Rattle.junior.specs.Configuration.{Config}
use Rattle.table.specs.Records.{byte}
use Rattle.form.specs.Form.{SaysTest, says_event, says_not, says_and, says_or, Piece, Says}
use Rattle.form.specs.Form.{says_nothing, says_stop, says_atom, says_seq, last_of_seq, more_of_seq, says_par}
use Rattle.form.specs.Form.{last_of_par}
use Rattle.form.specs.Form.{more_of_par, says_loop, says_repeat, says_generate, says_await, says_when}
use Rattle.form.specs.Form.{says_until}
use Rattle.form.specs.Form.{says_control, says_local, says_freezable, says_if, says_repeat_ext}
use Rattle.form.proofs.Digits.{digit_is}
use Rattle.builder.proofs.ReadDigits.{begins_decimal}

-- a configuration begins with a digit or a bracket, which no letter is
pub begins_test : {c : Config} {u : List ℕ} → SaysTest c u → (x : List ℕ) → byte (u ++ x) 0 < 58
begins_test (says_event {s = s} h) x = omega (arith, (digit_is (byte (decimal s ++ x) 0) (begins_decimal s x)).1)
begins_test (says_not d) x = omega arith
begins_test (says_and d e) x = omega arith
begins_test (says_or d e) x = omega arith

-- a program, and each part behind a comma, begins with `J`
pub begins : {s : Piece} {u : List ℕ} → Says s u → (x : List ℕ) → byte (u ++ x) 0 ≡ 74
begins says_nothing x = refl
begins says_stop x = refl
begins (says_atom h) x = refl
begins (says_seq d e) x = refl
begins (last_of_seq d) x = rw append_assoc (begins d _)
begins (more_of_seq d e) x = rw append_assoc (begins d _)
begins (says_par d e) x = refl
begins (last_of_par d) x = rw append_assoc (begins d _)
begins (more_of_par d e) x = rw append_assoc (begins d _)
begins (says_loop d) x = refl
begins (says_repeat h d) x = refl
begins (says_generate h) x = refl
begins (says_await c) x = refl
begins (says_when c d e) x = refl
begins (says_until c d e) x = refl
begins (says_control h d) x = refl
begins (says_local h d) x = refl
begins (says_freezable h d) x = refl
begins (says_if h d e) x = refl
begins (says_repeat_ext h g d) x = refl
