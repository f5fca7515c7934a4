-- A text of the form says a program in form.
use Rattle.junior.specs.Configuration.{Config}
use Rattle.junior.specs.Program.{Program}
use mathlib.Core.List.{List}
use Prim.Native.Nat.{ℕ}
use Rattle.form.specs.Form.{SaysTest, says_event, says_not, says_and, says_or, Piece, whole, later_seq}
use Rattle.form.specs.Form.{later_par, Says, says_nothing, says_stop, says_atom, says_seq, last_of_seq}
use Rattle.form.specs.Form.{more_of_seq, says_par, last_of_par, more_of_par, says_loop, says_repeat}
use Rattle.form.specs.Form.{says_generate, says_await, says_when, says_until, says_control, says_local, says_freezable, says_if}
use Rattle.form.specs.Form.{says_repeat_ext}
use Rattle.form.specs.InForm.{TestInForm, InForm}

test_in_form : {c : Config} {w : List ℕ} → SaysTest c w → TestInForm c
test_in_form (says_event l) = l
test_in_form (says_not t) = test_in_form t
test_in_form (says_and t u) = (test_in_form t, test_in_form u)
test_in_form (says_or t u) = (test_in_form t, test_in_form u)

abbrev said : Piece → Program
said (whole p) = p
said (later_seq p) = p
said (later_par p) = p

piece_in_form : {s : Piece} {w : List ℕ} → Says s w → InForm (said s)
piece_in_form says_nothing = tt
piece_in_form says_stop = tt
piece_in_form (says_atom l) = l
piece_in_form (says_seq d e) = (tt, piece_in_form d, piece_in_form e)
piece_in_form (last_of_seq d) = piece_in_form d
piece_in_form (more_of_seq d e) = (tt, piece_in_form d, piece_in_form e)
piece_in_form (says_par d e) = (tt, piece_in_form d, piece_in_form e)
piece_in_form (last_of_par d) = piece_in_form d
piece_in_form (more_of_par d e) = (tt, piece_in_form d, piece_in_form e)
piece_in_form (says_loop d) = (tt, piece_in_form d)
piece_in_form (says_repeat l d) = (l, piece_in_form d)
piece_in_form (says_generate l) = l
piece_in_form (says_await t) = test_in_form t
piece_in_form (says_when t d e) = (test_in_form t, piece_in_form d, piece_in_form e)
piece_in_form (says_until t d e) = (test_in_form t, piece_in_form d, piece_in_form e)
piece_in_form (says_control l d) = (l, piece_in_form d)
piece_in_form (says_local l d) = (l, piece_in_form d)
piece_in_form (says_freezable l d) = (l, piece_in_form d)
piece_in_form (says_if l d e) = (l, piece_in_form d, piece_in_form e)
piece_in_form (says_repeat_ext l m d) = ((l, m), piece_in_form d)

pub says_in_form : {p : Program} {w : List ℕ} → Says (whole p) w → InForm p
says_in_form d = piece_in_form d
