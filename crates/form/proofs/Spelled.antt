-- How a program is printed is a text of the form that says this program.
use Rattle.junior.specs.Configuration.{Config, Event, Not, And, Or}
use Rattle.junior.specs.Program.{Program, Nothing, Stop, Atom, Seq, Par, Loop, Repeat, Generate, Await, When, Until}
use Rattle.junior.specs.Program.{Control, Local, Freezable, If}
use Rattle.junior.specs.Values.{exactly, asked}
use Rattle.form.specs.Form.{SaysTest, says_event, says_not, says_and, says_or, whole, Says, says_nothing}
use Rattle.form.specs.Form.{says_stop, says_atom, says_seq, last_of_seq, says_par, last_of_par, says_loop}
use Rattle.form.specs.Form.{says_repeat, says_generate, says_await, says_when, says_until, says_control}
use Rattle.form.specs.Form.{says_local, says_freezable, says_if, says_repeat_ext}
use Rattle.form.specs.InForm.{TestInForm, InForm}
use Rattle.form.specs.Spelling.{spell_test, spell}

says_spelled_test : (c : Config) → TestInForm c → SaysTest c (spell_test c)
unfolding spell_test
says_spelled_test (Event s) h = says_event h
says_spelled_test (Not c) h = says_not (says_spelled_test c h)
says_spelled_test (And c d) (g, h) = says_and (says_spelled_test c g) (says_spelled_test d h)
says_spelled_test (Or c d) (g, h) = says_or (says_spelled_test c g) (says_spelled_test d h)

pub says_spell : (p : Program) → InForm p → Says (whole p) (spell p)
unfolding spell
says_spell Nothing h = says_nothing
says_spell Stop h = says_stop
says_spell (Atom a) h = says_atom h
says_spell (Seq p q) (t, g, h) = says_seq (says_spell p g) (last_of_seq (says_spell q h))
says_spell (Par p q) (t, g, h) = says_par (says_spell p g) (last_of_par (says_spell q h))
says_spell (Loop p) (t, h) = says_loop (says_spell p h)
says_spell (Repeat (exactly n) p) (l, h) = says_repeat l (says_spell p h)
says_spell (Repeat (asked v cap) p) ((l, m), h) = says_repeat_ext l m (says_spell p h)
says_spell (Generate s) h = says_generate h
says_spell (Await c) h = says_await (says_spelled_test c h)
says_spell (When c p q) (t, g, h) = says_when (says_spelled_test c t) (says_spell p g) (says_spell q h)
says_spell (Until c p q) (t, g, h) = says_until (says_spelled_test c t) (says_spell p g) (says_spell q h)
says_spell (Control s p) (l, h) = says_control l (says_spell p h)
says_spell (Local s p) (l, h) = says_local l (says_spell p h)
says_spell (Freezable s p) (l, h) = says_freezable l (says_spell p h)
says_spell (If v p q) (l, g, h) = says_if l (says_spell p g) (says_spell q h)
