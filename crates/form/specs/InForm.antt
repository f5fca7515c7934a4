-- A program that the written form can say: its numbers are within the form's limits.
use Rattle.std.specs.Prelude.{◌<◌, ◌≤◌}
use Rattle.events.specs.Members.{places}
use Rattle.junior.specs.Configuration.{Config, Event, Not, And, Or}
use Rattle.junior.specs.Program.{Program, Argument, no_argument, number, event, configuration, value, capped, argument}
use Rattle.junior.specs.Program.{Parts, no_part, one_part, two_parts, parts}

abbrev pub TestInForm : Config → Type 0
TestInForm (Event s) = s < places
TestInForm (Not c) = TestInForm c
TestInForm (And c d) = TestInForm c × TestInForm d
TestInForm (Or c d) = TestInForm c × TestInForm d

abbrev pub ArgumentInForm : Argument → Type 0
ArgumentInForm no_argument = Unit {0}
ArgumentInForm (number n) = n ≤ 65535
ArgumentInForm (event s) = s < places
ArgumentInForm (configuration c) = TestInForm c
ArgumentInForm (value v) = v ≤ 15
ArgumentInForm (capped v cap) = (v ≤ 15) × (cap ≤ 255)

-- its argument and its parts
abbrev pub PartsInForm : {p : Program} → Parts p → Type 0
PartsInForm {p} (no_part f) = ArgumentInForm (argument p)
PartsInForm {p} (one_part f q) = ArgumentInForm (argument p) × PartsInForm q
PartsInForm {p} (two_parts f q r) = ArgumentInForm (argument p) × PartsInForm q × PartsInForm r

abbrev pub InForm : Program → Type 0
InForm p = PartsInForm (parts p)
