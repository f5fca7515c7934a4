-- How a program is printed: the one spelling that its Seqs and Pars have with two parts each.
use Rattle.std.specs.Prelude.{ℕ, List, [], ◌++◌}
use Rattle.letters.specs.Decimal.{decimal}
use Rattle.letters.specs.Text.{bytes}
use Rattle.junior.specs.Configuration.{Config, Event, Not, And, Or}
use Rattle.junior.specs.Program.{Program, Argument, no_argument, number, event, configuration, value, capped, argument, kind}
use Rattle.junior.specs.Program.{Parts, no_part, one_part, two_parts, parts}
use Rattle.form.specs.Names.{opening}

unfoldable pub spell_test : Config → List ℕ
spell_test (Event s) = decimal s
spell_test (Not c) = bytes "(not " ++ (spell_test c ++ bytes ")")
spell_test (And c d) = bytes "(" ++ (spell_test c ++ (bytes " and " ++ (spell_test d ++ bytes ")")))
spell_test (Or c d) = bytes "(" ++ (spell_test c ++ (bytes " or " ++ (spell_test d ++ bytes ")")))

-- the name of its form, with the bracket
abbrev pub name : Program → List ℕ
name p = opening (kind p)

abbrev pub spell_argument : Argument → List ℕ
spell_argument no_argument = []
spell_argument (number n) = decimal n
spell_argument (event s) = decimal s
spell_argument (configuration c) = spell_test c
spell_argument (value v) = decimal v
spell_argument (capped v cap) = decimal v ++ (bytes ", " ++ decimal cap)

-- the argument before the parts, if there is one
abbrev pub before : Argument → List ℕ → List ℕ
before no_argument w = w
before (number n) w = decimal n ++ (bytes ", " ++ w)
before (event s) w = decimal s ++ (bytes ", " ++ w)
before (configuration c) w = spell_test c ++ (bytes ", " ++ w)
before (value v) w = decimal v ++ (bytes ", " ++ w)
before (capped v cap) w = decimal v ++ (bytes ", " ++ (decimal cap ++ (bytes ", " ++ w)))

abbrev pub spell_parts : {p : Program} → Parts p → List ℕ
spell_parts {p} (no_part f) = name p ++ (spell_argument (argument p) ++ bytes ")")
spell_parts {p} (one_part f q) = name p ++ before (argument p) (spell_parts q ++ bytes ")")
spell_parts {p} (two_parts f q r) =
    name p ++ before (argument p) (spell_parts q ++ (bytes ", " ++ (spell_parts r ++ bytes ")")))

unfoldable pub spell : Program → List ℕ
unfolding kind opening
spell p = spell_parts (parts p)
