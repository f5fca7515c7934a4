-- A program in short: its name and its argument in written form, `..` for its parts. So the program for people shows a test (02, L1).
use Rattle.std.specs.Prelude.{ℕ, List, ◌++◌}
use Rattle.letters.specs.Text.{bytes}
use Rattle.junior.specs.Program.{Program, argument, Parts, no_part, one_part, two_parts, parts}
use Rattle.form.specs.Spelling.{name, before, spell_argument}

abbrev pub outline_parts : {p : Program} → Parts p → List ℕ
outline_parts {p} (no_part f) = name p ++ (spell_argument (argument p) ++ bytes ")")
outline_parts {p} (one_part f q) = name p ++ before (argument p) (bytes "..)")
outline_parts {p} (two_parts f q r) = name p ++ before (argument p) (bytes "..)")

unfoldable pub outline : Program → List ℕ
outline p = outline_parts (parts p)
