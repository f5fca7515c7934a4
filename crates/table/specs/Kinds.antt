-- The kinds by name, and each one's number (01, "The table"; L8, L14).
use Rattle.std.specs.Prelude.{ℕ, ◌<◌, ◌≡◌, Result, MatchResult}
use Rattle.table.specs.declared.kinds.Kind.{Kind}
use Rattle.table.specs.declared.kinds.Kind.TheVariants.{Nothing, Stop, Atom, Seq, Par, Loop, Repeat, Generate, Await}
use Rattle.table.specs.declared.kinds.Kind.TheVariants.{When, Until, Control, Local, Freezable, If, RepeatExt}
use Rattle.table.specs.declared.kinds.UnknownKind.{UnknownKind}

abbrev pub kind_number : Kind → ℕ
kind_number Nothing = 0
kind_number Stop = 1
kind_number Atom = 2
kind_number Seq = 3
kind_number Par = 4
kind_number Loop = 5
kind_number Repeat = 6
kind_number Generate = 7
kind_number Await = 8
kind_number When = 9
kind_number Until = 10
kind_number Control = 11
kind_number Local = 12
kind_number Freezable = 13
kind_number If = 14
kind_number RepeatExt = 15

-- r is the kind with that number, or says that none has it
abbrev pub IsKindOf : ℕ → Result Kind UnknownKind → Type 0
IsKindOf number r = MatchResult r (λ kind. kind_number kind ≡ number) (λ e. (e.0 ≡ number) × (15 < number))
