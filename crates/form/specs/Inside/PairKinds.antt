-- The kind of the configuration whose word is found.
use Rattle.std.specs.Prelude.{ℕ, Option, None, Some}
use Rattle.form.specs.declared.names.Pair.{Pair}
use Rattle.form.specs.declared.names.Pair.TheVariants.{And, Or}

-- 0 where none is
abbrev pub pair_kind : Option Pair → ℕ
pair_kind None = 0
pair_kind (Some And) = 2
pair_kind (Some Or) = 3
