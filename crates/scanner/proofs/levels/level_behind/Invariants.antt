-- `level_behind` meets its contract: form by form.
use Prim.Native.Nat.{◌-◌}
use mathlib.Core.Path.{◌≡◌}
use Rattle.form.specs.Inside.Rows.{form_count}
use Rattle.scanner.specs.Levels.{level_from}
use Rattle.scanner.proofs.levels.level_behind.Given as goal

abbrev pub invariant-loop-k : goal.invariant-loop-k
invariant-loop-k l = level_from form_count 0 l.before l.last ≡ level_from (form_count - l.k) l.k l.before l.last
