-- What reading answers to what was printed of table t (02, L3).
use Rattle.std.specs.Prelude.{ℕ, ◌<◌, ◌≤◌, ◌≡◌, Result, Ok, Err, List}
use Rattle.table.specs.declared.TableRefusal.TheVariants.{BadCounts}
use Rattle.table.specs.Spells.{tree_of}
use Rattle.table.specs.Verdict.{verdict_of}
use Rattle.text.specs.declared.ReadRefusal.{ReadRefusal}
use Rattle.text.specs.declared.ReadRefusal.TheVariants as answered
use Rattle.form.specs.Made.{tests, table_of, needed}
use Rattle.letters.specs.Text.{beginning}
use Rattle.text.specs.Answers.{Fits}

-- a table with the same tree, configurations and figures; 22 exactly if it doesn't fit, then 2 exactly if the copies of shared
-- configurations are more than 2,048 records
pub data Back (t room : List ℕ) : List ℕ → Result ℕ ReadRefusal → Type 0 where
  same :
      Fits (needed (tree_of t)) room
      → tests (tree_of t) ≤ 2048
      → verdict_of (table_of (tree_of t)) ≡ verdict_of t
      → tree_of (table_of (tree_of t)) ≡ tree_of t
      → Back t room (beginning (table_of (tree_of t)) room) (Ok (needed (tree_of t)))
  too_long : (Fits (needed (tree_of t)) room → ⊥) → Back t room room (Err answered.NoRoom)
  too_many : Fits (needed (tree_of t)) room → 2048 < tests (tree_of t) → Back t room room (Err (answered.Table BadCounts))
