-- What reading and printing answer, and what the lent room holds afterwards (02, L3): a refusal writes nothing.
use Rattle.std.specs.Prelude.{ℕ, ◌<◌, ◌≤◌, ◌≡◌, Result, Ok, Err, List, length}
use Rattle.letters.specs.Text.{beginning}
use Rattle.junior.specs.Program.{Program}
use Rattle.table.specs.declared.TableRefusal.{TableRefusal}
use Rattle.table.specs.Spells.{tree_of}
use Rattle.table.specs.Verdict.{refusal_number, refusal_index, verdict_of, number_of}
use Rattle.text.specs.declared.ReadRefusal.{ReadRefusal}
use Rattle.text.specs.declared.ReadRefusal.TheVariants as answered
use Rattle.text.specs.declared.PrintRefusal.{PrintRefusal}
use Rattle.text.specs.declared.PrintRefusal.TheVariants as told
use Rattle.form.specs.Form.{Says, whole}
use Rattle.form.specs.Fails.{Fails}
use Rattle.form.specs.Spelling.{spell}
use Rattle.form.specs.Made.{table_of, needed}

-- a table of so many bytes fits its room and the paper's limit
abbrev pub Fits : ℕ → List ℕ → Type 0
Fits n room = (n ≤ length room) × (n ≤ 32778)

-- reading a text into a room: 21; then 22 exactly if the table needs more than its room or 32,778 bytes; then 1 to 8 on that table
pub data Reads (text room : List ℕ) : List ℕ → Result ℕ ReadRefusal → Type 0 where
  fails : (k : ℕ) → Fails text k → Reads text room room (Err (answered.Fails k))
  no_room : (p : Program) → Says (whole p) text → (Fits (needed p) room → ⊥) → Reads text room room (Err answered.NoRoom)
  refused :
      (p : Program)
      → Says (whole p) text
      → Fits (needed p) room
      → {why : TableRefusal}
      → verdict_of (table_of p) ≡ Err why
      → Reads text room room (Err (answered.Table why))
  read :
      (p : Program)
      → Says (whole p) text
      → Fits (needed p) room
      → number_of (verdict_of (table_of p)) ≡ 0
      → Reads text room (beginning (table_of p) room) (Ok (needed p))

-- printing a table into a room: 1 to 8, then 24 if the room is too short
pub data Prints (table room : List ℕ) : List ℕ → Result ℕ PrintRefusal → Type 0 where
  refused : {why : TableRefusal} → verdict_of table ≡ Err why → Prints table room room (Err (told.Table why))
  no_room :
      number_of (verdict_of table) ≡ 0 → length room < length (spell (tree_of table)) → Prints table room room (Err told.NoRoom)
  printed :
      number_of (verdict_of table) ≡ 0
      → length (spell (tree_of table)) ≤ length room
      → Prints table room (beginning (spell (tree_of table)) room) (Ok (length (spell (tree_of table))))

-- this paper's number and index of each refusal
abbrev pub read_number : ReadRefusal → ℕ
read_number (answered.Fails k) = 21
read_number answered.NoRoom = 22
read_number (answered.Table why) = refusal_number why

abbrev pub read_index : ReadRefusal → ℕ
read_index (answered.Fails k) = k
read_index answered.NoRoom = 0
read_index (answered.Table why) = refusal_index why

abbrev pub print_number : PrintRefusal → ℕ
print_number (told.Table why) = refusal_number why
print_number told.NoRoom = 24

abbrev pub print_index : PrintRefusal → ℕ
print_index (told.Table why) = refusal_index why
print_index told.NoRoom = 0

-- the length of each answer
abbrev pub length_of : {E : Type 0} → Result ℕ E → ℕ
length_of (Ok n) = n
length_of (Err why) = 0
