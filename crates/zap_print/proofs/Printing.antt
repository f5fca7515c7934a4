-- What an answer of printing tells of the room.
use Prim.Native.Nat.{ℕ, ◌≤◌}
use mathlib.Core.Path.{◌≡◌, subst}
use mathlib.Core.List.{List}
use native.Mathlib.Omega.{arith}
use lib.ListN.{length, drop, length-append}
use Rattle.table.specs.Spells.{tree_of}
use Rattle.form.specs.Spelling.{spell}
use Rattle.std.specs.Prelude.{Result, Ok}
use Rattle.text.specs.declared.PrintRefusal.{PrintRefusal}
use Rattle.text.specs.Answers.{Prints, printed}

print_fits : {table room after : List ℕ} {n : ℕ} → Prints table room after (Ok n) → n ≤ length after
print_fits {table} {room} (printed e l) =
    let text = spell (tree_of table) in
    omega (arith, length-append text (drop (length text) room))

-- a text that was printed is within its room
pub printed_within : {table room after : List ℕ} {r : Result ℕ PrintRefusal} → Prints table room after r → {n : ℕ}
    → r ≡ Ok n → n ≤ length after
printed_within {table} {room} {after} o e = print_fits (subst (Prints table room after) e o)
