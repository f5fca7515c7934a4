-- What printing an accepted table answers: measured into no room, then put at the start of the room.
use Prim.Native.Nat.{ℕ, ◌≤◌, ◌<◌}
use mathlib.Core.Path.{◌≡◌, ◌∙◌}
use mathlib.Core.List.{List, []}
use native.Mathlib.Omega.{arith}
use lib.ListN.{length}
use Rattle.std.specs.Prelude.{Ok, Err}
use Rattle.table.specs.Spells.{tree_of}
use Rattle.table.specs.Verdict.{verdict_of, number_of}
use Rattle.table.specs.Inside.{Placed}
use Rattle.table.proofs.Loaded.{whole_placed}
use Rattle.table.proofs.Accepted.{accepted}
use Rattle.text.specs.declared.PrintRefusal.TheVariants as told
use Rattle.form.specs.Spelling.{spell}
use Rattle.text.specs.Answers.{Prints, no_room, printed}
use Rattle.letters.specs.Rooms.{Puts}
use Rattle.printer.specs.Printing.{Printable, Shows}
use Rattle.letters.proofs.Rooms.{sets_front}
use Rattle.printer.proofs.FitsInParts.{sets_none}
use Rattle.printer.proofs.ShortTexts.{whole_fits}

module _ (t : List ℕ) (e : number_of (verdict_of t) ≡ 0) where
  placed : Placed t 0 (tree_of t)
  placed = whole_placed (accepted t e).loaded

  -- it can be printed
  pub printable : Printable spell t 0 0
  printable = record { program = tree_of t; placed = placed; fits = whole_fits placed }

  put_whole : {old new : List ℕ} {r : ℕ} → Shows spell t 0 old new 0 r → Puts old new 0 (spell (tree_of t)) r
  put_whole s = s.puts (tree_of t) placed.spelled

  -- no room stays none, and the answer is the length
  pub measured : {none : List ℕ} {r : ℕ} → Shows spell t 0 [] none 0 r → (none ≡ []) × (r ≡ length (spell (tree_of t)))
  measured s =
      let p = put_whole s in
      (p.room ∙ sets_none 0 (spell (tree_of t)), omega (arith, p.next))

  module _ {room : List ℕ} {n : ℕ} (long : n ≡ length (spell (tree_of t))) where
    pub prints_no_room : length room < n → Prints t room room (Err told.NoRoom)
    prints_no_room l = no_room e (omega arith)

    pub prints_all : {new : List ℕ} {r : ℕ} → n ≤ length room → Shows spell t 0 room new 0 r → Prints t room new (Ok n)
    prints_all l s =
        let fits : length (spell (tree_of t)) ≤ length room = omega arith in
        rw (long, (put_whole s).room ∙ sets_front room (spell (tree_of t)) fits) (printed e fits)
