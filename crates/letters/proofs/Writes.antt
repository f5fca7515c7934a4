-- Texts that a writer writes, one behind the other.
use mathlib.Core.Path.{◌≡◌, refl, ◌∙◌}
use mathlib.Core.List.{List, [], ◌∷◌, ◌++◌}
use Prim.Native.Nat.{ℕ, ◌+◌, ◌^◌, ◌≤◌, ◌<◌, suc}
use lib.ListN.{length}
use Rattle.letters.specs.Decimal.{decimal}
use Rattle.letters.specs.Writing.{Writes}
use Rattle.letters.specs.declared.Writer.{Writer}
use Rattle.letters.proofs.Puts.{puts_none, puts_then, number_end}

pub writes_none : (w : Writer) → Writes w w []
writes_none w = record { same_room = refl; long = refl; puts = puts_none w.room.now w.at }

pub writes_then : {a b c : Writer} {u v : List ℕ} → Writes a b u → Writes b c v → Writes a c (u ++ v)
writes_then p q =
    record { same_room = q.same_room ∙ p.same_room; long = q.long ∙ p.long; puts = puts_then p.puts q.puts }

-- where the writer then stands
pub writes_end : {a b : Writer} {text : List ℕ} → Writes a b text → b.at ≡ a.at + length text
writes_end w = w.puts.next

-- and behind a number of at most k digits and a byte
pub number_ends : {a b : Writer} (k n e : ℕ) → n < 10 ^ suc k → Writes a b (decimal n ++ (e ∷ [])) → b.at ≤ a.at + k + 2
number_ends k n e h w = number_end k n e h w.puts
