-- A line that was read and listed is answered.
use mathlib.Core.Path.{◌≡◌, refl, sym, ap, ◌∙◌, fun_ext}
use mathlib.Core.Bool.{Bool, true, false, cond}
use mathlib.Core.List.{List, ◌++◌}
use Prim.Native.Nat.{ℕ, ◌≤◌}
use native.Mathlib.Nat.{zero-add}
use native.Mathlib.Omega.{arith}
use lib.ListN.{length, get_or, drop, replicate, get_or-replicate, length-append}
use lib.Dec.{ltb}
use borrow.Author.Tests.{le-leb, ltb-true}
use Rattle.events.specs.Events.{Events}
use Rattle.junior.specs.Trace.{atoms}
use Rattle.junior.specs.Values.{Values, zeros}
use Rattle.listing.specs.Output.{Written}
use Rattle.kernel.specs.declared.Answer.{Answer}
use Rattle.kernel.specs.Answer.{values_of, Rooms, Run}
use Rattle.waiting.specs.declared.Wait.{Wait}
use Rattle.letters.specs.Rooms.{Puts}
use Rattle.letters.proofs.Rooms.{sets_front}
use Rattle.letters.proofs.Puts.{puts_then}
use Rattle.player.specs.Answering.{Lists, Answers}
use Rattle.player.specs.Inside.{PutsUnder}

-- sixteen bytes that are 0 hand in zeros
pub zeros_handed : values_of (replicate 16 0) ≡ zeros
zeros_handed = fun_ext (λ v. go v (ltb v 16) refl)
  where
    go : (v : ℕ) (below : Bool) → ltb v 16 ≡ below → ◌≡◌ {A = ℕ} (cond below (get_or (replicate 16 0) v 0) 0) 0
    go v true e = get_or-replicate 16 v 0 0 (ltb-true v 16 e)
    go v false e = refl

-- the atoms done are in the row
pub atoms_within : {t s : List ℕ} {X : Events} {value : Values} {lent : Rooms} {s' : List ℕ} {left : Rooms} {r : Answer}
    → Run t s X value lent s' left r → r.atoms ≤ length left.row
atoms_within {lent = lent} {left = left} {r = r} run =
    let long : length left.row ≡ _ = ap length run.row_is ∙ length-append (atoms run.result.acts) (drop r.atoms lent.row) in
    omega (arith, run.atoms_are, long)

pub answers : {why : Bool} {t s : List ℕ} {lent : Rooms} {line : List ℕ} {number : ℕ} {s' : List ℕ} {left : Rooms} {text old new : List ℕ} {least r : ℕ}
    → least ≤ length old
    → Lists why t s lent line number s' left text
    → Written least text old new r
    → Answers why t s lent line number s' left old new r
answers {text = text} {old = old} {least = least} h l w =
    let enough = le-leb least (length old) h in
    record { text = text; lists = l; answer = simp enough at w.answer; room = simp enough at w.room; within = w.within }

-- where a line ends that has its room, and what is behind it
pub line_end_is : {text old new : List ℕ} {least r : ℕ} → least ≤ length old → Written least text old new r → r ≡ length text
line_end_is {old = old} {least = least} h w = simp (le-leb least (length old) h) at w.answer

-- the line of an instant that ran, with what was put under it
module _ {why : Bool} {t s : List ℕ} {lent : Rooms} {line : List ℕ} {number : ℕ} {s' : List ℕ} {left : Rooms} {text old mid new : List ℕ}
    {least x r : ℕ} {w : Wait} where
  pub answers_under : least ≤ length old
      → Written least text old mid x
      → (u : PutsUnder why t w mid new x r)
      → length mid ≡ length old
      → Lists why t s lent line number s' left (text ++ u.more)
      → Answers why t s lent line number s' left old new r
  answers_under h l u long lists =
      let enough = le-leb least (length old) h in
      let room = simp enough at l.room in
      let few : length text ≤ length old = omega (arith, line_end_is h l, l.within) in
      let first : Puts old mid 0 text x =
      record { next = line_end_is h l ∙ sym (zero-add (length text)); room = room ∙ sym (sets_front old text few) } in
      let all = puts_then first u.puts in
      let whole : r ≡ length (text ++ u.more) = all.next ∙ zero-add (length (text ++ u.more)) in
      let inside : r ≤ length old = rw (← long) u.within in
      record {
        text = text ++ u.more;
        lists = lists;
        answer = whole;
        room = all.room ∙ sets_front old (text ++ u.more) (omega arith);
        within = inside;
      }
