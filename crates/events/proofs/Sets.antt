-- Two sets with the same members are the same value, and no event without a place is a member.
use mathlib.Core.Path.{◌≡◌, sym, ap, ◌∙◌}
use mathlib.Core.Bool.{false}
use mathlib.Core.List.{List}
use Prim.Native.Nat.{ℕ, ◌≤◌, ◌<◌}
use native.Mathlib.Omega.{arith}
use borrow.Author.Rules.{rules}
use denote.Laws.{Is}
use mir.Val.{Val, Fits}
use mir.Syntax.{w64}
use lib.ListN.{get_or}
use Rattle.events.specs.Members.{places, members, Whole}
use Rattle.events.specs.declared.EventSet.{EventSet}
use Rattle.events.specs.contracts.EventSet.{the_row}
use Rattle.events.proofs.Words.{marks_past, marks_same}

-- for `Is the_row s v` is what a program knows of a set s that it holds, with v in the machine: `c.good.0` of a parameter, `.ok` of a call's result
pub whole : (s : EventSet) (v : List Val) → Is the_row s v → Whole s
whole s v i = record { long = search rules; fits = λ q. let f : Fits w64 (get_or s.words q 0) = search rules in f.fits }

pub same_members : (s t : EventSet) → Whole s → Whole t → ((n : ℕ) → n < places → members s n ≡ members t n) → s ≡ t
same_members s t f g e =
    ap (λ (l : List ℕ). record { words = l })
    (marks_same s.words t.words (f.long ∙ sym g.long) f.fits g.fits (λ n h. e n (omega arith)))

pub members_past : (s : EventSet) → Whole s → (n : ℕ) → places ≤ n → members s n ≡ false
members_past s w n h = marks_past s.words n (omega arith)
