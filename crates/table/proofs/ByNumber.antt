-- A kind is told by its number.
use Prim.Native.Nat.{◌≤◌}
use mathlib.Core.Bool.{false}
use mathlib.Core.List.{List, [], ◌∷◌}
use mathlib.Core.Path.{◌≡◌, refl, ap, sym, ◌∙◌}
use native.Mathlib.Omega.{arith}
use lib.Dec.{eqb}
use lib.ListN.{get_or}
use borrow.Author.Tests.{ne_eqb}
use Rattle.table.specs.declared.kinds.Kind.{Kind}
use Rattle.table.specs.declared.kinds.Kind.TheVariants.{Nothing, Stop, Atom, Seq, Par, Loop, Repeat, Generate, Await}
use Rattle.table.specs.declared.kinds.Kind.TheVariants.{When, Until, Control, Local, Freezable, If, RepeatExt}
use Rattle.table.specs.Kinds.{kind_number}

abbrev in_order : List Kind
in_order =
    Nothing
    ∷ Stop
    ∷ Atom
    ∷ Seq
    ∷ Par
    ∷ Loop
    ∷ Repeat
    ∷ Generate
    ∷ Await
    ∷ When
    ∷ Until
    ∷ Control
    ∷ Local
    ∷ Freezable
    ∷ If
    ∷ RepeatExt
    ∷ []

back : (k : Kind) → get_or in_order (kind_number k) Nothing ≡ k
back Nothing = refl
back Stop = refl
back Atom = refl
back Seq = refl
back Par = refl
back Loop = refl
back Repeat = refl
back Generate = refl
back Await = refl
back When = refl
back Until = refl
back Control = refl
back Local = refl
back Freezable = refl
back If = refl
back RepeatExt = refl

pub same_kind : (k j : Kind) → kind_number k ≡ kind_number j → k ≡ j
same_kind k j e = sym (back k) ∙ (ap (λ n. get_or in_order n Nothing) e ∙ back j)

pub other_kind : (k j : Kind) → (k ≡ j → ⊥) → eqb (kind_number k) (kind_number j) ≡ false
other_kind k j n = ne_eqb _ _ (λ e. n (same_kind k j e))

pub at_most_15 : (k : Kind) → kind_number k ≤ 15
at_most_15 Nothing = omega arith
at_most_15 Stop = omega arith
at_most_15 Atom = omega arith
at_most_15 Seq = omega arith
at_most_15 Par = omega arith
at_most_15 Loop = omega arith
at_most_15 Repeat = omega arith
at_most_15 Generate = omega arith
at_most_15 Await = omega arith
at_most_15 When = omega arith
at_most_15 Until = omega arith
at_most_15 Control = omega arith
at_most_15 Local = omega arith
at_most_15 Freezable = omega arith
at_most_15 If = omega arith
at_most_15 RepeatExt = omega arith
