-- A node's kind by name, and the number that its record has.
use Prim.Native.Nat.{ℕ}
use mathlib.Core.Logic.{◌⊎◌, inl, inr}
use mathlib.Core.List.{List, [], ◌∷◌}
use mathlib.Core.Path.{◌≡◌, refl, ap, sym, ◌∙◌}
use lib.ListN.{get_or}
use Rattle.table.specs.declared.kinds.Kind.{Kind}
use Rattle.table.specs.declared.kinds.Kind.TheVariants.{Nothing, Stop, Atom, Seq, Par, Loop, Repeat, Generate, Await}
use Rattle.table.specs.declared.kinds.Kind.TheVariants.{When, Until, Control, Local, Freezable, If, RepeatExt}
use Rattle.table.specs.Kinds.{kind_number}

abbrev in_order : List Kind
in_order =
    Nothing
    ∷ Stop
    ∷ Atom
    ∷ Seq
    ∷ Par
    ∷ Loop
    ∷ Repeat
    ∷ Generate
    ∷ Await
    ∷ When
    ∷ Until
    ∷ Control
    ∷ Local
    ∷ Freezable
    ∷ If
    ∷ RepeatExt
    ∷ []

back : (k : Kind) → get_or in_order (kind_number k) Nothing ≡ k
back Nothing = refl
back Stop = refl
back Atom = refl
back Seq = refl
back Par = refl
back Loop = refl
back Repeat = refl
back Generate = refl
back Await = refl
back When = refl
back Until = refl
back Control = refl
back Local = refl
back Freezable = refl
back If = refl
back RepeatExt = refl

-- another kind has another number
pub another : (j : Kind) {k : Kind} {n : ℕ} → kind_number k ≡ n → (k ≡ j → ⊥) → n ≡ kind_number j → ⊥
another j {k} is other e = other (sym (back k) ∙ (ap (λ n. get_or in_order n Nothing) (is ∙ e) ∙ back j))

-- a kind, one of two kinds, one of four
module _ {k : Kind} {n : ℕ} (is : kind_number k ≡ n) where
  pub named : (j : Kind) → k ≡ j → n ≡ kind_number j
  named j e = sym is ∙ ap kind_number e

  pub of_two : {i j : Kind} → (k ≡ i) ⊎ (k ≡ j) → (n ≡ kind_number i) ⊎ (n ≡ kind_number j)
  of_two {i} {j} (inl e) = inl (named i e)
  of_two {i} {j} (inr e) = inr (named j e)

  pub of_four : {i j l m : Kind} → (k ≡ i) ⊎ ((k ≡ j) ⊎ ((k ≡ l) ⊎ (k ≡ m)))
      → (n ≡ kind_number i) ⊎ ((n ≡ kind_number j) ⊎ ((n ≡ kind_number l) ⊎ (n ≡ kind_number m)))
  of_four {i} (inl e) = inl (named i e)
  of_four {j = j} (inr (inl e)) = inr (inl (named j e))
  of_four (inr (inr e)) = inr (inr (of_two e))
