-- A node with no byte but zeros around others that have some: it rests by its kind, and by its second part.
use Prim.Native.Nat.{ℕ, ◌+◌, ◌<◌}
use mathlib.Core.Bool.{false, ◌&&◌}
use mathlib.Core.Path.{◌≡◌, refl, ap, sym, ◌∙◌}
use mathlib.Core.Logic.{inl, inr}
use mathlib.Core.List.{List}
use native.Mathlib.Omega.{arith}
use borrow.Author.Tests.{lt-leb}
use Rattle.table.specs.Records.{kind_at, size_at}
use Rattle.table.specs.Good.{children}
use Rattle.table.specs.Kinds.{kind_number}
use Rattle.table.specs.declared.kinds.Kind.{Kind}
use Rattle.table.specs.declared.kinds.Kind.TheVariants.{Nothing, Stop, Atom, Seq, Par, Loop, Repeat, Generate, Await}
use Rattle.table.specs.declared.kinds.Kind.TheVariants.{When, Until, Control, Local, Freezable, If, RepeatExt}
use Rattle.table.proofs.Laid.{Laid, none}
use Rattle.table.proofs.Subtrees.{body, pair, laid_there}
use Rattle.state.specs.Resting.{first_zero, second_zero, below_zero, phase_rests}
use Rattle.state.specs.Inside.{Judging}
use Rattle.state.proofs.Near.{below_near, body_below, pair_below}
use Rattle.state.proofs.Phases.{branches_fresh, body_fresh}

module _ {t s : List ℕ} {i near : ℕ} (j : Judging t s i near) (around : near < i + size_at t i) where
  some_below : below_zero t s i ≡ false
  some_below = below_near j ∙ lt-leb _ _ around

  has_part : children (kind_at t i) ≡ 0 → ⊥
  has_part e = go (rw e at (laid_there j.behind.rooted i j.inside))
    where
      go : Laid (size_at t) (size_at t 0) i 0 → ⊥
      go (none one) = omega (arith, j.behind.nearest.from)

  in_body : (k : ℕ) → kind_at t i ≡ k → children k ≡ 1 → first_zero t s i ≡ false
  in_body k e c = sym (body_below s (body j.behind.rooted i j.inside (ap children e ∙ c))) ∙ some_below

  in_branch : (k : ℕ) → kind_at t i ≡ k → children k ≡ 2 → (first_zero t s i && second_zero t s i) ≡ false
  in_branch k e c = sym (pair_below s (pair j.behind.rooted i j.inside (ap children e ∙ c))) ∙ some_below

  -- a kind without parts has nothing around it; any other but these isn't fresh there
  pub not_fresh : (k : Kind) → kind_number k ≡ kind_at t i
      → (k ≡ Seq → ⊥) → (k ≡ Par → ⊥) → (k ≡ Until → ⊥) → (k ≡ Control → ⊥) → (k ≡ Local → ⊥) → (k ≡ Freezable → ⊥)
      → phase_rests t s i (kind_at t i) 0 ≡ false
  unfolding children
  not_fresh Nothing e a b c d f g = absurd (has_part (ap children (sym e)))
  not_fresh Stop e a b c d f g = absurd (has_part (ap children (sym e)))
  not_fresh Atom e a b c d f g = absurd (has_part (ap children (sym e)))
  not_fresh Generate e a b c d f g = absurd (has_part (ap children (sym e)))
  not_fresh Await e a b c d f g = absurd (has_part (ap children (sym e)))
  not_fresh Loop e a b c d f g = body_fresh t s i (inl (sym e)) ∙ in_body 5 (sym e) refl
  not_fresh Repeat e a b c d f g = body_fresh t s i (inr (inl (sym e))) ∙ in_body 6 (sym e) refl
  not_fresh RepeatExt e a b c d f g = body_fresh t s i (inr (inr (sym e))) ∙ in_body 15 (sym e) refl
  not_fresh When e a b c d f g = branches_fresh t s i (inl (sym e)) ∙ in_branch 9 (sym e) refl
  not_fresh If e a b c d f g = branches_fresh t s i (inr (sym e)) ∙ in_branch 14 (sym e) refl
  not_fresh Seq e a b c d f g = absurd (a refl)
  not_fresh Par e a b c d f g = absurd (b refl)
  not_fresh Until e a b c d f g = absurd (c refl)
  not_fresh Control e a b c d f g = absurd (d refl)
  not_fresh Local e a b c d f g = absurd (f refl)
  not_fresh Freezable e a b c d f g = absurd (g refl)
