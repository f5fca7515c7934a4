-- The tree at a node, node by node: with no part, one or two, and what its own record says.
use Prim.Native.Nat.{ℕ, ◌+◌, ◌≤◌}
use mathlib.Core.Path.{◌≡◌, ap, ◌∙◌}
use mathlib.Core.List.{List}
use Rattle.junior.specs.Program.{Program, kind, argument, Leaf, One, Two, Parts, no_part, one_part, two_parts, parts}
use Rattle.junior.specs.Program.{size_of, size}
use Rattle.junior.proofs.Parts.{parts_one, parts_two, only_parts, size_by, some_nodes}
use Rattle.table.specs.Records.{kind_at, size_at, second_child}
use Rattle.table.specs.Good.{children}
use Rattle.table.specs.Spells.{Argues, Heads, SpellsParts, Spells}
use Rattle.table.proofs.Parts.{part_count, children_are}

-- p stands at node i, which has that many children
pub data Tree (t : List ℕ) : ℕ → ℕ → Program → Type 0 where
  leaf : {i : ℕ} {p : Program} → Spells t i p → Leaf p → Tree t i 0 p
  one : {i c : ℕ} {p q : Program} → Spells t i p → One p q → Tree t (i + 1) c q → Tree t i 1 p
  two : {i c d : ℕ} {p q r : Program} → Spells t i p → Two p q r → Tree t (i + 1) c q → Tree t (second_child t i) d r → Tree t i 2 p

module _ (t : List ℕ) where
  whole : (i : ℕ) {p : Program} (v : Parts p) → SpellsParts t i v → Spells t i p
  unfolding Spells
  whole i v h = rw (only_parts v) h

  by_parts : (i : ℕ) {p : Program} (v : Parts p) → SpellsParts t i v → Tree t i (part_count v) p
  by_parts i (no_part f) h = leaf (whole i (no_part f) h) f
  by_parts i (one_part f q) h = one (whole i (one_part f q) h) f (by_parts (i + 1) q h.2)
  by_parts i (two_parts f q r) h =
      two (whole i (two_parts f q r) h) f (by_parts (i + 1) q h.2) (by_parts (second_child t i) r h.3)

  pub own : (i : ℕ) {p : Program} (v : Parts p) → SpellsParts t i v → Heads t i p × Argues t i (argument p)
  own i (no_part f) h = h
  own i (one_part f q) h = (h.0, h.1)
  own i (two_parts f q r) h = (h.0, h.1)

  pub written_parts : (i : ℕ) {p : Program} (v : Parts p) → SpellsParts t i v → size_at t i ≡ size_of v
  written_parts i v h = (own i v h).0.1 ∙ size_by v

-- what stands at node i, by its record
module _ (t : List ℕ) (i : ℕ) (p : Program) (h : Spells t i p) where
  pub kind_is : kind_at t i ≡ kind p
  unfolding Spells
  kind_is = (own t i (parts p) h).0.0

  pub written : size_at t i ≡ size p
  unfolding Spells
  written = (own t i (parts p) h).0.1

  pub argued : Argues t i (argument p)
  unfolding Spells
  argued = (own t i (parts p) h).1

  pub tree : Tree t i (children (kind_at t i)) p
  unfolding Spells
  tree = rw (kind_is, children_are (parts p)) (by_parts t i (parts p) h)

pub spelled : {t : List ℕ} {i c : ℕ} {p : Program} → Tree t i c p → Spells t i p
spelled (leaf h v) = h
spelled (one h v x) = h
spelled (two h v x y) = h

pub sized : {t : List ℕ} {i c : ℕ} {p : Program} → Tree t i c p → size_at t i ≡ size p
sized {t} {i} {p = p} x = written t i p (spelled x)

-- what stands at the children
module _ (t : List ℕ) (i : ℕ) {p q : Program} where
  pub spells_one : One p q → Spells t i p → Spells t (i + 1) q
  unfolding Spells
  spells_one f h = (rw (parts_one f) at h).2

  pub spells_two : {r : Program} → Two p q r → Spells t i p → Spells t (i + 1) q × Spells t (second_child t i) r
  unfolding Spells
  spells_two f h = let (own, argument, a, b) = rw (parts_two f) at h in (a, b)

-- a second child stands behind all of the first
pub second_is : (t : List ℕ) (i : ℕ) (p : Program) → Spells t (i + 1) p → second_child t i ≡ i + 1 + size p
second_is t i p h = ap (λ n. i + 1 + n) (written t (i + 1) p h)

pub second : (t : List ℕ) (i : ℕ) (p q : Program) → Spells t (i + 1) p → Spells t (second_child t i) q → Spells t (i + 1 + size p) q
second t i p q h k = rw (← written t (i + 1) p h) k

pub size_pos : (p : Program) → 1 ≤ size p
unfolding size
size_pos p = some_nodes (parts p)
