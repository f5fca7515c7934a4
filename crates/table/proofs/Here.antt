-- Node by node: what stands at a good node, all nodes behind it being good, is made of what stands at its children.
use Prim.Native.Nat.{ℕ, ◌+◌, ◌≤◌, ◌<◌}
use mathlib.Core.Bool.{true}
use mathlib.Core.Path.{◌≡◌, refl}
use mathlib.Core.List.{List}
use native.Mathlib.Omega.{arith}
use Rattle.junior.specs.Program.{Program, kind, argument, Leaf, One, Two, size}
use Rattle.table.specs.Records.{nodes, kind_at, size_at, second_child}
use Rattle.table.specs.Good.{children, good_node}
use Rattle.table.specs.Spells.{Argues, Spells}
use Rattle.table.specs.Inside.{ConfigurationsGood}
use Rattle.table.specs.Inside.Weighing.{tree_at}
use Rattle.table.proofs.Laid.{Laid, none, one, two}
use Rattle.table.proofs.Grown.{fine, spells_from}
use Rattle.table.proofs.OneTree.{one_tree}
use Rattle.table.proofs.Tree.{Tree, tree, spelled, kind_is, argued}

-- node i has that many children, and these are their programs
pub data Here (t : List ℕ) (i : ℕ) : ℕ → Type 0 where
  no_part : size_at t i ≡ 1 → Leaf (tree_at t i) → Here t i 0
  one_part : i + 1 < nodes t → size_at t i ≡ 1 + size_at t (i + 1) → One (tree_at t i) (tree_at t (i + 1)) → Here t i 1
  two_parts : i + 1 < nodes t → second_child t i < nodes t → size_at t i ≡ 1 + size_at t (i + 1) + size_at t (second_child t i)
      → Two (tree_at t i) (tree_at t (i + 1)) (tree_at t (second_child t i)) → Here t i 2

module _ (t : List ℕ) (c : ConfigurationsGood t) (b : ℕ)
    (good : (i : ℕ) → b ≤ i → i < nodes t → good_node t i ≡ true) where
  pub stands : (i : ℕ) (p : Program) → b ≤ i → i < nodes t → Spells t i p → tree_at t i ≡ p
  stands i p g l h = one_tree t i (tree_at t i) p (spells_from t c b good i g l).spells h

  pub sized_here : (i : ℕ) → b ≤ i → i < nodes t → size_at t i ≡ size (tree_at t i)
  sized_here i g l = (spells_from t c b good i g l).sized

  pub tree_here : (i : ℕ) → b ≤ i → i < nodes t → Tree t i (children (kind_at t i)) (tree_at t i)
  tree_here i g l = tree t i (tree_at t i) (spells_from t c b good i g l).spells

  pub kind_here : (i : ℕ) → b ≤ i → i < nodes t → kind_at t i ≡ kind (tree_at t i)
  kind_here i g l = kind_is t i (tree_at t i) (spells_from t c b good i g l).spells

  pub argued_here : (i : ℕ) → b ≤ i → i < nodes t → Argues t i (argument (tree_at t i))
  argued_here i g l = argued t i (tree_at t i) (spells_from t c b good i g l).spells

  pub here : (i : ℕ) → b ≤ i → i < nodes t → Here t i (children (kind_at t i))
  here i g l =
      go (tree_here i g l) (fine t i (kind_at t i) refl (good i g l)).laid_out
    where
      go : {k : ℕ} → Tree t i k (tree_at t i) → Laid (size_at t) (nodes t) i k → Here t i k
      go (Tree.leaf h v) (none s) = no_part s v
      go (Tree.one {q = q} h v x) (one m s) =
          one_part m s (rw (stands (i + 1) q (omega arith) m (spelled x)) v)
      go (Tree.two {q = q} {r = r} h v x y) (two m m' s) =
          two_parts m m' s
          (rw
          (stands (i + 1) q (omega arith) m (spelled x), stands (second_child t i) r (omega arith) m' (spelled y))
          v)
