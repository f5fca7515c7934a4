-- What is known of a loaded table's nodes: a program stands at each, and that at node 0 is all of them.
use Prim.Native.Nat.{ℕ, ◌+◌, ◌*◌, ◌≤◌, ◌<◌}
use mathlib.Core.Bool.{true}
use mathlib.Core.Path.{◌≡◌, refl, sym, ◌∙◌}
use mathlib.Core.List.{List}
use native.Mathlib.Omega.{arith}
use lib.ListN.{length}
use borrow.Author.Tests.{eqb-true}
use Rattle.junior.specs.Program.{Program, size, kind}
use Rattle.table.specs.Records.{nodes, configurations, events, kind_at, size_at}
use Rattle.table.specs.Good.{known, argument_limits, argument_limit}
use Rattle.table.specs.Spells.{tree_of}
use Rattle.table.specs.Inside.{Loaded, Placed}
use Rattle.table.specs.Inside.Weighing.{tree_at}
use Rattle.table.proofs.Grown.{Fine, fine, spells_from}
use Rattle.table.proofs.Judged.{most_at, known_so, good_head}
use Rattle.table.proofs.Tree.{kind_is, written, size_pos}

module _ {t : List ℕ} (l : Loaded t) where
  -- record i is good
  pub fine_node : (i : ℕ) → i < nodes t → Fine t i (kind_at t i)
  fine_node i h = fine t i (kind_at t i) refl (l.nodes_good i h)

  pub root_size : size_at t 0 ≡ nodes t
  root_size = eqb-true _ _ (fine_node 0 l.framed.n_least).root

  -- whatever its kind, its argument is a number of 16 bits
  pub limit_few : (k : ℕ) → argument_limit t k ≤ 65536
  unfolding argument_limit
  limit_few k =
      most_at 65536 (argument_limits (events t) (configurations t)) 0 (omega arith) (omega arith) k

  pub node_placed : (i : ℕ) → i < nodes t → Placed t i (tree_at t i)
  node_placed i h =
      let g = spells_from t l.configurations_good 0 (λ j a m. l.nodes_good j m) i (omega arith) h in
      record { loaded = l; spelled = g.spells; inside = g.ends }

  pub whole_placed : Placed t 0 (tree_of t)
  whole_placed = node_placed 0 l.framed.n_least

module _ {t : List ℕ} {i : ℕ} {p : Program} (h : Placed t i p) where
  pub kind_parts : kind_at t i ≡ kind p
  kind_parts = kind_is t i p h.spelled

  pub size_stands : size_at t i ≡ size p
  size_stands = written t i p h.spelled

  -- its own record is a node
  pub own_node : i < nodes t
  own_node = omega (arith, h.inside, size_pos p)

  -- and lies in the table, as those of all below it do
  pub in_table : (k : ℕ) → k < size p → 6 * (i + k) + 5 < length t
  in_table k l = omega (arith, h.inside, h.loaded.framed.long)

  -- its kind is one
  pub own_known : known (kind_at t i) ≡ true
  own_known = known_so _ (good_head t i (h.loaded.nodes_good i own_node)).0

  pub fine_at : Fine t i (kind p)
  fine_at = fine t i (kind p) kind_parts (h.loaded.nodes_good i own_node)

-- what stands at node 0 is the whole tree
pub all_nodes : {t : List ℕ} {p : Program} → Placed t 0 p → size p ≡ nodes t
all_nodes h = sym (size_stands h) ∙ root_size h.loaded
