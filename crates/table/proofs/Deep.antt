-- The first node that is too deep, found at a node from what is found at its children.
use Prim.Native.Nat.{ℕ, suc, ◌+◌, ◌≤◌, ◌<◌}
use mathlib.Core.Bool.{true}
use mathlib.Core.Path.{◌≡◌, refl, sym, ◌∙◌}
use mathlib.Core.List.{List}
use native.Mathlib.Numerals.{add-one}
use native.Mathlib.Omega.{arith}
use lib.ListN.{length}
use borrow.Author.Tests.{lt-ltb, le-ltb}
use Rattle.table.specs.Records.{nodes, kind_at, size_at, second_child}
use Rattle.table.specs.Good.{children, good_node}
use Rattle.table.specs.Verdict.{preorder, first_such, deep}
use Rattle.table.specs.Inside.Weighing.{tree_at, AllGood}
use Rattle.table.proofs.Here.{Here, no_part, one_part, two_parts, here, sized_here}
use Rattle.table.proofs.Order.{first_in, first_out, length_preorder}
use Rattle.table.proofs.Parts.{of_none, of_one, of_two}

-- where the first node stands that is too deep, of the program at node i, at depth d
abbrev found : List ℕ → ℕ → ℕ → ℕ
found t d i = i + first_such deep (preorder d (tree_at t i))

-- node i, of kind k with c children, of a table all of whose records are good
module _ {t : List ℕ} (g : AllGood t) {i : ℕ} (l : i < nodes t) where
  good_from : (j : ℕ) → 0 ≤ j → j < nodes t → good_node t j ≡ true
  good_from j h m = g.good j m

  node : Here t i (children (kind_at t i))
  node = here t g.configurations_good 0 good_from i (omega arith) l

  -- it is too deep itself
  pub found_here : (d : ℕ) → 64 < d → i ≡ found t d i
  unfolding first_such
  found_here d h = go node
    where
      go : {c : ℕ} → Here t i c → i ≡ found t d i
      go (no_part s v) = rw ((of_none v).nodes_are d, lt-ltb 64 d h) (omega arith)
      go (one_part m s v) = rw ((of_one v).nodes_are d, lt-ltb 64 d h) (omega arith)
      go (two_parts m m' s v) = rw ((of_two v).nodes_are d, lt-ltb 64 d h) (omega arith)

  module _ {k : ℕ} (e : k ≡ kind_at t i) {c : ℕ} (f : children k ≡ c) where
    at_node : Here t i c
    at_node = rw (← e, f) at node

    pub has_first : (c ≡ 0 → ⊥) → i + 1 < nodes t
    has_first n = go at_node n
      where
        go : {c : ℕ} → Here t i c → (c ≡ 0 → ⊥) → i + 1 < nodes t
        go (no_part s v) n = absurd (n refl)
        go (one_part m s v) n = m
        go (two_parts m m' s v) n = m

    pub has_second_lem : (c ≡ 0 → ⊥) → (c ≡ 1 → ⊥) → second_child t i < nodes t
    has_second_lem n o = go at_node n o
      where
        go : {c : ℕ} → Here t i c → (c ≡ 0 → ⊥) → (c ≡ 1 → ⊥) → second_child t i < nodes t
        go (no_part s v) n o = absurd (n refl)
        go (one_part m s v) n o = absurd (o refl)
        go (two_parts m m' s v) n o = m'

    module _ (d : ℕ) (h : d ≤ 64) where
      pub found_none : c ≡ 0 → i + 1 ≡ found t d i
      unfolding first_such
      found_none z = go (rw z at at_node)
        where
          go : Here t i 0 → i + 1 ≡ found t d i
          go (no_part s v) = rw ((of_none v).nodes_are d, le-ltb 64 d h)

      pub found_one : c ≡ 1 → (r : ℕ) → r ≡ found t (d + 1) (i + 1) → r ≡ found t d i
      unfolding first_such
      found_one z r q = go (rw z at at_node)
        where
          go : Here t i 1 → r ≡ found t d i
          go (one_part m s v) =
              let q' = rw (add-one d) at q in
              rw ((of_one v).nodes_are d, le-ltb 64 d h) (omega arith)

      module _ (n : c ≡ 0 → ⊥) (o : c ≡ 1 → ⊥) (r : ℕ) (q : r ≡ found t (d + 1) (i + 1)) where
        first_long : i + 1 < nodes t → length (preorder (suc d) (tree_at t (i + 1))) ≡ size_at t (i + 1)
        first_long m =
            length_preorder (tree_at t (i + 1)) (suc d)
            ∙ sym (sized_here t g.configurations_good 0 good_from (i + 1) (omega arith) m)

        pub found_first : r < second_child t i → r ≡ found t d i
        unfolding first_such
        found_first z = go at_node n o
          where
            go : {c : ℕ} → Here t i c → (c ≡ 0 → ⊥) → (c ≡ 1 → ⊥) → r ≡ found t d i
            go (no_part s v) n o = absurd (n refl)
            go (one_part m s v) n o = absurd (o refl)
            go (two_parts m m' s v) n o =
                let q' = rw (add-one d) at q in
                let k = first_long m in
                let p = preorder (suc d) (tree_at t (i + 1)) in
                let p' = preorder (suc d) (tree_at t (second_child t i)) in
                rw ((of_two v).nodes_are d, le-ltb 64 d h, first_in deep p p' (omega arith)) (omega arith)

        pub found_second : second_child t i ≤ r → (s : ℕ) → s ≡ found t (d + 1) (second_child t i) → s ≡ found t d i
        unfolding first_such
        found_second z x y = go at_node n o
          where
            go : {c : ℕ} → Here t i c → (c ≡ 0 → ⊥) → (c ≡ 1 → ⊥) → x ≡ found t d i
            go (no_part s v) n o = absurd (n refl)
            go (one_part m s v) n o = absurd (o refl)
            go (two_parts m m' s v) n o =
                let q' = rw (add-one d) at q in
                let y' = rw (add-one d) at y in
                let k = first_long m in
                let p = preorder (suc d) (tree_at t (i + 1)) in
                let p' = preorder (suc d) (tree_at t (second_child t i)) in
                rw ((of_two v).nodes_are d, le-ltb 64 d h, first_out deep p p' (omega arith)) (omega arith)
