-- The nodes of a tree in order: how many there are, how deep they go, and the first one that is so.
use Prim.Native.Nat.{ℕ, zero, suc, ◌+◌, ◌-◌, ◌≤◌, ◌<◌, max}
use mathlib.Core.Bool.{Bool, true, false, cond}
use mathlib.Core.Path.{◌≡◌, refl, ap, sym, ◌∙◌}
use mathlib.Core.List.{List, [], ◌∷◌, ◌++◌}
use native.Mathlib.Omega.{arith}
use lib.ListN.{length, get_or, length-append, get_or-append}
use lib.Seq.{get_or-append-add}
use borrow.Author.Tests.{le-ltb, ltb-false}
use Rattle.junior.specs.Program.{Program, Parts, no_part, one_part, two_parts, parts, size_of, size}
use Rattle.table.specs.Records.{nodes, second_child}
use Rattle.table.specs.Spells.{Spells}
use Rattle.table.specs.Verdict.{Node, parts_in_order, preorder, first_such, deep}
use Rattle.table.specs.Inside.Weighing.{levels, height}
use Rattle.events.proofs.Events.{lowest_is}
use Rattle.table.proofs.Little.{below_or}
use Rattle.table.proofs.Parts.{of_none, of_one, of_two}
use Rattle.table.proofs.Tree.{Tree, leaf, one, two, sized}

-- r is the lowest of the first n that is so; n if none is
pub record Lowest (X : ℕ → Bool) (n r : ℕ) : Type 0 where
  pub within : r ≤ n
  pub before : (k : ℕ) → k < r → X k ≡ false
  pub there : r < n → X r ≡ true

pub one_lowest : (X : ℕ → Bool) (n r s : ℕ) → Lowest X n r → Lowest X n s → r ≡ s
one_lowest X n r s a b =
    lowest_is n r X a.within a.before a.there ∙ sym (lowest_is n s X b.within b.before b.there)

-- the first so of two lists, one behind the other
pub first_in : (so : Node → Bool) (l m : List Node) → first_such so l < length l
    → first_such so (l ++ m) ≡ first_such so l
unfolding first_such
first_in so [] m h = absurd (omega arith)
first_in so (x ∷ l) m h = go (so x) (first_in so l m) h
  where
    go : (b : Bool) → (first_such so l < length l → first_such so (l ++ m) ≡ first_such so l)
        → cond b 0 (suc (first_such so l)) < suc (length l)
        → cond b 0 (suc (first_such so (l ++ m))) ≡ cond b 0 (suc (first_such so l))
    go true f h = refl
    go false f h = ap suc (f (omega arith))

pub first_out : (so : Node → Bool) (l m : List Node) → length l ≤ first_such so l
    → first_such so (l ++ m) ≡ length l + first_such so m
unfolding first_such
first_out so [] m h = omega arith
first_out so (x ∷ l) m h = go (so x) (first_out so l m) h
  where
    go : (b : Bool) → (length l ≤ first_such so l → first_such so (l ++ m) ≡ length l + first_such so m)
        → suc (length l) ≤ cond b 0 (suc (first_such so l))
        → cond b 0 (suc (first_such so (l ++ m))) ≡ suc (length l) + first_such so m
    go true f h = absurd (omega arith)
    go false f h = let e = f (omega arith) in omega arith

-- the first so is the lowest index of the list that is so
pub first_lowest : (so : Node → Bool) (none : Node) (l : List Node)
    → Lowest (λ k. so (get_or l k none)) (length l) (first_such so l)
unfolding first_such
first_lowest so none [] =
    record { within = omega arith; before = λ k h. absurd (omega arith); there = λ h. absurd (omega arith) }
first_lowest so none (x ∷ l) = go (so x) refl (first_lowest so none l)
  where
    go : (b : Bool) → so x ≡ b → Lowest (λ k. so (get_or l k none)) (length l) (first_such so l)
        → Lowest (λ k. so (get_or (x ∷ l) k none)) (suc (length l)) (cond b 0 (suc (first_such so l)))
    go true e w = record { within = omega arith; before = λ k h. absurd (omega arith); there = λ h. e }
    go false e w =
        record { within = omega arith; before = before e w.before; there = λ h. w.there (omega arith) }
      where
        before : so x ≡ false → ((k : ℕ) → k < first_such so l → so (get_or l k none) ≡ false) → (k : ℕ)
            → k < suc (first_such so l) → so (get_or (x ∷ l) k none) ≡ false
        before e f zero h = e
        before e f (suc k) h = f k (omega arith)

-- the greatest depth
deepest : List Node → ℕ
deepest [] = 0
deepest (x ∷ l) = max x.depth (deepest l)

deepest_both : (l m : List Node) → deepest (l ++ m) ≡ max (deepest l) (deepest m)
unfolding deepest
deepest_both [] m = omega arith
deepest_both (x ∷ l) m = rw (deepest_both l m) (omega arith)

deepest_is : {p : Program} (v : Parts p) (d : ℕ) → suc (deepest (parts_in_order d v)) ≡ d + levels v
unfolding deepest
deepest_is (no_part f) d = omega arith
deepest_is (one_part f q) d = omega (arith, deepest_is q (suc d))
deepest_is (two_parts f q r) d =
    rw
    (deepest_both (parts_in_order (suc d) q) (parts_in_order (suc d) r))
    (omega (arith, deepest_is q (suc d), deepest_is r (suc d)))

none_deep : (l : List Node) → deepest l ≤ 64 → first_such deep l ≡ length l
unfolding deepest first_such
none_deep [] h = refl
none_deep (x ∷ l) h = rw (le-ltb 64 x.depth (omega arith)) (ap suc (none_deep l (omega arith)))

some_deep : (l : List Node) → 64 < deepest l → first_such deep l < length l
unfolding deepest first_such
some_deep [] h = absurd (omega arith)
some_deep (x ∷ l) h = go (deep x) refl (some_deep l)
  where
    go : (b : Bool) → deep x ≡ b → (64 < deepest l → first_such deep l < length l)
        → cond b 0 (suc (first_such deep l)) < suc (length l)
    go true e f = omega arith
    go false e f = let s = ltb-false 64 x.depth e in let z = f (omega arith) in omega arith

long : {p : Program} (v : Parts p) (d : ℕ) → length (parts_in_order d v) ≡ size_of v
long (no_part f) d = refl
long (one_part f q) d = omega (arith, long q (suc d))
long (two_parts f q r) d = simp length-append (omega (arith, long q (suc d), long r (suc d)))

module _ (p : Program) where
  pub length_preorder : (d : ℕ) → length (preorder d p) ≡ size p
  unfolding preorder size
  length_preorder d = long (parts p) d

  deepest_node : suc (deepest (preorder 1 p)) ≡ 1 + height p
  unfolding preorder height
  deepest_node = deepest_is (parts p) 1

  -- a program of at most 64 levels has no node that is too deep, and a higher one has
  pub none_too_deep : height p ≤ 64 → first_such deep (preorder 1 p) ≡ size p
  none_too_deep h = none_deep (preorder 1 p) (let e = deepest_node in omega arith) ∙ length_preorder 1

  pub some_too_deep : 64 < height p → first_such deep (preorder 1 p) < size p
  some_too_deep h = rw (length_preorder 1) at (some_deep (preorder 1 p) (let e = deepest_node in omega arith))

-- the k-th node of a tree is the program at the k-th node from its first
module _ (t : List ℕ) (P : ℕ → Program) (stands : (j : ℕ) (q : Program) → j < nodes t → Spells t j q → P j ≡ q)
    (none : Node) where
  first_node : (i : ℕ) (p : Program) → i < nodes t → Spells t i p → p ≡ P (i + 0)
  first_node i p l h = let e : i + 0 ≡ i = omega arith in rw e (sym (stands i p l h))

  pub node_at : {i c : ℕ} {p : Program} → Tree t i c p → i + size p ≤ nodes t → (d k : ℕ) → k < size p
      → (get_or (preorder d p) k none).part ≡ P (i + k)
  node_at {i} {p = p} (leaf h v) b d zero l = rw ((of_none v).nodes_are d) (first_node i p (omega arith) h)
  node_at (leaf h v) b d (suc k) l = let s = (of_none v).size_is in absurd (omega arith)
  node_at {i} {p = p} (one h v x) b d zero l = rw ((of_one v).nodes_are d) (first_node i p (omega arith) h)
  node_at {i} (one h v x) b d (suc k) l =
      let s = (of_one v).size_is in
      let e : i + suc k ≡ i + 1 + k = omega arith in
      rw ((of_one v).nodes_are d, e) (node_at x (omega arith) (suc d) k (omega arith))
  node_at {i} {p = p} (two h v x y) b d zero l = rw ((of_two v).nodes_are d) (first_node i p (omega arith) h)
  node_at {i} (two {q = q} {r = r} h v x y) b d (suc k) l =
      let s = (of_two v).size_is in
      let w = length_preorder q (suc d) in
      let z' = sized x in
      let p = preorder (suc d) q in
      let p' = preorder (suc d) r in
      rw
      ((of_two v).nodes_are d)
      (below_or
      k
      (size q)
      (λ u.
      let e : i + suc k ≡ i + 1 + k = omega arith in
      rw (e, get_or-append p p' none k (omega arith)) (node_at x (omega arith) (suc d) k u))
      (λ u.
      let m : k ≡ length p + (k - size q) = omega arith in
      let e : second_child t i + (k - size q) ≡ i + suc k = omega arith in
      ap (λ (j : ℕ). (get_or (p ++ p') j none).part) m
      ∙ (ap (λ (x : Node). x.part) (get_or-append-add p p' (k - size q) none)
      ∙ (node_at y (omega arith) (suc d) (k - size q) (omega arith) ∙ ap P e))))

  -- so the first node of a tree that is so is the lowest
  pub first_in_table : (so : Program → Bool) {i c : ℕ} {p : Program} → Tree t i c p → i + size p ≤ nodes t → (d : ℕ)
      → Lowest (λ k. so (P (i + k))) (size p) (first_such (λ x. so x.part) (preorder d p))
  first_in_table so {i} {p = p} x b d =
      let f = rw (length_preorder p d) at (first_lowest (λ x. so x.part) none (preorder d p)) in
      let w = f.within in
      record {
        within = w;
        before = λ k h. rw (← node_at x b d k (omega arith)) (f.before k h);
        there = λ h. rw (← node_at x b d _ h) (f.there h);
      }
