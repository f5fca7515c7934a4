-- Programs that stand one behind another up to the end: no more than the tree has levels.
use Prim.Native.Nat.{ℕ, zero, suc, ◌+◌, ◌≤◌, ◌<◌}
use mathlib.Core.Path.{◌≡◌, refl}
use mathlib.Core.List.{List}
use native.Mathlib.Omega.{arith}
use Rattle.junior.specs.Program.{Program, Parts, no_part, one_part, two_parts, parts, size_of, size}
use Rattle.table.specs.Records.{nodes, size_at, second_child}
use Rattle.table.specs.Inside.Weighing.{Row, levels, height}
use Rattle.table.proofs.Little.{below_or}
use Rattle.table.proofs.Parts.{of_none, of_one, of_two}
use Rattle.table.proofs.Tree.{Tree, leaf, one, two, sized, size_pos}

-- of k programs some stand from e on, and at most h before it
record Beyond (t : List ℕ) (k e h : ℕ) : Type 0 where
  rest : ℕ
  row : Row t rest e
  few : k ≤ rest + h

some_levels : {p : Program} (v : Parts p) → (0 < levels v) × (levels v ≤ size_of v)
some_levels (no_part f) = (omega arith, omega arith)
some_levels (one_part f q) = (omega arith, omega (arith, (some_levels q).1))
some_levels (two_parts f q r) = (omega arith, omega (arith, (some_levels q).1, (some_levels r).1))

height_positive : (p : Program) → 0 < height p
unfolding height
height_positive p = (some_levels (parts p)).0

pub height_most : (p : Program) → height p ≤ size p
unfolding height size
height_most p = (some_levels (parts p)).1

-- from a tree's first node on, the tree is one of them
beyond_whole : {t : List ℕ} {b c : ℕ} {p : Program} → Tree t b c p → b + size p ≤ nodes t → (k : ℕ) → Row t k b
    → Beyond t k (b + size p) 1
unfolding Row
beyond_whole {p = p} x l zero r = let s = size_pos p in absurd (omega arith)
beyond_whole x l (suc k) r = record { rest = k; row = rw (sized x) at r.1; few = omega arith }

moved : {t : List ℕ} {k e h : ℕ} → Beyond t k e h → (e' h' : ℕ) → e ≡ e' → h ≤ h' → Beyond t k e' h'
moved o e' h' n l = record { rest = o.rest; row = rw n at o.row; few = omega (arith, o.few) }

chained : {t : List ℕ} {k e h e' h' : ℕ} → Beyond t k e h → ((j : ℕ) → Row t j e → Beyond t j e' h')
    → Beyond t k e' (h + h')
chained f g =
    let o = g f.rest f.row in
    record { rest = o.rest; row = o.row; few = omega (arith, f.few, o.few) }

-- from any of its nodes on: the first, or one behind it
split : {t : List ℕ} {b c : ℕ} {p : Program} → Tree t b c p → b + size p ≤ nodes t → (k i : ℕ) → b ≤ i → Row t k i
    → (b < i → Beyond t k (b + size p) (height p)) → Beyond t k (b + size p) (height p)
split {b = b} {p = p} x l k i g r inner =
    below_or b i inner λ u.
    let n : i ≡ b = omega arith in
    moved (beyond_whole x l k (rw n at r)) _ _ refl (height_positive p)

beyond : {t : List ℕ} {b c : ℕ} {p : Program} → Tree t b c p → b + size p ≤ nodes t → (k i : ℕ) → b ≤ i → i < b + size p
    → Row t k i → Beyond t k (b + size p) (height p)
beyond (leaf h v) l k i g m r =
    split (leaf h v) l k i g r λ n. let s = (of_none v).size_is in absurd (omega arith)
beyond (one h v x) l k i g m r =
    split (one h v x) l k i g r λ n.
    let s = (of_one v).size_is in
    let s' = (of_one v).height_is in
    moved (beyond x (omega arith) k i (omega arith) (omega arith) r) _ _ (omega arith) (omega arith)
beyond {t} {b} (two {q = q} h v x y) l k i g m r =
    split (two h v x y) l k i g r λ n.
    let s = (of_two v).size_is in
    let s' = (of_two v).height_is in
    let s'' = sized x in
    below_or i (second_child t b)
    (λ o.
    let f = beyond x (omega arith) k i (omega arith) (omega arith) r in
    let w = chained (moved f (second_child t b) (height q) (omega arith) (omega arith)) (beyond_whole y (omega arith)) in
    moved w _ _ (omega arith) (omega arith))
    (λ o. moved (beyond y (omega arith) k i o (omega arith) r) _ _ (omega arith) (omega arith))

pub row_more : (t : List ℕ) (k i : ℕ) → i < nodes t → Row t k (i + size_at t i) → Row t (suc k) i
unfolding Row
row_more t k i l r = (l, r)

none_left : (t : List ℕ) (k e : ℕ) → nodes t ≤ e → Row t k e → k ≡ 0
unfolding Row
none_left t zero e l r = refl
none_left t (suc k) e l r = absurd (omega arith)

-- from a node on there are at most as many as the whole tree has levels
pub row_within : {t : List ℕ} {c : ℕ} {p : Program} → Tree t 0 c p → size p ≡ nodes t → (k i : ℕ) → i < nodes t
    → Row t k i → k ≤ height p
row_within {t} x e k i l r =
    let o = beyond x (omega arith) k i (omega arith) (omega arith) r in
    omega (arith, o.few, none_left t o.rest _ (omega arith) o.row)
