-- What a name or a comma places in front of what its parts have placed.
use Prim.Native.Nat.{ℕ, suc, ◌+◌, ◌-◌, ◌≤◌, ◌<◌}
use mathlib.Core.Bool.{Bool, true, false, cond, ◌&&◌, false≢true}
use mathlib.Core.Path.{◌≡◌, refl, ap, ◌∙◌}
use mathlib.Core.List.{List, [], ◌∷◌, ◌++◌, append_assoc}
use native.Mathlib.Nat.{div-add-mod'}
use native.Mathlib.Omega.{arith}
use lib.Dec.{eqb, leb}
use lib.ListN.{length, drop}
use borrow.Author.Tests.{lt-ltb, eqb-false, ne_eqb, le-ltb, leb-true}
use Rattle.junior.specs.Configuration.{Config}
use Rattle.junior.specs.Program.{Program, Seq, Par, size, kind}
use Rattle.table.specs.Records.{byte, word}
use Rattle.form.specs.Names.{form_of, opening as opened}
use Rattle.form.specs.Made.{big, tests, nodes_from, test_records, tests_of}
use Rattle.form.specs.Inside.Machine.{is_digit_byte}
use Rattle.form.specs.Inside.Rows.{row_at, form_row, form_count, name_end}
use Rattle.form.proofs.ComputedTests.{both, all, all_at}
use Rattle.form.proofs.Rows.{name_long, form_told, no_not}
use Rattle.builder.specs.Building.{SoFar, number, joint, event, blank, opening, labelled, row, branches, choice}
use Rattle.builder.specs.Building.{await, own_size, capped_number, capped, single}
use Rattle.builder.specs.Building.{behind_j, form, name, comma, place, levels, placed}
use Rattle.builder.proofs.LevelsKept.{levels_blank}
use Rattle.builder.proofs.WrittenSizes.{size_there, kind_small, joined_nodes}
use Rattle.builder.proofs.LabelsSpread.{Spine, ends, goes, labels}
use Rattle.builder.proofs.PlacedByConfigurations.{made, small_mod, over_test, no_event}

-- the records of p in front of others, its first configuration being number j
abbrev pub over : Program → ℕ → SoFar → SoFar
over p j s = made (nodes_from j p ++ s.nodes) (tests_of p ++ s.tests) j

-- the text y inside a name's bracket: the bracket is no configuration's
pub record Enclosed (y : List ℕ) : Type 0 where
  pub level : ℕ
  pub outer : List ℕ
  pub levels_are : levels y ≡ level ∷ outer
  pub low : level ≤ 1
  pub letter : byte y 0 < 110

-- letters that place nothing
unfoldable quiet : List ℕ → Bool
quiet [] = true
quiet (b ∷ u) = leb 45 b && cond (eqb b 74) false (quiet u)

not-J : (b : ℕ) (r : Bool) → cond (eqb b 74) false r ≡ true → (b ≡ 74 → ⊥) × (r ≡ true)
not-J b r = go (eqb b 74) refl
  where
    go : (t : Bool) → eqb b 74 ≡ t → cond t false r ≡ true → (b ≡ 74 → ⊥) × (r ≡ true)
    go true f e = absurd (false≢true e)
    go false f e = (eqb-false b 74 f, e)

quiet_name : (k : ℕ) → k < form_count → quiet (form_of k).name ≡ true
unfolding all quiet form_of
quiet_name = all_at form_count (λ k. quiet (form_of k).name) refl

past : (u y : List ℕ) → drop (suc (length u)) (u ++ (40 ∷ y)) ≡ y
past [] y = refl
past (b ∷ u) y = past u y

module _ (m : ℕ) (y : List ℕ) (g : Enclosed y) where
  -- such a bracket places nothing
  plain : placed m (40 ∷ y) ≡ placed m y
  unfolding placed place opening
  plain = rw (g.levels_are, le-ltb 1 g.level g.low, no_not y g.letter)

  letters : (u z : List ℕ) → quiet u ≡ true → placed m (u ++ z) ≡ placed m z
  unfolding quiet placed place
  letters [] z e = refl
  letters (b ∷ u) z e =
      let h = leb-true 45 b (both {b = cond (eqb b 74) false (quiet u)} e).0 in
      let (n, r) = not-J b (quiet u) (both {a = leb 45 b} e).1 in
      simp (ne_eqb b 32 (λ x. omega arith), ne_eqb b 40 (λ x. omega arith), ne_eqb b 44 (λ x. omega arith), ne_eqb b 74 n) (letters u z r)

  -- the name of form k before this text
  pub reads : (k : ℕ) → k < form_count → placed m (opened k ++ y) ≡ form k y (placed m y)
  unfolding opened placed place name behind_j
  reads k h =
      let u : List ℕ = (form_of k).name in
      let e : (u ++ (40 ∷ [])) ++ y ≡ u ++ (40 ∷ y) = append_assoc u (40 ∷ []) y in
      let d : name_end (form_row k) - row_at (form_row k) ≡ suc (length u) = let l = name_long k h in omega arith in
      let f : 2 + suc (length u) ≡ suc (suc (suc (length u))) = omega arith in
      rw (e, form_told k h y, lt-ltb k form_count h, d, f, past u y) (ap (form k y) (letters u (40 ∷ y) (quiet_name k h) ∙ plain))

-- a comma before a program: the last of its bracket, or another
module _ (m : ℕ) (y l : List ℕ) (b : byte y 0 ≡ 74) where
  pub comma_last : levels y ≡ 0 ∷ l → placed m (44 ∷ 32 ∷ y) ≡ placed m y
  unfolding placed place blank comma
  comma_last e = rw (levels_blank y (omega arith), e, no_event y (placed m y) (ap is_digit_byte b))

  pub comma_more : levels y ≡ 1 ∷ l → placed m (44 ∷ 32 ∷ y) ≡ joint (placed m y)
  unfolding placed place blank comma
  comma_more e = rw (levels_blank y (omega arith), e, b)

-- and before a cap
pub comma_cap : (m : ℕ) (y l : List ℕ) → byte y 0 < 58 → levels y ≡ 1 ∷ l → placed m (44 ∷ 32 ∷ y) ≡ placed m y
unfolding placed place blank comma
comma_cap m y l b e = rw (levels_blank y (omega arith), e, ne_eqb (byte y 0) 74 (λ z. omega arith))

-- a form without parts or with one
pub singled :
    (k a n : ℕ) (y : List ℕ) (s : SoFar)
    → number 0 y ≡ a
    → a ≤ 65535
    → own_size k s.nodes ≡ n
    → n ≤ 65535
    → single k y s ≡ made (k ∷ 0 ∷ (big a ++ (big n ++ s.nodes))) s.tests s.left
unfolding single
singled k a n y s e h f g = rw (e, f, small_mod a 65536 (omega arith), small_mod n 65536 (omega arith))

-- a RepeatExt
pub capped_placed :
    (k a n : ℕ) (y : List ℕ) (s : SoFar)
    → capped_number y ≡ a
    → a ≤ 65535
    → 1 + word s.nodes 4 ≡ n
    → n ≤ 65535
    → capped k y s ≡ made (k ∷ 0 ∷ (big a ++ (big n ++ s.nodes))) s.tests s.left
unfolding capped
capped_placed k a n y s e h f g = rw (e, f, small_mod a 65536 (omega arith), small_mod n 65536 (omega arith))

-- the parts of a row behind its first comma
pub record Joined (k : ℕ) (q : Program) (j : ℕ) (s r : SoFar) : Type 0 where
  pub front : List ℕ
  pub spine : Spine k front (nodes_from j q ++ s.nodes)
  pub size_is : word front 4 ≡ size q
  pub placed_is : r ≡ made front (tests_of q ++ s.tests) j

-- one part
pub joined_last : (k : ℕ) (q : Program) (j : ℕ) (s : SoFar) → Joined k q j s (over q j s)
joined_last k q j s =
    record { front = nodes_from j q ++ s.nodes; spine = ends (kind_small j q s.nodes); size_is = size_there j q s.nodes; placed_is = refl }

-- the node over p and what stands in front
pub joint_is :
    (j n : ℕ) (p : Program) (front t : List ℕ) (l : ℕ)
    → word front 4 ≡ n
    → 1 + size p + n ≤ 65535
    → joint (made (nodes_from j p ++ front) t l) ≡ made (255 ∷ 0 ∷ 0 ∷ 0 ∷ (big (1 + size p + n) ++ (nodes_from j p ++ front))) t l
unfolding joint
joint_is j n p front t l e h =
    let f = joined_nodes j p front ∙ ap (λ x. 1 + size p + x) e in
    rw (f, small_mod (1 + size p + n) 65536 (omega arith))

-- r is a Seq or a Par of p and q, of kind k
pub record Row (k : ℕ) (p q r : Program) : Type 0 where
  pub size_is : size r ≡ 1 + size p + size q
  pub nodes_are : (j : ℕ) (x : List ℕ) → nodes_from j r ++ x ≡ k ∷ 0 ∷ 0 ∷ 0 ∷ (big (size r) ++ (nodes_from j p ++ (nodes_from (j + tests p) q ++ x)))
  pub count_is : tests r ≡ tests p + tests q
  pub tests_are : (x : List ℕ) → tests_of r ++ x ≡ tests_of p ++ (tests_of q ++ x)

pub seq_row : (p q : Program) → Row 3 p q (Seq p q)
unfolding size nodes_from tests tests_of kind
seq_row p q =
    record {
      size_is = refl;
      nodes_are = λ j x. rw (append_assoc (nodes_from j p) (nodes_from (j + tests p) q) x);
      count_is = refl;
      tests_are = λ x. append_assoc (tests_of p) (tests_of q) x;
    }

pub par_row : (p q : Program) → Row 4 p q (Par p q)
unfolding size nodes_from tests tests_of kind
par_row p q =
    record {
      size_is = refl;
      nodes_are = λ j x. rw (append_assoc (nodes_from j p) (nodes_from (j + tests p) q) x);
      count_is = refl;
      tests_are = λ x. append_assoc (tests_of p) (tests_of q) x;
    }

-- one part more
pub joined_more :
    {k : ℕ} {p q r : Program} (o : Row k p q r) (j : ℕ) {s z : SoFar}
    → Joined k q (j + tests p) s z
    → size r ≤ 65535
    → Joined k r j s (joint (over p j z))
joined_more {k} {p} {q} {r} o j {s} {z} g h =
    let f = joint_is j (size q) p g.front (tests_of p ++ (tests_of q ++ s.tests)) j g.size_is (omega arith) in
    record {
      front = 255 ∷ 0 ∷ 0 ∷ 0 ∷ (big (size r) ++ (nodes_from j p ++ g.front));
      spine = rw (o.nodes_are j s.nodes) (goes (size r) j p g.spine);
      size_is = div-add-mod' (size r) 256;
      placed_is = rw (g.placed_is, o.size_is, o.tests_are s.tests) f;
    }

-- a whole row
pub row_placed :
    {k : ℕ} {p q r : Program} (o : Row k p q r) (j : ℕ) {s z : SoFar}
    → Joined k q (j + tests p) s z
    → size r ≤ 65535
    → row k (over p j z) ≡ over r j s
unfolding row joint
row_placed {k} {p} {q} {r} o j {s} {z} g h =
    let t = joined_more o j g h in
    let a : labelled k (joint (over p j z)).nodes ≡ nodes_from j r ++ s.nodes = ap (λ x. labelled k x.nodes) t.placed_is ∙ labels t.spine in
    let b : tests_of p ++ z.tests ≡ tests_of r ++ s.tests = ap (λ x. x.tests) t.placed_is in
    rw (b) (ap (λ l. made l (tests_of r ++ s.tests) j) a)

-- an Await
pub await_placed :
    (k : ℕ) (c : Config) (j : ℕ) (y : List ℕ) (s r : SoFar)
    → event y s ≡ over_test c j r
    → j ≤ 65535
    → await k y s ≡ made (k ∷ 0 ∷ (big j ++ (big 1 ++ r.nodes))) (test_records c ++ r.tests) j
unfolding await
await_placed k c j y s r e h = rw (e, small_mod j 65536 (omega arith))

-- a node that is not labelled yet
pub branches_placed :
    (k a n i h : ℕ) (p q : Program) (x t : List ℕ) (l : ℕ)
    → a ≤ 65535
    → branches k a (made (255 ∷ 0 ∷ 0 ∷ 0 ∷ (big n ++ (nodes_from i p ++ (nodes_from h q ++ x)))) t l)
    ≡ made (k ∷ 0 ∷ (big a ++ (big n ++ (nodes_from i p ++ (nodes_from h q ++ x))))) t l
unfolding branches
branches_placed k a n i h p q x t l b =
    let d : List ℕ = big n ++ (nodes_from i p ++ (nodes_from h q ++ x)) in
    let f : labelled k (255 ∷ 0 ∷ 0 ∷ 0 ∷ d) ≡ k ∷ 0 ∷ 0 ∷ 0 ∷ d = labels (goes n i p (ends (kind_small h q x))) in
    rw (f, small_mod a 65536 (omega arith))

-- a When or an Until whose node is not labelled yet
pub choice_placed :
    (k : ℕ) (c : Config) (j n i h : ℕ) (p q : Program) (x t y : List ℕ) (l : ℕ) (s : SoFar)
    → event y s ≡ over_test c j (made (255 ∷ 0 ∷ 0 ∷ 0 ∷ (big n ++ (nodes_from i p ++ (nodes_from h q ++ x)))) t l)
    → j ≤ 65535
    → choice k y s ≡ made (k ∷ 0 ∷ (big j ++ (big n ++ (nodes_from i p ++ (nodes_from h q ++ x))))) (test_records c ++ t) j
unfolding choice
choice_placed k c j n i h p q x t y l s e b = rw e (branches_placed k j n i h p q x (test_records c ++ t) j b)
