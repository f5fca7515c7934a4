-- The answers of refusals 5 to 8, each by what is known where it is given.
use Prim.Native.Nat.{ℕ, ◌+◌, ◌≤◌, ◌<◌, min}
use mathlib.Core.Bool.{Bool, true, false, cond, not, ◌&&◌, ◌||◌, and-false}
use mathlib.Core.Path.{◌≡◌, refl, sym, ◌∙◌}
use mathlib.Core.List.{List}
use native.Mathlib.Nat.{zero-add}
use native.Mathlib.Omega.{arith}
use lib.Dec.{ltb, leb, eqb}
use borrow.Author.Tests.{lt-ltb, le-ltb, le-leb, lt-leb, leb-true, ne_eqb}
use Rattle.events.specs.Events.{lowest}
use Rattle.junior.specs.Program.{size}
use Rattle.std.specs.Prelude.{Err}
use Rattle.table.specs.declared.TableRefusal.TheVariants.{BadNode, TooDeep, EndlessLoop, TooHeavy}
use Rattle.table.specs.declared.weights.Weight.{Weight}
use Rattle.table.specs.Records.{nodes, kind_at, size_at}
use Rattle.table.specs.Good.{children, good_node}
use Rattle.table.specs.Spells.{tree_of}
use Rattle.table.specs.Verdict.{accepted_with, preorder, first_such, deep, endless, endless_loop, light, program_verdict}
use Rattle.table.specs.Verdict.{nodes_verdict}
use Rattle.table.specs.Inside.{NodesGood}
use Rattle.table.specs.Inside.Weighing.{tree_at, height, Weighs, SizedWhole, AllGood, Row}
use Rattle.table.proofs.Here.{sized_here, tree_here, stands}
use Rattle.table.proofs.Little.{below_or}
use Rattle.table.proofs.Lowest.{lowest_bad}
use Rattle.table.proofs.Order.{Lowest, one_lowest, none_too_deep, some_too_deep, first_in_table}
use Rattle.table.proofs.Tree.{Tree}
use Rattle.table.proofs.Rows.{row_within}

pub bad_answer : (t : List ℕ) (r : ℕ) → r ≡ lowest (nodes t) (λ i. not (good_node t i)) → r < nodes t
    → Err (BadNode r) ≡ nodes_verdict t
unfolding nodes_verdict
bad_answer t r e l = rw (← e, lt-ltb _ _ l)

pub root_answer : (t : List ℕ) (n : ℕ) → n ≡ nodes t → 1 ≤ n → (size_at t 0 ≡ n → ⊥) → Err (BadNode 0) ≡ nodes_verdict t
unfolding good_node
root_answer t n e l z =
    let r : (ltb 0 0 || eqb (size_at t 0) (nodes t)) ≡ false = rw (ne_eqb (size_at t 0) (nodes t) (λ f. z (f ∙ sym e))) in
    let b : good_node t 0 ≡ false = simp (r, and-false) in
    bad_answer
    t
    0
    (lowest_bad (good_node t) (nodes t) 0 (omega arith) (λ k h. absurd (omega arith)) (λ h. b))
    (omega arith)

pub all_good : {t : List ℕ} {n m v : ℕ} → SizedWhole t n m v → NodesGood t → AllGood t
all_good P g =
    record { long = omega arith; few = omega arith; configurations_good = P.configurations_good; good = g }

-- a figure and what stands for it are on the same side of a limit below the cap, and the same if within it
same_side : (x f m : ℕ) → m < 65536 → min x 65536 ≡ min f 65536 → leb x m ≡ leb f m
same_side x f m l e =
    below_or
    m
    f
    (λ h. let k : m < x = omega arith in lt-leb x m k ∙ sym (lt-leb f m h))
    (λ h. let k : x ≤ m = omega arith in le-leb x m k ∙ sym (le-leb f m h))

within_limit : (x f m : ℕ) → m < 65536 → min x 65536 ≡ min f 65536 → leb f m ≡ true → x ≡ f
within_limit x f m l e h = let k = leb-true f m h in omega arith

accepted : {w x y z w' x' y' z' : ℕ} (a b c d : Bool) → (a ≡ true → w ≡ w') → (b ≡ true → x ≡ x') → (c ≡ true → y ≡ y')
    → (d ≡ true → z ≡ z')
    → cond (a && (b && (c && d))) (accepted_with w x y z) (Err TooHeavy) ≡ cond (a && (b && (c && d))) (accepted_with w' x' y' z') (Err TooHeavy)
accepted true true true true e f g h = rw (e refl, f refl, g refl, h refl)
accepted true true true false e f g h = refl
accepted true true false d e f g h = refl
accepted true false c d e f g h = refl
accepted false b c d e f g h = refl

module _ {t : List ℕ} {n m v : ℕ} (P : SizedWhole t n m v) (g : AllGood t) where
  l : 0 < nodes t
  l = omega arith

  good_answer : nodes_verdict t ≡ program_verdict (tree_of t)
  unfolding nodes_verdict
  good_answer =
      let e = lowest_bad (good_node t) (nodes t) (nodes t) (omega arith) g.good (λ h. absurd (omega arith)) in
      rw (← e, le-ltb (nodes t) (nodes t) (omega arith))

  good_from : (i : ℕ) → 0 ≤ i → i < nodes t → good_node t i ≡ true
  good_from i h m = g.good i m

  the_tree : Tree t 0 (children (kind_at t 0)) (tree_at t 0)
  the_tree = tree_here t g.configurations_good 0 good_from 0 (omega arith) l

  the_size : size (tree_at t 0) ≡ nodes t
  the_size = sym (sized_here t g.configurations_good 0 good_from 0 (omega arith) l) ∙ (P.whole ∙ P.framed.n_is)

  -- 65 programs one behind another
  pub row_deep : (i : ℕ) → i < nodes t → Row t 65 i → 64 < height (tree_at t 0)
  row_deep i h r = row_within the_tree the_size 65 i h r

  pub deep_answer : 64 < height (tree_at t 0) → (r : ℕ) → r ≡ 0 + first_such deep (preorder 1 (tree_at t 0))
      → Err (TooDeep r) ≡ nodes_verdict t
  unfolding program_verdict
  deep_answer h r e =
      let n : r ≡ first_such deep (preorder 1 (tree_at t 0)) = omega arith in
      rw (good_answer, lt-ltb _ _ (some_too_deep (tree_at t 0) h), n)

  module _ (h : height (tree_at t 0) ≤ 64) (r : ℕ) (low : Lowest (λ k. endless_loop (tree_at t k)) (nodes t) r) where
    first_endless : first_such endless (preorder 1 (tree_at t 0)) ≡ r
    first_endless =
        let a =
        first_in_table t (tree_at t) (λ j q m s. stands t g.configurations_good 0 good_from j q (omega arith) m s)
        (record { depth = 0; part = tree_at t 0 }) endless_loop the_tree (let e = the_size in omega arith) 1 in
        one_lowest
        (λ k. endless_loop (tree_at t (0 + k)))
        (nodes t)
        _
        r
        (rw the_size at a)
        (record {
          within = low.within;
          before = λ k m. rw (zero-add k) (low.before k m);
          there = λ m. rw (zero-add r) (low.there m);
        })

    none_deep : ltb (first_such deep (preorder 1 (tree_at t 0))) (size (tree_at t 0)) ≡ false
    none_deep =
        let e = none_too_deep (tree_at t 0) h in
        le-ltb (first_such deep (preorder 1 (tree_at t 0))) (size (tree_at t 0)) (omega arith)

    pub endless_answer : r < nodes t → Err (EndlessLoop r) ≡ nodes_verdict t
    unfolding program_verdict
    endless_answer m =
        rw (
          good_answer,
          none_deep,
          first_endless,
          the_size,
          lt-ltb r (nodes t) m,
        )

    pub weight_answer : nodes t ≤ r → (x : Weight) → Weighs x (tree_at t 0)
        → cond
        (leb x.generations 4094 && (leb x.atoms 4096 && (leb x.nodes 65535 && leb x.parked 16384)))
        (accepted_with x.generations x.atoms x.nodes x.parked)
        (Err TooHeavy)
        ≡ nodes_verdict t
    unfolding program_verdict light
    weight_answer m x w =
        let g' = w.generations_are.exact in
        let a' = w.atoms_are.exact in
        let n' = w.nodes_are.exact in
        let p' = w.parked_are.exact in
        rw (
          good_answer,
          none_deep,
          first_endless,
          the_size,
          le-ltb r (nodes t) m,
          same_side _ _ 4094 (omega arith) g',
          same_side _ _ 4096 (omega arith) a',
          same_side _ _ 65535 (omega arith) n',
          same_side _ _ 16384 (omega arith) p',
        )
        (accepted
        _
        _
        _
        _
        (within_limit _ _ 4094 (omega arith) g')
        (within_limit _ _ 4096 (omega arith) a')
        (within_limit _ _ 65535 (omega arith) n')
        (within_limit _ _ 16384 (omega arith) p'))
