-- What a node of a table weighs at most, and so which parts of an accepted table are accepted themselves: `part_accepted`.
use Prim.Native.Nat.{ℕ, zero, suc, ◌+◌, ◌≤◌, ◌<◌, max}
use mathlib.Core.Bool.{Bool, true, false, cond, ◌&&◌, ◌||◌, false≢true}
use mathlib.Core.Path.{◌≡◌, sym, subst, ◌∙◌}
use mathlib.Core.List.{List}
use native.Mathlib.Nat.{mul-le-mul}
use native.Mathlib.Omega.{arith}
use lib.Dec.{eqb, leb, ltb}
use lib.ListN.{length}
use borrow.Author.Tests.{leb-true, le-leb, ltb-false, le-ltb}
use Rattle.junior.specs.Program.{Program, Nothing, kind, One, Two, size}
use Rattle.junior.specs.Figures.{stops, figure, times, per, every, parking, G, A, W, F}
use Rattle.junior.proofs.Little.{neither}
use Rattle.table.specs.Records.{nodes, kind_at, argument_at, size_at, second_child}
use Rattle.table.specs.Good.{children}
use Rattle.table.specs.Spells.{cap_in, Spells, tree_of}
use Rattle.table.specs.Verdict.{Verdict, accepted_with, Node, preorder, first_such, deep, endless_loop, endless, light, program_verdict, verdict_of, number_of}
use Rattle.table.specs.Inside.{Loaded}
use Rattle.table.specs.Inside.Weighing.{tree_at, Counts, height}
use Rattle.table.specs.Part.{part_table, never_runs}
use Rattle.table.proofs.Little.{below_or}
use Rattle.table.proofs.Laid.{both}
use Rattle.table.proofs.Parts.{often, chooses, of_none, of_one, of_two, figures_of_one, figures_of_two}
use Rattle.table.proofs.OneTree.{one_tree}
use Rattle.table.proofs.Tree.{Tree, leaf, one, two, tree, kind_is, written, argued, sized}
use Rattle.table.proofs.Order.{Lowest, first_lowest, length_preorder, none_too_deep, some_too_deep, first_in_table}
use Rattle.table.proofs.Loaded.{node_placed, whole_placed, root_size, size_stands}
use Rattle.table.proofs.Accepted.{accepted, chosen, passed}
use Rattle.table.proofs.PartBytes.{part}
use Rattle.table.proofs.PartTree.{part_verdict}

-- no node from i on that stands above node j is a repetition of count or cap 0
abbrev pub Runs : List ℕ → ℕ → ℕ → Type 0
Runs t i j = (k : ℕ) → i ≤ k → k < j → j < k + size_at t k → never_runs t k ≡ false

-- what passes from every node above node j, from node s on, to its parts passes to what stands at j
module _ (t : List ℕ) (P : Program → Type 0) (s j : ℕ) (x : Program) (there : Spells t j x)
    (first : (i : ℕ) (p q : Program) → s ≤ i → Spells t i p → One p q → i < j → j < i + size p → P p → P q)
    (pair : (p q r : Program) → Two p q r → P p → P q × P r) where
  here : (i : ℕ) (p : Program) → Spells t i p → j ≡ i → P p → P x
  here i p h e g = subst P (one_tree t i p x h (subst (λ k. Spells t k x) e there)) g

  pub passes_down : {i c : ℕ} {p : Program} → Tree t i c p → s ≤ i → i ≤ j → j < i + size p → P p → P x
  passes_down {i} {p = p} (leaf h v) a b c g = here i p h (omega (arith, (of_none v).size_is)) g
  passes_down {i} {p = p} (one {q = q} h v y) a b c g =
      below_or i j
      (λ l. passes_down y (omega arith) (omega arith) (omega (arith, (of_one v).size_is)) (first i p q a h v l c g))
      (λ l. here i p h (omega arith) g)
  passes_down {i} {p = p} (two {q = q} {r = r} h v y z) a b c g =
      below_or i j
      (λ l.
      below_or j (second_child t i)
      (λ m. passes_down y (omega arith) (omega arith) (omega (arith, sized y)) (pair p q r v g).0)
      (λ m. passes_down z (omega arith) m (omega (arith, (of_two v).size_is, sized y)) (pair p q r v g).1))
      (λ l. here i p h (omega arith) g)

-- a repetition that runs counts its body
some_times : (n : ℕ) (stops_too : Bool) → eqb n 0 ≡ false → 1 ≤ times n stops_too
some_times zero b e = absurd (false≢true (sym e))
some_times (suc n) true e = omega arith
some_times (suc n) false e = omega arith

some_often : (k a : ℕ) (b : Bool) → ((eqb k 6 && eqb a 0) || (eqb k 15 && eqb (cap_in a) 0)) ≡ false → 1 ≤ often k a b
some_often k a b e = go (eqb k 5) (eqb k 6) (eqb k 15) e
  where
    go : (five six fifteen : Bool) → ((six && eqb a 0) || (fifteen && eqb (cap_in a) 0)) ≡ false
        → 1 ≤ cond five 2 (cond six (times a b) (cond fifteen (times (cap_in a) b) 1))
    go true six fifteen e = omega arith
    go false true fifteen e = some_times a b (neither (eqb a 0) (fifteen && eqb (cap_in a) 0) e).0
    go false false true e = some_times (cap_in a) b e
    go false false false e = omega arith

-- a part weighs no more than what it is a part of
first_weighs : (w : Program → ℕ) (t : List ℕ) (i : ℕ) (p q : Program) → Spells t i p → One p q → never_runs t i ≡ false
    → figure w q ≤ figure w p
first_weighs w t i p q h v e =
    let a = argued t i p h in
    let counts : Counts (argument_at t i) p = record { same = λ n f. rw f at a; cap_is = λ c cap f. (rw f at a).1 } in
    let is = (figures_of_one v counts).figure_is w in
    let often_so = rw (kind_is t i p h) at (some_often (kind_at t i) (argument_at t i) (stops q) e) in
    let all : figure w q ≤ figure w q = omega arith in
    let more = mul-le-mul often_so all in
    omega arith

pair_weighs : (w : Program → ℕ) (p q r : Program) → Two p q r → (figure w q ≤ figure w p) × (figure w r ≤ figure w p)
pair_weighs w p q r v = go (chooses (kind p)) ((figures_of_two {e = 0} v).figure_is w)
  where
    go : (b : Bool) → figure w p ≡ w p + cond b (max (figure w q) (figure w r)) (figure w q + figure w r)
        → (figure w q ≤ figure w p) × (figure w r ≤ figure w p)
    go true e = (omega arith, omega arith)
    go false e = (omega arith, omega arith)

pub weighs : (w : Program → ℕ) {t : List ℕ} {i c : ℕ} {p : Program} → Tree t i c p → (j : ℕ) (x : Program) → i ≤ j → j < i + size p
    → Runs t i j → Spells t j x → figure w x ≤ figure w p
weighs w {t} {i} {p = p} y j x a b runs there =
    passes_down
    t
    (λ q. figure w q ≤ figure w p)
    i
    j
    x
    there
    (λ k q r m h v l n f. let s = first_weighs w t k q r h v (runs k m l (omega (arith, written t k q h))) in omega arith)
    (λ q r s v f. let (m, o) = pair_weighs w q r s v in (omega arith, omega arith))
    y
    (omega arith)
    a
    b
    (omega arith)

-- what a program is judged by, and that suffices
record Passes (p : Program) : Type 0 where
  shallow : first_such deep (preorder 1 p) ≡ size p
  endings : first_such endless (preorder 1 p) ≡ size p
  light_so : light p ≡ true

passing : (p : Program) → Passes p → program_verdict p ≡ accepted_with (G p) (A p) (W p) (F p)
unfolding program_verdict
passing p h = rw (h.shallow, h.endings, le-ltb (size p) (size p) (omega arith), h.light_so)

such_within : (so : Node → Bool) (l : List Node) → first_such so l ≤ length l
such_within so l = (first_lowest so (record { depth = 0; part = Nothing }) l).within

passed_so : (p : Program) → number_of (program_verdict p) ≡ 0 → Passes p
unfolding program_verdict number_of
passed_so p h =
    let Is : Verdict → Type 0 = λ c. number_of c ≡ 0 in
    let too_deep = first_such deep (preorder 1 p) in
    let never = first_such endless (preorder 1 p) in
    let (shallow, h') = passed Is (ltb too_deep (size p)) h (λ e. omega arith) in
    let (ending, h'') = passed Is (ltb never (size p)) h' (λ e. omega arith) in
    record {
      shallow = omega (arith, ltb-false too_deep (size p) shallow, such_within deep (preorder 1 p), length_preorder p 1);
      endings = omega (arith, ltb-false never (size p) ending, such_within endless (preorder 1 p), length_preorder p 1);
      light_so = (chosen Is (light p) h'' (λ e. omega arith)).0;
    }

light_too : (p x : Program) → ((w : Program → ℕ) → figure w x ≤ figure w p) → light p ≡ true → light x ≡ true
unfolding light
light_too p x less h =
    let (g, h') = both {a = leb (G p) 4094} h in
    let (a, h'') = both {a = leb (A p) 4096} h' in
    let (w, f) = both {a = leb (W p) 65535} h'' in
    let fewer : (k : Program → ℕ) (n : ℕ) → leb (figure k p) n ≡ true → leb (figure k x) n ≡ true =
    λ k n e. le-leb (figure k x) n (omega (arith, less k, leb-true (figure k p) n e)) in
    rw (fewer (per 7) 4094 g, fewer (per 2) 4096 a, fewer every 65535 w, fewer parking 16384 f)

module _ {t : List ℕ} (l : Loaded t) (j : ℕ) (h : j < nodes t) where
  tree_there : Tree t j (children (kind_at t j)) (tree_at t j)
  tree_there = tree t j (tree_at t j) (node_placed l j h).spelled

  -- the first endless Loop of the program at node j
  first_endless : Lowest (λ k. endless_loop (tree_at t (j + k))) (size (tree_at t j)) (first_such endless (preorder 1 (tree_at t j)))
  first_endless =
      first_in_table
      t
      (tree_at t)
      (λ k q m s. one_tree t k (tree_at t k) q (node_placed l k m).spelled s)
      (record { depth = 0; part = tree_at t j })
      endless_loop
      tree_there
      (node_placed l j h).inside
      1

module _ {t : List ℕ} (l : Loaded t) (whole : Passes (tree_of t)) (j : ℕ) (h : j < nodes t) (runs : Runs t 0 j) where
  some : 0 < nodes t
  some = l.framed.n_least

  all_there : j < 0 + size (tree_of t)
  all_there = omega (arith, root_size l, size_stands (whole_placed l))

  part_passes : Passes (tree_at t j)
  part_passes =
      let p = tree_of t in
      let x = tree_at t j in
      let there = node_placed l j h in
      record {
        shallow = none_too_deep x
            (passes_down t (λ q. height q ≤ 64) 0 j x there.spelled
            (λ i q r a s v b c f. omega (arith, (of_one v).height_is))
            (λ q r s v f. (omega (arith, (of_two v).height_is), omega (arith, (of_two v).height_is)))
            (tree_there l 0 some) (omega arith) (omega arith) all_there low);
        endings = ending;
        light_so = light_too p x (λ w. weighs w (tree_there l 0 some) j x (omega arith) all_there runs there.spelled) whole.light_so;
      }
    where
      low : height (tree_of t) ≤ 64
      low = below_or 64 (height (tree_of t)) (λ g. absurd (omega (arith, some_too_deep (tree_of t) g, whole.shallow))) (λ g. g)

      all_end : (k : ℕ) → k < nodes t → endless_loop (tree_at t k) ≡ false
      all_end k g =
          let e : 0 + k ≡ k = omega arith in
          let m : k < first_such endless (preorder 1 (tree_of t)) = omega (arith, whole.endings, root_size l, size_stands (whole_placed l)) in
          rw e at ((first_endless l 0 some).before k m)

      ending : first_such endless (preorder 1 (tree_at t j)) ≡ size (tree_at t j)
      ending =
          let f = first_endless l j h in
          below_or
          (first_such endless (preorder 1 (tree_at t j)))
          (size (tree_at t j))
          (λ g. absurd (false≢true (sym (all_end _ (omega (arith, (node_placed l j h).inside))) ∙ f.there g)))
          (λ g. omega (arith, f.within))

-- a part that no repetition of count or cap 0 stands above
pub part_accepted : (t : List ℕ) → number_of (verdict_of t) ≡ 0 → (j : ℕ) → j < nodes t → Runs t 0 j
    → verdict_of (part_table t j) ≡ accepted_with (G (tree_at t j)) (A (tree_at t j)) (W (tree_at t j)) (F (tree_at t j))
part_accepted t ok j h runs =
    let a = accepted t ok in
    let whole = passed_so (tree_of t) (rw a.verdict_is at ok) in
    part_verdict (part a.loaded j h) ∙ passing (tree_at t j) (part_passes a.loaded whole j h runs)
