-- Placing a good node: what it needs of the row, and what the row is afterwards.
use Prim.Native.Nat.{ℕ, ◌+◌, ◌-◌, ◌≤◌, ◌<◌}
use mathlib.Core.Bool.{Bool, true, false, cond, not, ◌&&◌}
use mathlib.Core.Path.{◌≡◌, refl, ap, ◌∙◌}
use mathlib.Core.List.{List}
use native.Mathlib.Omega.{arith}
use mir.Val.{bool_byte}
use lib.Dec.{eqb}
use lib.ListN.{length, set, length-set}
use Rattle.junior.specs.Program.{Program, kind, Leaf, One, Two, size}
use Rattle.junior.specs.Figures.{stops}
use Rattle.table.specs.Records.{nodes, configurations, kind_at, argument_at, size_at, second_child}
use Rattle.table.specs.Good.{children, argument_limit, good_node}
use Rattle.table.specs.declared.weights.Weight.{Weight}
use Rattle.table.specs.Inside.Early.{Tests, TestsAt}
use Rattle.table.specs.Inside.Weighing.{Counts, Weighs, Small, weight_at, Row, tree_at}
use Rattle.table.specs.Inside.Weighing.{ToPlace, NowPlaced}
use Rattle.table.proofs.Grown.{fine, spells_from}
use Rattle.table.proofs.Here.{Here, no_part, one_part, two_parts, here, kind_here, argued_here}
use Rattle.table.proofs.Little.{below_or}
use Rattle.table.proofs.Parts.{limit_of, by_kind, of_none, of_one, of_two}
use Rattle.table.proofs.Rows.{height_most, row_more}
use Rattle.table.proofs.Waits.{Topmost, topmost, waits_more, waiting_row}

-- the row is long enough for place k
pub place_fits : {t : List ℕ} {w : List Weight} {n i top : ℕ} → ToPlace t w n i top → (k : ℕ) → k < n → k < 64 → k < length w
place_fits R k a b = omega (arith, R.long_row)

-- what the argument of an Await, a When or an Until is below
tested_limit : (t : List ℕ) (k : ℕ) → 8 ≤ k → k ≤ 10 → argument_limit t k ≡ configurations t
unfolding argument_limit
tested_limit t k a b =
    below_or
    k
    9
    (λ l. let e : k ≡ 8 = omega arith in rw e)
    (λ l. below_or k 10 (λ m. let e : k ≡ 9 = omega arith in rw e) (λ m. let e : k ≡ 10 = omega arith in rw e))

pub tested_among : (t : List ℕ) (i k : ℕ) → good_node t i ≡ true → k ≡ kind_at t i → 8 ≤ k → k ≤ 10
    → argument_at t i < configurations t
tested_among t i k good own a b = rw (tested_limit t k a b) at (rw (← own) at (fine t i (kind_at t i) refl good).argument_below)

bit_none : (b : Bool) → eqb (bool_byte b) 0 ≡ not b
bit_none true = refl
bit_none false = refl

module _ {t : List ℕ} {w : List Weight} {n i k count top : ℕ} (R : ToPlace t w n i top) (good : good_node t i ≡ true)
    (own : k ≡ kind_at t i) (counted : children k ≡ count) where
  n_is : n ≡ nodes t
  n_is = R.within.n_is

  here_below : i < nodes t
  here_below = rw n_is at R.within.here

  good_from : (j : ℕ) → i ≤ j → j < nodes t → good_node t j ≡ true
  good_from j h l =
      below_or i j (λ m. R.good_behind j m (rw n_is l)) (λ m. let e : j ≡ i = omega arith in rw e good)

  at_node : Here t i count
  at_node =
      let e : children (kind_at t i) ≡ count = rw own at counted in
      rw e at (here t R.configurations_good i good_from i (omega arith) here_below)

  kind_is : k ≡ kind (tree_at t i)
  kind_is = own ∙ kind_here t R.configurations_good i good_from i (omega arith) here_below

  count_is : Counts (argument_at t i) (tree_at t i)
  count_is =
      let there = argued_here t R.configurations_good i good_from i (omega arith) here_below in
      record { same = λ n e. rw e at there; cap_is = λ v cap e. (rw e at there).1 }

  size_is : size_at t i ≡ size (tree_at t i)
  size_is = (spells_from t R.configurations_good i good_from i (omega arith) here_below).sized

  pub few_nodes : size_at t i ≤ 4096
  few_nodes =
      omega (arith, size_is, (spells_from t R.configurations_good i good_from i (omega arith) here_below).ends, R.within.n_most)

  -- when its test, if it has one, can be decided early
  early_here : (e : ℕ) → TestsAt t i k e → Tests e (tree_at t i)
  early_here e d =
      record {
        early = λ a b c h.
            let there = rw h at (argued_here t R.configurations_good i good_from i (omega arith) here_below) in
            let same = kind_here t R.configurations_good i good_from i (omega arith) here_below in
            let limit : argument_limit t (kind_at t i) ≡ configurations t =
            rw same ((by_kind (tree_at t i)).limit_is t ∙ ap (limit_of t) h) in
            let below = rw limit at (fine t i (kind_at t i) refl good).argument_below in
            d.early (rw (← kind_is) at a) (rw (← kind_is) at b) below c there;
      }

  small_here : (x : Weight) (j : ℕ) → i ≤ j → j < nodes t → Weighs x (tree_at t j) → Small x
  small_here x j h l y =
      let G = spells_from t R.configurations_good i good_from j h l in
      record {
        generations_small = omega (arith, y.generations_are.small);
        atoms_small = omega (arith, y.atoms_are.small);
        nodes_small = omega (arith, y.nodes_are.small);
        parked_small = omega (arith, y.parked_are.small);
        height_small =
            omega (arith, y.height_is, height_most (tree_at t j), G.sized);
      }

  pub leaf_full : count ≡ 0 → top ≡ 64 → Row t 65 i
  leaf_full c e = go (rw c at at_node)
    where
      go : Here t i 0 → Row t 65 i
      go (no_part s v) = row_more t 64 i here_below (rw (s, ← e) (waiting_row t w top (i + 1) R.waits))

  pub leaf_placed : (b : ℕ) → count ≡ 0 → top < 64 → (e : ℕ) → TestsAt t i k e → (x : Weight)
      → ((p : Program) → Leaf p → k ≡ kind p → Tests e p → Weighs x p) → NowPlaced t w (set w top x) b b i (top + 1)
  leaf_placed b c h e d x f = go (rw c at at_node)
    where
      go : Here t i 0 → NowPlaced t w (set w top x) b b i (top + 1)
      go (no_part s v) =
          record {
            good = good;
            long_row = length-set w top x;
            waits = waits_more t w top i x (place_fits R top (omega (arith, R.few)) h) here_below (f _ v kind_is (early_here e d)) (rw s R.waits);
            room = omega arith;
            few = omega (arith, R.few, n_is);
            endless = rw (of_none v).endless_is;
          }

  -- there are no more than two
  pub is_two : (count ≡ 0 → ⊥) → (count ≡ 1 → ⊥) → count ≡ 2
  is_two c d = go at_node c d
    where
      go : {count : ℕ} → Here t i count → (count ≡ 0 → ⊥) → (count ≡ 1 → ⊥) → count ≡ 2
      go (no_part s v) c d = absurd (c refl)
      go (one_part m s v) c d = absurd (d refl)
      go (two_parts m m' s v) c d = refl

  first_below : (count ≡ 0 → ⊥) → i + 1 < nodes t
  first_below c = go at_node c
    where
      go : {count : ℕ} → Here t i count → (count ≡ 0 → ⊥) → i + 1 < nodes t
      go (no_part s v) c = absurd (c refl)
      go (one_part m s v) c = m
      go (two_parts m m' s v) c = m

  second_below : count ≡ 2 → second_child t i < nodes t
  second_below c = go (rw c at at_node)
    where
      go : Here t i 2 → second_child t i < nodes t
      go (two_parts m m' s v) = m'

  -- what the first child and the second weigh
  pub first_taken : (count ≡ 0 → ⊥) → Topmost t w top (i + 1)
  first_taken c = topmost t w top (i + 1) (first_below c) R.waits

  pub first_small : (count ≡ 0 → ⊥) → Small (weight_at w (top - 1))
  first_small c = small_here _ (i + 1) (omega arith) (first_below c) (first_taken c).weighs

  pub second_taken : count ≡ 2 → Topmost t w (top - 1) (second_child t i)
  second_taken c = topmost t w (top - 1) (second_child t i) (second_below c) (first_taken (λ e. omega arith)).rest

  pub two_wait : count ≡ 2 → 2 ≤ top
  two_wait c = let a = (second_taken c).some in omega arith

  second_place : top - 1 - 1 ≡ top - 2
  second_place = omega arith

  pub both_small : count ≡ 2 → Small (weight_at w (top - 1)) × Small (weight_at w (top - 2))
  both_small c = (
    first_small (λ e. omega arith),
    rw second_place at (small_here _ (second_child t i) (omega arith) (second_below c) (second_taken c).weighs),
  )

  pub pair_placed : (b : ℕ) → count ≡ 2 → (e : ℕ) → TestsAt t i k e → (z : Weight)
      → ((p q r : Program) → Two p q r → k ≡ kind p → Tests e p → Weighs (weight_at w (top - 1)) q
      → Weighs (weight_at w (top - 2)) r → Weighs z p) → NowPlaced t w (set w (top - 2) z) b b i (top - 1)
  pair_placed b c e d z f = go (rw c at at_node)
    where
      go : Here t i 2 → NowPlaced t w (set w (top - 2) z) b b i (top - 1)
      go (two_parts m m' s v) =
          let first = first_taken (λ e. omega arith) in
          let second = second_taken c in
          let g : second_child t i + size_at t (second_child t i) ≡ i + size_at t i = omega arith in
          let two = two_wait c in
          let one_less : top - 2 + 1 ≡ top - 1 = omega arith in
          let o = R.room in
          let few = R.few in
          record {
            good = good;
            long_row = length-set w (top - 2) z;
            waits =
                rw one_less at (waits_more t w (top - 2) i z (place_fits R (top - 2) (omega arith) (omega arith)) here_below
                (f _ _ _ v kind_is (early_here e d) first.weighs (rw second_place at second.weighs))
                (rw (g, second_place) at second.rest));
            room = omega arith;
            few = omega arith;
            endless = rw (of_two v).endless_is;
          }

  pub body_placed : (b b' : ℕ) → count ≡ 1 → b' ≡ cond (eqb k 5 && eqb (weight_at w (top - 1)).stops 0) i b → (z : Weight)
      → ((p q : Program) → One p q → Counts (argument_at t i) p → k ≡ kind p → size_at t i ≡ size p → Weighs (weight_at w (top - 1)) q
      → Weighs z p)
      → NowPlaced t w (set w (top - 1) z) b b' i top
  body_placed b b' c d z f = go (rw c at at_node)
    where
      go : Here t i 1 → NowPlaced t w (set w (top - 1) z) b b' i top
      go (one_part m s v) =
          let a = first_taken (λ e. omega arith) in
          let few = R.few in
          let fits = place_fits R (top - 1) (omega arith) (omega arith) in
          let o = R.room in
          let e : top - 1 + 1 ≡ top = omega arith in
          let g : i + 1 + size_at t (i + 1) ≡ i + size_at t i = omega arith in
          record {
            good = good;
            long_row = length-set w (top - 1) z;
            waits =
                rw e at (waits_more t w (top - 1) i z fits here_below (f _ _ v count_is kind_is size_is a.weighs) (rw g at a.rest));
            room = o;
            few = omega arith;
            endless = d ∙ rw (kind_is, a.weighs.stops_is, bit_none (stops (tree_at t (i + 1))), (of_one v).endless_is);
          }
