-- The loop over the nodes, from the last to the first: what it has seen from node i on.
use Prim.Native.Nat.{ℕ, zero, suc, ◌+◌, ◌-◌, ◌≤◌, ◌<◌}
use mathlib.Core.Bool.{Bool, true, false, cond}
use mathlib.Core.Path.{◌≡◌, refl}
use mathlib.Core.List.{List}
use native.Mathlib.Omega.{arith}
use Rattle.table.specs.Records.{nodes, size_at}
use Rattle.table.specs.declared.weights.Weight.{Weight}
use Rattle.table.specs.Good.{good_node}
use Rattle.table.specs.Verdict.{endless_loop}
use Rattle.table.specs.Inside.Weighing.{Weighs, weight_at, Roomy, Waiting, tree_at, SizedWhole, AllGood}
use Rattle.table.specs.Inside.Weighing.{ToPlace, NowPlaced}
use Rattle.table.proofs.Answers.{all_good}
use Rattle.table.proofs.Judged.{within_of}
use Rattle.table.proofs.Little.{below_or}
use Rattle.table.proofs.Order.{Lowest}
use Rattle.table.proofs.Waits.{topmost}

-- e is the lowest endless Loop from node i on; n if there is none
pub record Least (t : List ℕ) (n i e : ℕ) : Type 0 where
  pub from_i : i ≤ e
  pub most : e ≤ n
  pub before : (k : ℕ) → i ≤ k → k < e → endless_loop (tree_at t k) ≡ false
  pub there : e < n → endless_loop (tree_at t e) ≡ true

least_more : {t : List ℕ} {n i e : ℕ} → Least t n i e → 0 < i → (b : Bool) → endless_loop (tree_at t (i - 1)) ≡ b
    → Least t n (i - 1) (cond b (i - 1) e)
least_more s h true e =
    record { from_i = omega arith; most = omega arith; before = λ k f g. absurd (omega arith); there = λ f. e }
least_more {i = i} s h false e =
    record {
      from_i = omega arith;
      most = s.most;
      before = λ k f g. below_or k i (λ j. let d : k ≡ i - 1 = omega arith in rw d e) (λ j. s.before k j g);
      there = s.there;
    }

-- all nodes from i on are good and weighed, `top` programs wait, and e is the lowest endless Loop
pub record Swept (t : List ℕ) (w : List Weight) (n e i top : ℕ) : Type 0 where
  pub within : i ≤ n
  pub good : (j : ℕ) → i ≤ j → j < n → good_node t j ≡ true
  pub long_row : Roomy w n
  pub waits : Waiting t w top i
  pub room : top ≤ 64
  pub few : i + top ≤ n
  pub endless : Least t n i e

pub swept_none : (t : List ℕ) (w : List Weight) (n : ℕ) → n ≡ nodes t → Roomy w n → Swept t w n n n 0
unfolding Waiting
swept_none t w n e l =
    record {
      within = omega arith;
      good = λ j h m. absurd (omega arith);
      long_row = l;
      waits = e;
      room = omega arith;
      few = omega arith;
      endless =
          record {
            from_i = omega arith;
            most = omega arith;
            before = λ j f g. absurd (omega arith);
            there = λ f. absurd (omega arith);
          };
    }

module _ {t : List ℕ} {w : List Weight} {n e i top : ℕ} (s : Swept t w n e i top) (h : 0 < i) where
  one_on : i - 1 + 1 ≡ i
  one_on = omega arith

  pub ready : {m v : ℕ} → SizedWhole t n m v → ToPlace t w n (i - 1) top
  ready P =
      record {
        within = within_of P (i - 1) (omega arith);
        configurations_good = P.configurations_good;
        good_behind = λ j k m. s.good j (omega arith) m;
        long_row = s.long_row;
        waits = rw one_on s.waits;
        room = s.room;
        few = omega (arith, s.few);
      }

  pub swept_more : {w' : List Weight} {e' r : ℕ} → n ≡ nodes t → NowPlaced t w w' e e' (i - 1) r → Swept t w' n e' (i - 1) r
  swept_more f p =
      record {
        within = omega arith;
        good = λ j f g. below_or j i (λ k. let d : j ≡ i - 1 = omega arith in rw d p.good) (λ k. s.good j k g);
        long_row = rw p.long_row s.long_row;
        waits = p.waits;
        room = p.room;
        few = omega (arith, p.few);
        endless = rw p.endless (least_more s.endless h (endless_loop (tree_at t (i - 1))) refl);
      }

-- behind the last node none waits
none_behind : (t : List ℕ) (w : List Weight) (k i : ℕ) → nodes t ≤ i → Waiting t w k i → k ≡ 0
unfolding Waiting
none_behind t w zero i h x = refl
none_behind t w (suc k) i h (l, y, r) = absurd (omega arith)

-- at node 0 all have been seen
module _ {t : List ℕ} {w : List Weight} {n m v e i top : ℕ} (P : SizedWhole t n m v) (s : Swept t w n e i top) (h : i ≤ 0) where
  n_is : n ≡ nodes t
  n_is = P.framed.n_is

  some : 1 ≤ n
  some = P.framed.n_least

  pub all_seen : AllGood t
  all_seen = all_good P (λ j k. s.good j (omega arith) (omega arith))

  pub whole_weighs : Weighs (weight_at w 0) (tree_at t 0)
  whole_weighs =
      let i_is : i ≡ 0 = omega arith in
      let a = topmost t w top 0 (omega arith) (rw i_is at s.waits) in
      let k_is = none_behind t w (top - 1) (0 + size_at t 0) (omega arith) a.rest in
      rw k_is at a.weighs

  pub lowest_endless : Lowest (λ k. endless_loop (tree_at t k)) (nodes t) e
  lowest_endless =
      record {
        within = omega arith;
        before = λ k f. s.endless.before k (omega arith) f;
        there = λ f. s.endless.there (omega arith);
      }
