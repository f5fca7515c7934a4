-- What the nearest node with a byte other than zero tells of the subtrees below a node.
use Prim.Native.Nat.{ℕ, ◌+◌, ◌-◌, ◌*◌, ◌≤◌, ◌<◌}
use mathlib.Core.Bool.{Bool, true, false, ◌&&◌}
use mathlib.Core.Path.{◌≡◌, refl, ap, sym, subst, ◌∙◌}
use mathlib.Core.List.{List}
use native.Mathlib.Omega.{arith}
use lib.Dec.{leb}
use lib.ListN.{length}
use borrow.Author.Tests.{leb-true, leb-false}
use Rattle.table.specs.Records.{size_at, second_child}
use Rattle.table.specs.Inside.{Rooted}
use Rattle.table.proofs.Subtrees.{Body, Pair, ends, starts}
use Rattle.state.specs.Resting.{zero_node, zero_nodes, first_zero, second_zero, below_zero}
use Rattle.state.specs.Inside.{Nearest, ZeroFrom, Tells, Judged, Judging}
use Rattle.state.proofs.Zeros.{zero_all, zero_not, zero_split}
use Rattle.state.proofs.Firsts.{first_at, first_on}

module _ (s : List ℕ) {i n near : ℕ} (h : Nearest s i n near) where
  -- the nodes from i on
  pub near_zero : (m : ℕ) → i + m ≤ n → zero_nodes s i m ≡ leb (i + m) near
  near_zero m g = go (leb (i + m) near) refl
    where
      go : (b : Bool) → leb (i + m) near ≡ b → zero_nodes s i m ≡ b
      go true e =
          let l : i + m ≤ near = leb-true _ _ e in
          zero_all s i m (λ k a b. h.before k a (omega arith))
      go false e =
          let l : near < i + m = leb-false _ _ e in
          zero_not s i m near h.from l (h.there (omega arith))

  pub tells : 4 * n ≤ length s → (a m : ℕ) → i ≤ a → a + m ≤ n → Tells s near a m
  tells r a m f g = record {
    in_room = omega arith;
    all_zero = λ l. zero_all s a m (λ k p q. h.before k (omega arith) (omega arith));
    not_zero = λ l p. zero_not s a m near l p (h.there (omega arith));
  }

-- a first child's record is among them
pub child_read : {t : List ℕ} {n : ℕ} → Rooted t n → (i : ℕ) → i + 1 < n → 6 * i + 11 < length t
child_read r i h = omega (arith, r.long)

-- the subtree at node 0 is as large as its record says
pub own_size_lem : {t : List ℕ} {n : ℕ} → Rooted t n → Rooted t (size_at t 0)
own_size_lem {t} r = subst (Rooted t) (sym r.whole) r

-- a node that has such a byte, or the end, and the nodes before it that have none
pub judged : {t : List ℕ} (s : List ℕ) {near i : ℕ} → Rooted t (size_at t 0) → 4 * size_at t 0 ≤ length s → Nearest s near (size_at t 0) near
    → ZeroFrom s near i → Judged t s i near
judged {t} s {near} {i} l r h z = record {
  rooted = l;
  room = r;
  nearest = first_at (zero_node s) i near (size_at t 0) z.within h.within z.zero h.there;
}

-- each node before the nearest such one can be judged
pub judging : {t s : List ℕ} {i near : ℕ} → Judged t s i near → (k : ℕ) → i ≤ k → k < near → Judging t s k near
judging {t} {s} {i} {near} j k a b =
    record {
      inside = omega arith;
      behind = record {
        rooted = j.rooted;
        room = j.room;
        nearest = first_on (zero_node s) i (k + 1) (size_at t 0) near (omega arith) (omega arith) j.nearest;
      };
    }

-- what a node's parts being zero comes to
pub body_below : {t : List ℕ} (s : List ℕ) {n i : ℕ} → Body t n i → below_zero t s i ≡ first_zero t s i
body_below {t} s {i = i} b =
    let e : size_at t i - 1 ≡ size_at t (i + 1) = omega arith in
    ap (zero_nodes s (i + 1)) e

pub pair_below : {t : List ℕ} (s : List ℕ) {n i : ℕ} → Pair t n i → below_zero t s i ≡ (first_zero t s i && second_zero t s i)
pair_below {t} s {i = i} b =
    let e : size_at t i - 1 ≡ size_at t (i + 1) + size_at t (second_child t i) = omega arith in
    ap (zero_nodes s (i + 1)) e ∙ zero_split s (i + 1) (size_at t (i + 1)) (size_at t (second_child t i))

module _ {t s : List ℕ} {i near : ℕ} (j : Judging t s i near) where
  pub below_near : below_zero t s i ≡ leb (i + size_at t i) near
  below_near =
      let e = ends j.behind.rooted i j.inside in
      let b = starts j.behind.rooted i j.inside in
      let z : i + 1 + (size_at t i - 1) ≡ i + size_at t i = omega arith in
      near_zero s j.behind.nearest (size_at t i - 1) (omega arith) ∙ ap (λ (x : ℕ). leb x near) z

  pub first_near : i + 1 < size_at t 0 → first_zero t s i ≡ leb (second_child t i) near
  first_near h = near_zero s j.behind.nearest (size_at t (i + 1)) (ends j.behind.rooted (i + 1) h)

  -- the part from the second child on, up to the end of node i
  pub second_tells : Pair t (size_at t 0) i → Tells s near (second_child t i) (i + size_at t i - second_child t i)
  second_tells b =
      let e = ends j.behind.rooted i j.inside in
      tells s j.behind.nearest j.behind.room (second_child t i) _ (omega arith) (omega arith)

  pub second_is : Pair t (size_at t 0) i → zero_nodes s (second_child t i) (i + size_at t i - second_child t i) ≡ second_zero t s i
  second_is b =
      let e : i + size_at t i - second_child t i ≡ size_at t (second_child t i) = omega arith in
      ap (zero_nodes s (second_child t i)) e

  pub second_near : Pair t (size_at t 0) i → i + size_at t i ≤ near → second_zero t s i ≡ true
  second_near b h = sym (second_is b) ∙ (second_tells b).all_zero (omega arith)
