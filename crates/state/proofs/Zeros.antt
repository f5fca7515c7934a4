-- Nodes with no byte but zeros: one by one, and in parts.
use Prim.Native.Nat.{ℕ, zero, suc, ◌+◌, ◌-◌, ◌*◌, ◌≤◌, ◌<◌}
use mathlib.Core.Bool.{Bool, true, false, ◌&&◌, false≢true, and_assoc}
use mathlib.Core.Path.{◌≡◌, refl, sym, ◌∙◌}
use mathlib.Core.List.{List}
use native.Mathlib.Omega.{arith}
use native.Mathlib.Nat.{add-zero, zero-add, suc-add}
use native.Mathlib.Decide.{ℕ_discrete}
use lib.Dec.{eqb}
use borrow.Author.Tests.{eqb-true, ne_eqb}
use Rattle.table.proofs.Laid.{both}
use Rattle.state.specs.StateBytes.{Own, in_phase}
use Rattle.state.specs.Resting.{phase_at, flags_at, count_at, zero_node, zero_nodes}
use Rattle.state.specs.Inside.{own}

-- a node's own bytes are o
abbrev pub Owns : List ℕ → ℕ → Own → Type 0
Owns s i o = (phase_at s i ≡ o.phase) × (flags_at s i ≡ o.flags) × (count_at s i ≡ o.count)

zero_node_lem : (s : List ℕ) (i : ℕ) → Owns s i (in_phase 0) → zero_node s i ≡ true
unfolding zero_node
zero_node_lem s i o = rw (o.0, o.1, o.2)

pub zero_owns : (s : List ℕ) (i : ℕ) → zero_node s i ≡ true → Owns s i (in_phase 0)
unfolding zero_node
zero_owns s i z =
    let (a, h) = both z in
    let (b, c) = both h in
    (eqb-true _ _ a, eqb-true _ _ b, eqb-true _ _ c)

pub own_zero : (s : List ℕ) (i : ℕ) → own s i ≡ 0 → zero_node s i ≡ true
own_zero s i e = zero_node_lem s i (omega arith, omega arith, omega arith)

pub own_not_zero : (s : List ℕ) (i : ℕ) → (own s i ≡ 0 → ⊥) → zero_node s i ≡ false
own_not_zero s i e = go (zero_node s i) refl
  where
    go : (b : Bool) → zero_node s i ≡ b → b ≡ false
    go true z = let (a, b, c) = zero_owns s i z in absurd (e (rw (a, b, c)))
    go false z = refl

-- that number tested
pub own_tested : (s : List ℕ) (i r : ℕ) → r ≡ own s i → eqb r 0 ≡ zero_node s i
own_tested s i r e = go (ℕ_discrete (own s i) 0)
  where
    go : Dec (own s i ≡ 0) → eqb r 0 ≡ zero_node s i
    go (yes z) = rw (own_zero s i z, e, z)
    go (no z) = rw (own_not_zero s i z, e) (ne_eqb _ _ z)

-- two nodes' own bytes as one number
module _ (s : List ℕ) (i r : ℕ) (two : r ≡ own s i * 4294967296 + own s (i + 1)) where
  pub two_zero : r ≡ 0 → (zero_node s i ≡ true) × (zero_node s (i + 1) ≡ true)
  two_zero e = (own_zero s i (omega arith), own_zero s (i + 1) (omega arith))

  pub two_not_zero : (r ≡ 0 → ⊥) → zero_node s (i + 1) ≡ true → zero_node s i ≡ false
  two_not_zero e z =
      let (a, b, c) = zero_owns s (i + 1) z in
      own_not_zero s i (λ f. e (two ∙ rw (f, a, b, c)))

-- the first of some nodes, and the rest
pub zero_rest : (s : List ℕ) (a m : ℕ) → 0 < m → zero_nodes s a m ≡ (zero_node s a && zero_nodes s (a + 1) (m - 1))
unfolding zero_nodes
zero_rest s a zero h = absurd (omega arith)
zero_rest s a (suc m) h = let e : suc m - 1 ≡ m = omega arith in rw e

-- what the first of them tells of all
pub zeros_behind : (s : List ℕ) (a m : ℕ) → 0 < m → own s a ≡ 0 → zero_nodes s a m ≡ zero_nodes s (a + 1) (m - 1)
zeros_behind s a m h e = rw (zero_rest s a m h, own_zero s a e)

pub not_all_zero : (s : List ℕ) (a m : ℕ) → 0 < m → (own s a ≡ 0 → ⊥) → zero_nodes s a m ≡ false
not_all_zero s a m h e = rw (zero_rest s a m h, own_not_zero s a e)

-- some nodes, by each of them
pub zero_all : (s : List ℕ) (a m : ℕ) → ((k : ℕ) → a ≤ k → k < a + m → zero_node s k ≡ true) → zero_nodes s a m ≡ true
unfolding zero_nodes
zero_all s a zero h = refl
zero_all s a (suc m) h = rw (h a (omega arith) (omega arith)) (zero_all s (a + 1) m (λ k g l. h k (omega arith) (omega arith)))

pub zero_each : (s : List ℕ) (a m : ℕ) → zero_nodes s a m ≡ true → (k : ℕ) → a ≤ k → k < a + m → zero_node s k ≡ true
unfolding zero_nodes
zero_each s a zero z k g l = absurd (omega arith)
zero_each s a (suc m) z k g l = go (zero_each s (a + 1) m (both {a = zero_node s a} z).1) (ℕ_discrete k a)
  where
    go : ((j : ℕ) → a + 1 ≤ j → j < a + 1 + m → zero_node s j ≡ true) → Dec (k ≡ a) → zero_node s k ≡ true
    go later (yes e) = rw e (both z).0
    go later (no e) = later k (omega arith) (omega arith)

pub zero_not : (s : List ℕ) (a m k : ℕ) → a ≤ k → k < a + m → zero_node s k ≡ false → zero_nodes s a m ≡ false
zero_not s a m k g l z = go (zero_nodes s a m) refl
  where
    go : (b : Bool) → zero_nodes s a m ≡ b → b ≡ false
    go true e = absurd (false≢true (sym z ∙ zero_each s a m e k g l))
    go false e = refl

pub zero_split : (s : List ℕ) (i a b : ℕ) → zero_nodes s i (a + b) ≡ (zero_nodes s i a && zero_nodes s (i + a) b)
unfolding zero_nodes
zero_split s i zero b = rw (zero-add b, add-zero i)
zero_split s i (suc a) b =
    let e : i + 1 + a ≡ i + suc a = omega arith in
    rw (suc-add, zero_split s (i + 1) a b, e, and_assoc)
