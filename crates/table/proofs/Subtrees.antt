-- The children of a node of a subtree of good records: where they stand, and that no subtree goes past the last node; a loaded table is such.
use Prim.Native.Nat.{ℕ, zero, suc, ◌+◌, ◌≤◌, ◌<◌}
use mathlib.Core.Bool.{true, ◌&&◌}
use mathlib.Core.Path.{◌≡◌, subst}
use mathlib.Core.List.{List}
use native.Mathlib.Omega.{arith}
use native.Mathlib.Decide.{ℕ_discrete, dec_lt}
use lib.Dec.{eqb, ltb}
use Rattle.table.specs.Records.{nodes, kind_at, zero_at, argument_at, size_at, second_child}
use Rattle.table.specs.Good.{is_laid_out, known, children, argument_limit, good_node}
use Rattle.table.specs.Inside.{Loaded, Rooted}
use Rattle.table.proofs.Laid.{both, Laid, none, one, two, laid}
use Rattle.table.proofs.Loaded.{root_size}

pub rooted : {t : List ℕ} → Loaded t → Rooted t (nodes t)
unfolding good_node
rooted {t} l = record { long = omega (arith, l.framed.long); whole = root_size l; fits = fits }
  where
    fits : (i : ℕ) → i < nodes t → (known (kind_at t i) && is_laid_out (size_at t) (nodes t) i (children (kind_at t i))) ≡ true
    fits i h =
        let (kind_known, more) = both {a = known (kind_at t i)} (l.nodes_good i h) in
        let (zero_so, more') = both {a = eqb (zero_at t i) 0} more in
        let (below, laid_so) = both {a = ltb (argument_at t i) (argument_limit t (kind_at t i))} more' in
        rw (kind_known, (both {a = is_laid_out (size_at t) (nodes t) i (children (kind_at t i))} laid_so).0)

module _ {t : List ℕ} {n : ℕ} (r : Rooted t n) where
  pub known_at : (i : ℕ) → i < n → known (kind_at t i) ≡ true
  known_at i h = (both {a = known (kind_at t i)} (r.fits i h)).0

  pub laid_there : (i : ℕ) → i < n → Laid (size_at t) n i (children (kind_at t i))
  laid_there i h = laid _ _ _ _ (both {a = known (kind_at t i)} (r.fits i h)).1

  pub starts : (i : ℕ) → i < n → 1 ≤ size_at t i
  starts i h = go (laid_there i h)
    where
      go : {c : ℕ} → Laid (size_at t) n i c → 1 ≤ size_at t i
      go (none s) = omega arith
      go (one m s) = omega arith
      go (two m m' s) = omega arith

  ends_by : (f i : ℕ) → n ≤ f + i → i < n → i + size_at t i ≤ n
  ends_by zero i g h = absurd (omega arith)
  ends_by (suc f) i g h = go (laid_there i h) (λ j x y. ends_by f j (omega arith) y)
    where
      go : {c : ℕ} → Laid (size_at t) n i c → ((j : ℕ) → i < j → j < n → j + size_at t j ≤ n) → i + size_at t i ≤ n
      go (none s) later = omega arith
      go (one m s) later = omega (arith, later (i + 1) (omega arith) m)
      go (two m m' s) later = omega (arith, later (second_child t i) (omega arith) m')

  pub ends : (i : ℕ) → i < n → i + size_at t i ≤ n
  ends i h = ends_by n i (omega arith) h

  -- a subtree lies within those around it
  nested_by : (f i : ℕ) → n ≤ f + i → i < n → (k : ℕ) → i ≤ k → k < i + size_at t i → k + size_at t k ≤ i + size_at t i
  nested_by zero i g h k a b = absurd (omega arith)
  nested_by (suc f) i g h k a b =
      go (children (kind_at t i)) (laid_there i h) (ℕ_discrete k i) (dec_lt k (second_child t i)) (λ j x y. nested_by f j (omega arith) y k)
    where
      go : (c : ℕ) → Laid (size_at t) n i c → Dec (k ≡ i) → Dec (k < second_child t i)
          → ((j : ℕ) → i < j → j < n → j ≤ k → k < j + size_at t j → k + size_at t k ≤ j + size_at t j)
          → k + size_at t k ≤ i + size_at t i
      go c l (yes e) d later = rw e (omega arith)
      go c (none s) (no e) d later = absurd (omega arith)
      go c (one n s) (no e) d later = omega (arith, later (i + 1) (omega arith) n (omega arith) (omega arith))
      go c (two n m s) (no e) (yes d) later = omega (arith, later (i + 1) (omega arith) n (omega arith) d)
      go c (two n m s) (no e) (no d) later =
          omega (arith, later (second_child t i) (omega arith) m (omega arith) (omega arith))

  pub nested : (i : ℕ) → i < n → (k : ℕ) → i ≤ k → k < i + size_at t i → k + size_at t k ≤ i + size_at t i
  nested i h = nested_by n i (omega arith) h

-- node i of n has one child
pub record Body (t : List ℕ) (n i : ℕ) : Type 0 where
  pub first_in : i + 1 < n
  pub sized : size_at t i ≡ 1 + size_at t (i + 1)

-- two
pub record Pair (t : List ℕ) (n i : ℕ) : Type 0 where
  pub first_in : i + 1 < n
  pub second_in : second_child t i < n
  pub sized : size_at t i ≡ 1 + size_at t (i + 1) + size_at t (second_child t i)

pub body : {t : List ℕ} {n : ℕ} → Rooted t n → (i : ℕ) → i < n → children (kind_at t i) ≡ 1 → Body t n i
body {t} {n} r i h e = go (subst (Laid (size_at t) n i) e (laid_there r i h))
  where
    go : Laid (size_at t) n i 1 → Body t n i
    go (one m s) = record { first_in = m; sized = s }

pub pair : {t : List ℕ} {n : ℕ} → Rooted t n → (i : ℕ) → i < n → children (kind_at t i) ≡ 2 → Pair t n i
pair {t} {n} r i h e = go (subst (Laid (size_at t) n i) e (laid_there r i h))
  where
    go : Laid (size_at t) n i 2 → Pair t n i
    go (two m m' s) = record { first_in = m; second_in = m'; sized = s }
