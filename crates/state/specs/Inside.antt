-- What the search for the lowest blamed node knows. Private contracts alone cite this file; no public one does.
use Rattle.std.specs.Prelude.{ℕ, ◌+◌, ◌-◌, ◌*◌, ◌≤◌, ◌<◌, Bool, true, false, ◌&&◌, ◌||◌, ◌≡◌, List, eqb, ltb, length}
use Rattle.table.specs.Records.{size_at, second_child}
use Rattle.table.specs.Inside.{Rooted}
use Rattle.state.specs.Resting.{phase_at, flags_at, count_at, zero_node, zero_nodes, rests}

-- a node's own bytes as one number
abbrev pub own : List ℕ → ℕ → ℕ
own s i = phase_at s i * 16777216 + flags_at s i * 65536 + count_at s i

-- r is that of node i, which tells each of them
pub record Number (s : List ℕ) (i r : ℕ) : Type 0 where
  pub is : r ≡ own s i
  pub phase_fits : phase_at s i < 256
  pub flags_fit : flags_at s i < 256
  pub count_fits : count_at s i < 65536

-- the number r is one TERM flag of node i, and that branch is in phase 3
abbrev pub one_ended : List ℕ → List ℕ → ℕ → ℕ → Bool
one_ended t s i r =
    (eqb r 131072 && eqb (phase_at s (i + 1)) 3) || (eqb r 524288 && eqb (phase_at s (second_child t i)) 3)

-- it is phase 1 and a count above 0 and below n
abbrev pub counted_below : ℕ → ℕ → Bool
counted_below r n = ltb 16777216 r && ltb r (16777216 + n)

-- r is the first of the nodes from i to n of which it doesn't hold; n if it holds of all
pub record First (holds : ℕ → Bool) (i n r : ℕ) : Type 0 where
  pub from : i ≤ r
  pub within : r ≤ n
  pub before : (k : ℕ) → i ≤ k → k < r → holds k ≡ true
  pub there : r < n → holds r ≡ false

-- the first from i on that has a byte other than zero; the first from i on that is to blame
abbrev pub Nearest : List ℕ → ℕ → ℕ → ℕ → Type 0
Nearest s i n near = First (zero_node s) i n near

abbrev pub Blamed : List ℕ → List ℕ → ℕ → ℕ → Type 0
Blamed t s i low = First (rests t s) i (size_at t 0) low

-- the nodes from r to near have no byte but zeros, and r is the first such
pub record ZeroFrom (s : List ℕ) (near r : ℕ) : Type 0 where
  pub within : r ≤ near
  pub zero : (k : ℕ) → r ≤ k → k < near → zero_node s k ≡ true
  pub first : 0 < r → zero_node s (r - 1) ≡ false

-- the same, but that only one of the two nodes before r has to have a byte other than zero
pub record TwosFrom (s : List ℕ) (near r : ℕ) : Type 0 where
  pub within : r ≤ near
  pub zero : (k : ℕ) → r ≤ k → k < near → zero_node s k ≡ true
  pub not_both : 1 < r → zero_node s (r - 1) ≡ true → zero_node s (r - 2) ≡ false

-- the first node that has a byte other than zero tells of m nodes from a on whether they are all zero, unless it stands before them
pub record Tells (s : List ℕ) (near a m : ℕ) : Type 0 where
  pub in_room : 4 * (a + m) ≤ length s
  pub all_zero : a + m ≤ near → zero_nodes s a m ≡ true
  pub not_zero : a ≤ near → near < a + m → zero_nodes s a m ≡ false

-- the nodes from i on of the subtree at node 0 can be judged: their state is there, and the first that isn't zero is known
pub record Judged (t s : List ℕ) (i near : ℕ) : Type 0 where
  pub rooted : Rooted t (size_at t 0)
  pub room : 4 * size_at t 0 ≤ length s
  pub nearest : Nearest s i (size_at t 0) near

-- node i can, by what stands behind it
pub record Judging (t s : List ℕ) (i near : ℕ) : Type 0 where
  pub inside : i < size_at t 0
  pub behind : Judged t s (i + 1) near
