-- The falling number of the cycle: every call goes to a smaller subtree, or to a lower rank at the same node.
use Prim.Native.Nat.{ℕ, ◌+◌, ◌*◌, ◌<◌}
use mathlib.Core.Path.{◌≡◌}
use mathlib.Core.List.{List}
use native.Mathlib.Omega.{arith}
use Rattle.table.specs.Records.{size_at}
use Rattle.steps.proofs.Children.{falling}

-- A node's falling number: its size first, then a rank at the node, that of `run_child` being the highest.
abbrev pub weigh : List ℕ → ℕ → ℕ → ℕ
weigh table i rank = 8 * size_at table i + rank

abbrev pub child_rank : ℕ
child_rank = 4

abbrev pub form_rank : ℕ
form_rank = 2

-- of what runs a child and nothing else at the node
abbrev pub last_rank : ℕ
last_rank = 0

pub lighter : {a b : ℕ} (rank lower : ℕ) {k : ℕ} → lower < 8 → b < a → 8 * a + rank ≡ k → 8 * b + lower < k
lighter rank lower c l e = omega arith

pub lower_rank : (n rank lower : ℕ) {k : ℕ} → lower < rank → n + rank ≡ k → n + lower < k
lower_rank n rank lower l e = omega arith

-- by the falling number of the laws over parts
pub smaller_by : (table : List ℕ) (i j : ℕ) → falling table j 3 < falling table i 1 → size_at table j < size_at table i
smaller_by table i j l = omega arith

-- from a node to its form, and from that to its last part
pub below_child : (n : ℕ) {k : ℕ} → n + child_rank ≡ k → n + form_rank < k
below_child n e = omega arith

pub below_form : (n : ℕ) {k : ℕ} → n + form_rank ≡ k → n + last_rank < k
below_form n e = omega arith

-- a smaller part can be run
pub falls_to : {a b : ℕ} {S : Type 0} (rank lower : ℕ) {k : ℕ} → lower < 8 → (b < a) × S → 8 * a + rank ≡ k → (8 * b + lower < k) × S
falls_to rank lower c (l, s) e = (lighter rank lower c l e, s)
