-- Bytes written into a room, one list behind the other.
use Prim.Native.Nat.{ℕ, ◌+◌, ◌-◌, ◌*◌, ◌≤◌, ◌<◌}
use mathlib.Core.Path.{◌≡◌, sym, ap, ◌∙◌}
use mathlib.Core.List.{List, [], ◌++◌, append_assoc, append-nil}
use native.Mathlib.Omega.{arith}
use lib.ListN.{length, take, drop, length-append, length-drop}
use lib.Seq.{length-take-le, drop-drop, take_at, drop_at}
use borrow.Rule.Slice.PartMut.{mid_of, put_mid}
use Rattle.table.specs.Records.{nodes, configurations, events, size_at}
use Rattle.table.specs.Bytes.{trailer}
use Rattle.table.specs.Part.{part_table, part_length}
use Rattle.table.specs.Inside.{Loaded}
use Rattle.table.proofs.Subtrees.{rooted, ends}
use Rattle.store.specs.Store.{two}
use Rattle.state.proofs.Parts.{part_is, put_is}
use Rattle.taking.specs.Inside.{behind_nodes}

-- the part of s from byte `from` to byte e, n bytes, in front of a room
pub copied : (s room r : List ℕ) (from e n : ℕ) → e - from ≡ n → from + n ≤ length s
    → r ≡ mid_of from (e - from) s ++ drop (length (mid_of from (e - from) s)) room
    → r ≡ take n (drop from s) ++ drop n room
copied s room r from e n h l c =
    let a : length (take n (drop from s)) ≡ n = length-take-le n (drop from s) (simp length-drop (omega arith)) in
    rw (h, a) at c

-- numbers of 16 bits written one behind the other from a room's first byte on
pub word_behind : (r r' room a : List ℕ) (k x : ℕ) → length a ≡ k → r ≡ a ++ drop k room → r' ≡ take k r ++ (two x ++ drop (k + 2) r)
    → r' ≡ (a ++ two x) ++ drop (k + 2) room
word_behind r r' room a k x long is next =
    let front : take k r ≡ a = ap (take k) is ∙ take_at a (drop k room) k long in
    let back : drop (k + 2) r ≡ drop (k + 2) room =
    sym (drop-drop 2 k r) ∙ (ap (λ (l : List ℕ). drop 2 (drop k l)) is ∙ (ap (drop 2) (drop_at a (drop k room) k long) ∙ drop-drop 2 k room))
    in
    next ∙ (rw (front, back) (sym (append_assoc a (two x) (drop (k + 2) room))))

-- a stands in front of a room; b is written behind it
module _ (a room r : List ℕ) (k : ℕ) (long : length a ≡ k) (is : r ≡ a ++ drop k room) where
  split : r ≡ a ++ (drop k room ++ [])
  split = is ∙ ap (λ (l : List ℕ). a ++ l) (sym (append-nil (drop k room)))

  all : k ≤ length room → length r ≡ length room
  all h = ap length is ∙ simp (length-append, length-drop) (omega arith)

  behind_end : k ≤ length room → k + length (drop k room) ≡ length r
  behind_end h = simp length-drop (omega (arith, all h))

  pub part_behind : k ≤ length room → mid_of k (length r - k) r ≡ drop k room
  part_behind h = part_is r a (drop k room) [] split k (length r) long (behind_end h)

  pub written_behind : k ≤ length room → (b s : List ℕ) (q : ℕ) → s ≡ b ++ drop q (mid_of k (length r - k) r)
      → put_mid k (length r - k) r s ≡ (a ++ b) ++ drop (k + q) room
  written_behind h b s q e =
      let f = rw (part_behind h, drop-drop q k room) at e in
      put_is r a (drop k room) [] split k (length r) long (behind_end h) s
      ∙ (ap (λ (l : List ℕ). a ++ l) (append-nil s ∙ f) ∙ sym (append_assoc a b _))

-- what is left of a room behind its first k bytes
pub behind_long : (room r : List ℕ) (k q : ℕ) → length r ≡ length room → k + q ≤ length room → q ≤ length (mid_of k (length r - k) r)
behind_long room r k q e h =
    let long : length (mid_of k (length r - k) r) ≡ length r - k = length-take-le (length r - k) (drop k r) (simp length-drop (omega arith)) in
    omega arith

-- the part of a table at node j: its nodes, then what stands behind them
module _ {t : List ℕ} (l : Loaded t) where
  pub part_ends : (j : ℕ) → j < nodes t → j + size_at t j ≤ nodes t
  part_ends j h = ends (rooted l) j h

  pub rest_begins : length t - 10 - 4 * configurations t ≡ 6 * nodes t
  rest_begins = omega (arith, l.framed.long)

  pub nodes_long : (j : ℕ) → j < nodes t → length (take (6 * size_at t j) (drop (6 * j) t)) ≡ 6 * size_at t j
  nodes_long j h = length-take-le (6 * size_at t j) (drop (6 * j) t) (simp length-drop (omega (arith, part_ends j h, l.framed.long)))

  pub configurations_long : length (take (4 * configurations t) (drop (6 * nodes t) t)) ≡ 4 * configurations t
  configurations_long = length-take-le (4 * configurations t) (drop (6 * nodes t) t) (simp length-drop (omega (arith, l.framed.long)))

  pub nodes_fit : (j n : ℕ) → j < nodes t → n ≡ size_at t j → (room : List ℕ) → part_length t j ≤ length room
      → length (mid_of (6 * j) (6 * (j + n) - 6 * j) t) ≤ length room
  nodes_fit j n h e room fits =
      let span : 6 * (j + n) - 6 * j ≡ 6 * size_at t j = omega arith in
      rw span (omega (arith, nodes_long j h))

  pub configurations_fit : (m : ℕ) → m ≡ configurations t → (room : List ℕ) → 4 * configurations t + 10 ≤ length room
      → length (mid_of (length t - 10 - 4 * m) (length t - 10 - (length t - 10 - 4 * m)) t) ≤ length room
  configurations_fit m e room fits =
      let from : length t - 10 - 4 * m ≡ 6 * nodes t = omega (arith, rest_begins) in
      let span : length t - 10 - 6 * nodes t ≡ 4 * configurations t = omega (arith, l.framed.long) in
      rw (from, span) (omega (arith, configurations_long))

  -- the nodes are copied, r being the room then, and the rest is written behind them
  pub table_written : (j n : ℕ) → j < nodes t → n ≡ size_at t j → (room r s : List ℕ) → part_length t j ≤ length room
      → r ≡ mid_of (6 * j) (6 * (j + n) - 6 * j) t ++ drop (length (mid_of (6 * j) (6 * (j + n) - 6 * j) t)) room
      → s ≡ behind_nodes t n ++ drop (4 * configurations t + 10) (mid_of (6 * n) (length r - 6 * n) r)
      → put_mid (6 * n) (length r - 6 * n) r s ≡ part_table t j ++ drop (part_length t j) room
  unfolding part_table
  table_written j n h e room r s fits first then =
      let span : 6 * (j + n) - 6 * j ≡ 6 * n = omega arith in
      let inside : 6 * j + 6 * n ≤ length t = omega (arith, part_ends j h, l.framed.long) in
      let is = copied t room r (6 * j) (6 * (j + n)) (6 * n) span inside first in
      let long : length (take (6 * n) (drop (6 * j) t)) ≡ 6 * n = rw e (nodes_long j h) in
      let all : 6 * n + (4 * configurations t + 10) ≡ 6 * n + 4 * configurations t + 10 = omega arith in
      let done = written_behind (take (6 * n) (drop (6 * j) t)) room r (6 * n) long is (omega arith) (behind_nodes t n) s (4 * configurations t + 10) then in
      rw (← e) (rw all at done)

  -- the configurations are copied, and the trailer is written behind them
  pub rest_written : (n m v : ℕ) → m ≡ configurations t → v ≡ events t → (room r s : List ℕ) → 4 * configurations t + 10 ≤ length room
      → r ≡ mid_of (length t - 10 - 4 * m) (length t - 10 - (length t - 10 - 4 * m)) t
      ++ drop (length (mid_of (length t - 10 - 4 * m) (length t - 10 - (length t - 10 - 4 * m)) t)) room
      → s ≡ trailer n m v (6 * n + 4 * m) (4 * m) ++ drop 10 (mid_of (4 * m) (length r - 4 * m) r)
      → put_mid (4 * m) (length r - 4 * m) r s ≡ behind_nodes t n ++ drop (4 * configurations t + 10) room
  rest_written n m v e f room r s fits first then =
      let from : length t - 10 - 4 * m ≡ 6 * nodes t = omega (arith, rest_begins) in
      let span : length t - 10 - (length t - 10 - 4 * m) ≡ 4 * m = omega (arith, l.framed.long) in
      let inside : length t - 10 - 4 * m + 4 * m ≤ length t = omega (arith, l.framed.long) in
      let is = rw from at (copied t room r (length t - 10 - 4 * m) (length t - 10) (4 * m) span inside first) in
      let long : length (take (4 * m) (drop (6 * nodes t) t)) ≡ 4 * m = rw e configurations_long in
      let done = written_behind (take (4 * m) (drop (6 * nodes t) t)) room r (4 * m) long is (omega arith) (trailer n m v (6 * n + 4 * m) (4 * m)) s 10 then in
      rw (← e, ← f) done
