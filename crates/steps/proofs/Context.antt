-- A node's bytes in the whole state: a byte of them by its index, a child's bytes in its parent's, and the parent's when the child is back.
-- A child's surroundings are its parent's and its siblings: that is the whole framing.
use Prim.Native.Nat.{ℕ, suc, ◌+◌, ◌*◌, ◌≤◌, ◌<◌}
use mathlib.Core.Path.{◌≡◌, refl, ap, sym, ◌∙◌}
use mathlib.Core.List.{List, [], ◌∷◌, ◌++◌, append_assoc}
use native.Mathlib.Omega.{arith}
use native.Mathlib.Nat.{add-zero}
use lib.ListN.{length, get_or, take, drop, set, length-append, get_or-append}
use lib.Seq.{get_or-append-add, set-append_left, take_at, drop_at, length-take-le}
use borrow.Rule.Slice.PartMut.{mid_of, put_mid, put_same}
use Rattle.steps.specs.Lent.{Around}

-- a byte is written behind the first few
set_behind : (xs ys : List ℕ) (n a : ℕ) → set (xs ++ ys) (length xs + n) a ≡ xs ++ set ys n a
set_behind [] ys n a = let e : 0 + n ≡ n = omega arith in rw e
set_behind (x ∷ xs) ys n a =
    let e : length (x ∷ xs) + n ≡ suc (length xs + n) = omega arith in rw e (ap (λ (l : List ℕ). x ∷ l) (set_behind xs ys n a))

module _ {state : List ℕ} {i : ℕ} {before part behind : List ℕ} (o : Around state i before part behind) where
  pub byte_at : (k : ℕ) → k < length part → get_or state (4 * i + k) 0 ≡ get_or part k 0
  byte_at k l =
      rw (o.split, ← o.starts) (get_or-append-add before (part ++ behind) k 0 ∙ get_or-append part behind 0 k l)

  pub byte_in : (k : ℕ) → k < length part → 4 * i + k < length state
  byte_in k l =
      let n : length state ≡ length before + (length part + length behind) = ap length o.split ∙ simp length-append in
      omega (arith, o.starts)

  pub put_byte : (k v : ℕ) → k < length part → Around (set state (4 * i + k) v) i before (set part k v) behind
  put_byte k v l =
      record {
        split =
            rw (o.split, ← o.starts)
            (set_behind before (part ++ behind) k v ∙ ap (λ (x : List ℕ). before ++ x) (set-append_left part behind k v l));
        starts = o.starts;
      }

  -- the first byte, a node's phase
  pub phase_at_lem : 0 < length part → get_or state (4 * i) 0 ≡ get_or part 0 0
  phase_at_lem l = rw add-zero at (byte_at 0 l)

  pub phase_in : 0 < length part → 4 * i < length state
  phase_in l = rw add-zero at (byte_in 0 l)

  pub put_phase : (v : ℕ) → 0 < length part → Around (set state (4 * i) v) i before (set part 0 v) behind
  put_phase v l = rw add-zero at (put_byte 0 v l)

  -- a node's bytes, read and written anew
  pub part_there : mid_of (4 * i) (length part) state ≡ part
  part_there = rw (o.split, drop_at before (part ++ behind) (4 * i) o.starts, take_at part behind (length part) refl)

  pub put_part : (s : List ℕ) → Around (put_mid (4 * i) (length part) state s) i before s behind
  put_part s =
      let at = o.starts in
      record {
        split =
            rw (o.split, take_at before (part ++ behind) (4 * i) at, drop_at before (part ++ behind) (4 * i) at, drop_at part behind (length part) refl);
        starts = at;
      }

  -- the part of k bytes behind the first a is node j's, and comes back as s
  module _ (a k : ℕ) {j : ℕ} where
    pub inner : a ≤ length part → 4 * i + a ≡ 4 * j
        → Around state j (before ++ take a part) (mid_of a k part) (drop k (drop a part) ++ behind)
    inner l e =
        let n : length (before ++ take a part) ≡ length before + a = simp (length-append, length-take-le a part l) in
        record {
          split = o.split ∙ (ap (λ (x : List ℕ). before ++ (x ++ behind)) (sym (put_same a k part)) ∙ simp append_assoc);
          starts = n ∙ omega (arith, o.starts);
        }

    pub outer : {state' s : List ℕ} → Around state' j (before ++ take a part) s (drop k (drop a part) ++ behind)
        → Around state' i before (put_mid a k part s) behind
    outer r = record { split = r.split ∙ simp append_assoc; starts = o.starts }
