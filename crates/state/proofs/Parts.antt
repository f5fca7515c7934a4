-- The bytes of a term: how many they are, which are a fresh term's, and the part of them that a child is lent.
use Prim.Native.Nat.{ℕ, suc, ◌+◌, ◌-◌, ◌*◌, ◌≤◌}
use mathlib.Core.Path.{◌≡◌, refl, ap, ◌∙◌}
use mathlib.Core.List.{List, [], ◌∷◌, ◌++◌}
use native.Mathlib.Omega.{arith}
use lib.ListN.{length, get_or, drop, replicate, length-append, length-replicate}
use lib.ListN.{replicate-append-replicate}
use lib.Seq.{take_at, drop_at}
use borrow.Rule.Slice.PartMut.{mid_of, put_mid}
use Rattle.junior.specs.Program.{Program, Nothing, Stop, Atom, Seq, Par, Loop, Repeat, Generate, Await, When, Until, Control, Local, Freezable, If, size}
use Rattle.junior.specs.Term.{Term, done, nothing, stop, atom, generate, await, seq0, seq2, par, loop0, loop1}
use Rattle.junior.specs.Term.{repeat0, repeat1, when0, when1, when2, until0, until*, until2, control, local, freezable0, freezable*, if0, if1, if2, prog}
use Rattle.junior.specs.Term.{fresh}
use Rattle.table.proofs.Tree.{size_pos}
use Rattle.state.specs.StateBytes.{before, in_phase, zeros, below, state_bytes}

-- so many zeros: of all below a node
abbrev pub blank : ℕ → List ℕ
blank n = replicate (4 * n) 0

len_zeros : (p : Program) → length (zeros p) ≡ 4 * size p
len_zeros p = length-replicate (4 * size p) 0

pub len_bytes : (t : Term) → length (state_bytes t) ≡ 4 * size (prog t)
unfolding below prog size
len_bytes (done p) = simp length-replicate (omega (arith, size_pos p))
len_bytes nothing = refl
len_bytes stop = refl
len_bytes (atom a) = refl
len_bytes (generate s) = refl
len_bytes (await c) = refl
len_bytes (seq0 t q) = simp (length-append, len_zeros) (omega (arith, len_bytes t))
len_bytes (seq2 p t) = simp (length-append, len_zeros) (omega (arith, len_bytes t))
len_bytes (par α β t u) = simp length-append (omega (arith, len_bytes t, len_bytes u))
len_bytes (loop0 p) = simp len_zeros (omega arith)
len_bytes (loop1 t) = omega (arith, len_bytes t)
len_bytes (repeat0 n p) = simp len_zeros (omega arith)
len_bytes (repeat1 n k t) = omega (arith, len_bytes t)
len_bytes (when0 c p q) = simp (length-append, len_zeros) (omega arith)
len_bytes (when1 c t q) = simp (length-append, len_zeros) (omega (arith, len_bytes t))
len_bytes (when2 c p t) = simp (length-append, len_zeros) (omega (arith, len_bytes t))
len_bytes (until0 c t q) = simp (length-append, len_zeros) (omega (arith, len_bytes t))
len_bytes (until* c t q) = simp (length-append, len_zeros) (omega (arith, len_bytes t))
len_bytes (until2 c p t) = simp (length-append, len_zeros) (omega (arith, len_bytes t))
len_bytes (control s t) = omega (arith, len_bytes t)
len_bytes (local b s t) = omega (arith, len_bytes t)
len_bytes (freezable0 s t) = omega (arith, len_bytes t)
len_bytes (freezable* s t) = omega (arith, len_bytes t)
len_bytes (if0 v p q) = simp (length-append, len_zeros) (omega arith)
len_bytes (if1 v t q) = simp (length-append, len_zeros) (omega (arith, len_bytes t))
len_bytes (if2 v p t) = simp (length-append, len_zeros) (omega (arith, len_bytes t))

-- all zero: a node and all below it
pub blank_below : (n : ℕ) → before (in_phase 0) (blank n) ≡ blank (1 + n)
blank_below n = let e : 4 * (1 + n) ≡ suc (suc (suc (suc (4 * n)))) = omega arith in rw e

pub blank_both : (m n : ℕ) → blank m ++ blank n ≡ blank (m + n)
blank_both m n =
    let e : 4 * (m + n) ≡ 4 * m + 4 * n = omega arith in rw (e, replicate-append-replicate {A = ℕ} (4 * m) (4 * n) 0)

pub blank_two : (p q : Program) → before (in_phase 0) (zeros p ++ zeros q) ≡ blank (1 + size p + size q)
blank_two p q =
    let e : 1 + (size p + size q) ≡ 1 + size p + size q = omega arith in
    rw (blank_both (size p) (size q)) (blank_below (size p + size q) ∙ ap blank e)

-- a fresh term's bytes are zero
pub fresh_zeros : (p : Program) → state_bytes (fresh p) ≡ zeros p
unfolding below fresh size
fresh_zeros Nothing = refl
fresh_zeros Stop = refl
fresh_zeros (Atom a) = refl
fresh_zeros (Seq p q) = ap (λ l. before (in_phase 0) (l ++ zeros q)) (fresh_zeros p) ∙ blank_two p q
fresh_zeros (Par p q) =
    ap (λ l. before (in_phase 0) (l ++ state_bytes (fresh q))) (fresh_zeros p)
    ∙ (ap (λ l. before (in_phase 0) (zeros p ++ l)) (fresh_zeros q) ∙ blank_two p q)
fresh_zeros (Loop p) = blank_below (size p)
fresh_zeros (Repeat n p) = blank_below (size p)
fresh_zeros (Generate s) = refl
fresh_zeros (Await c) = refl
fresh_zeros (When c p q) = blank_two p q
fresh_zeros (Until c p q) = ap (λ l. before (in_phase 0) (l ++ zeros q)) (fresh_zeros p) ∙ blank_two p q
fresh_zeros (Control s p) = ap (λ l. before (in_phase 0) l) (fresh_zeros p) ∙ blank_below (size p)
fresh_zeros (Local s p) = ap (λ l. before (in_phase 0) l) (fresh_zeros p) ∙ blank_below (size p)
fresh_zeros (Freezable s p) = ap (λ l. before (in_phase 0) l) (fresh_zeros p) ∙ blank_below (size p)
fresh_zeros (If v p q) = blank_two p q

-- the phase and the flags of the node whose bytes a list begins with
abbrev pub own_phase : List ℕ → ℕ
own_phase l = get_or l 0 0

abbrev pub own_flags : List ℕ → ℕ
own_flags l = get_or l 1 0

-- a list's first four bytes, in front of others
abbrev pub own_of : List ℕ → List ℕ → List ℕ
own_of l r = own_phase l ∷ own_flags l ∷ get_or l 2 0 ∷ get_or l 3 0 ∷ r

pub own_below : (l : List ℕ) → 4 ≤ length l → l ≡ own_of l (drop 4 l)
own_below [] h = absurd (omega arith)
own_below (a ∷ []) h = absurd (omega arith)
own_below (a ∷ b ∷ []) h = absurd (omega arith)
own_below (a ∷ b ∷ c ∷ []) h = absurd (omega arith)
own_below (a ∷ b ∷ c ∷ d ∷ l) h = refl

-- the parts that a first child of n nodes and what stands behind it are lent, and the state when each is back
abbrev pub first_of : List ℕ → ℕ → List ℕ
first_of l n = mid_of 4 (4 + 4 * n - 4) l

abbrev pub with_first : List ℕ → ℕ → List ℕ → List ℕ
with_first l n s = put_mid 4 (4 + 4 * n - 4) l s

abbrev pub rest_of : List ℕ → ℕ → List ℕ
rest_of l n = mid_of (4 + 4 * n) (length l - (4 + 4 * n)) l

abbrev pub with_rest : List ℕ → ℕ → List ℕ → List ℕ
with_rest l n s = put_mid (4 + 4 * n) (length l - (4 + 4 * n)) l s

-- a part from byte a to byte e of a list, and the list with other bytes put there
module _ (l h x b : List ℕ) (split : l ≡ h ++ (x ++ b)) (a e : ℕ) (at_a : length h ≡ a) (at_e : a + length x ≡ e) where
  pub part_is : mid_of a (e - a) l ≡ x
  part_is = let n : length x ≡ e - a = omega arith in rw (split, drop_at h (x ++ b) a at_a) (take_at x b (e - a) n)

  pub put_is : (s : List ℕ) → put_mid a (e - a) l s ≡ h ++ (s ++ b)
  put_is s =
      let n : length x ≡ e - a = omega arith in
      rw (split, take_at h (x ++ b) a at_a, drop_at h (x ++ b) a at_a, drop_at x b (e - a) n)
