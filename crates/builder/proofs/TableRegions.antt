-- Regions of the table's bytes and what is written beside, in front of and in them.
use Prim.Native.Nat.{ℕ, suc, ◌+◌, ◌-◌, ◌≤◌, ◌<◌}
use mathlib.Core.Path.{◌≡◌, refl, sym, ap, ◌∙◌}
use mathlib.Core.List.{List, [], ◌∷◌, ◌++◌, append_assoc, append-nil}
use native.Mathlib.Nat.{add-suc}
use native.Mathlib.Omega.{arith}
use lib.ListN.{length, set, take, drop, length-append, length-set}
use lib.Seq.{sets, sets-eq, length-sets, set-append_left, take_at, drop_at, drop-length, length-take-le, drop-drop}
use Rattle.builder.specs.Building.{Region}

-- a run of stores to the left part of two
pub sets_left : (w x y : List ℕ) (i : ℕ) → i + length w ≤ length x → sets (x ++ y) i w ≡ sets x i w ++ y
sets_left [] x y i h = refl
sets_left (a ∷ w) x y i h =
    let b : i < length x = omega arith in
    let l : suc i + length w ≤ length (set x i a) = rw (length-set x i a) (omega arith) in
    rw (set-append_left x y i a b) (sets_left w (set x i a) y (suc i) l)

set_right : (x y : List ℕ) (i a : ℕ) → set (x ++ y) (length x + i) a ≡ x ++ set y i a
set_right [] y i a = let e : 0 + i ≡ i = omega arith in rw e
set_right (b ∷ x) y i a = let e : suc (length x) + i ≡ suc (length x + i) = omega arith in rw e (ap (λ l. b ∷ l) (set_right x y i a))

-- and to the right part
pub sets_right : (w x y : List ℕ) (i : ℕ) → sets (x ++ y) (length x + i) w ≡ x ++ sets y i w
sets_right [] x y i = refl
sets_right (a ∷ w) x y i = rw (set_right x y i a, ← add-suc (length x) i) (sets_right w x (set y i a) (suc i))

-- a run of stores that ends where the list does
sets_end : (w x : List ℕ) (i : ℕ) → i + length w ≡ length x → sets x i w ≡ take i x ++ w
sets_end w x i e =
    let d : drop (i + length w) x ≡ [] = ap (λ n. drop n x) e ∙ drop-length x in
    sets-eq w x i (omega arith) ∙ rw (d, append-nil)

module _ {t l : List ℕ} {a b : ℕ} (r : Region t a b l) where
  -- in front
  pub put_front : (w : List ℕ) (i : ℕ) → i + length w ≡ a → Region (sets t i w) i b (w ++ l)
  put_front w i e =
      let h : i + length w ≡ length r.before = omega arith in
      record {
        before = take i r.before;
        behind = r.behind;
        parts =
            rw (r.parts, sets_left w r.before (l ++ r.behind) i (omega arith), sets_end w r.before i h)
            (simp append_assoc);
        begins = length-take-le i r.before (omega arith);
        ends = simp length-append (omega arith);
      }

  -- before it
  pub put_before : (w : List ℕ) (i : ℕ) → i + length w ≤ a → Region (sets t i w) a b l
  put_before w i h =
      let f = r.begins in
      record {
        before = sets r.before i w;
        behind = r.behind;
        parts = rw r.parts (sets_left w r.before (l ++ r.behind) i (omega arith));
        begins = length-sets r.before i w ∙ f;
        ends = r.ends;
      }

  -- behind it
  pub put_behind : (w : List ℕ) (i : ℕ) → b ≤ i → Region (sets t i w) a b l
  put_behind w i h =
      let f = r.begins in
      let g = r.ends in
      let e : i ≡ length r.before + (length l + (i - b)) = omega arith in
      record {
        before = r.before;
        behind = sets r.behind (i - b) w;
        parts =
            ap (λ x. sets x i w) r.parts
            ∙ (ap (λ n. sets (r.before ++ (l ++ r.behind)) n w) e
            ∙ (sets_right w r.before (l ++ r.behind) (length l + (i - b))
            ∙ ap (λ x. r.before ++ x) (sets_right w l r.behind (i - b))));
        begins = f;
        ends = g;
      }

  -- in it
  pub put_inside : (w : List ℕ) (i k : ℕ) → i ≡ a + k → k + length w ≤ length l → Region (sets t i w) a b (sets l k w)
  put_inside w i k e h =
      let f = r.begins in
      let g : i ≡ length r.before + k = omega arith in
      record {
        before = r.before;
        behind = r.behind;
        parts =
            ap (λ x. sets x i w) r.parts
            ∙ (ap (λ n. sets (r.before ++ (l ++ r.behind)) n w) g
            ∙ (sets_right w r.before (l ++ r.behind) k ∙ ap (λ x. r.before ++ x) (sets_left w l r.behind k h)));
        begins = f;
        ends = ap (λ n. a + n) (length-sets l k w) ∙ r.ends;
      }

  pub region_start : a ≤ b
  region_start = omega arith

  pub region_end : b ≤ length t
  region_end = rw r.parts (simp length-append (omega arith))

  -- its bytes as a part of the slice
  pub region_is : take (b - a) (drop a t) ≡ l
  region_is =
      let f = r.begins in
      let e : length l ≡ b - a = omega arith in
      rw (r.parts, drop_at r.before (l ++ r.behind) a f) (take_at l r.behind (b - a) e)

-- a part that comes back is a run of stores
pub part_back :
    (t w : List ℕ) (a b : ℕ)
    → a ≤ b
    → b ≤ length t
    → length w ≡ b - a
    → take a t ++ (w ++ drop (b - a) (drop a t)) ≡ sets t a w
part_back t w a b h k e =
    let f : drop (b - a) (drop a t) ≡ drop (a + length w) t = drop-drop (b - a) a t ∙ ap (λ n. drop (a + n) t) (sym e) in
    rw (f, ← append_assoc (take a t) w (drop (a + length w) t)) (sym (sets-eq w t a (omega arith)))

-- all of a list is stored anew
pub sets_all : (w l : List ℕ) → length w ≡ length l → sets l 0 w ≡ w
sets_all w l e =
    let d : drop (0 + length w) l ≡ [] = ap (λ n. drop n l) (let z : 0 + length w ≡ length l = omega arith in z) ∙ drop-length l in
    sets-eq w l 0 (omega arith) ∙ rw d (append-nil w)
