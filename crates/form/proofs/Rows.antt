-- The table of names in bytes: going along a row, and what each row says, by computed tests over the whole table.
use Prim.Native.Nat.{ℕ, zero, suc, ◌+◌, ◌-◌, ◌≤◌, ◌<◌}
use mathlib.Core.Bool.{Bool, true, false, cond, ◌&&◌, ◌||◌}
use mathlib.Core.Path.{◌≡◌, refl, sym, ap, ◌∙◌}
use mathlib.Core.List.{List, [], ◌∷◌, ◌++◌}
use native.Mathlib.Nat.{add-zero}
use native.Mathlib.Omega.{arith}
use lib.Dec.{eqb, leb}
use lib.ListN.{length, get_or, take, drop, get_or-eq_default}
use borrow.Author.Tests.{eqb-true, leb-true, eq-eqb, ne_eqb}
use Rattle.std.specs.Prelude.{None}
use Rattle.std.specs.List.{position, position_or_len}
use Rattle.std.proofs.lemmas.Grind.{common_steps}
use Rattle.std.proofs.lemmas.List.Sums.{fails_before_first}
use Rattle.letters.specs.Text.{bytes}
use Rattle.form.specs.Names.{form_of}
use Rattle.form.specs.Inside.Rows.{names, row_at, form_row, form_count, long, code_at, ends_name, behind_name, name_end, inside, starts, named}
use Rattle.form.specs.Inside.Rows.{word_row, form_from, form_in, pair_of, same}
use Rattle.form.proofs.ComputedTests.{both, all, all_at, same_list}

pub length_names : length names ≡ long
unfolding names
length_names = refl

-- nothing stands behind the table
pub behind : (p : ℕ) → long ≤ p → code_at p ≡ 0
unfolding code_at
behind p h = let l : length names ≤ p = rw length_names h in get_or-eq_default names 0 l

-- a text against a row, byte by byte
module _ (x b : ℕ) (l w : List ℕ) where
  pub starts_not : (b ≡ x → ⊥) → starts (x ∷ l) (b ∷ w) ≡ false
  unfolding starts
  starts_not e = rw (ne_eqb b x e)

  pub starts_ends : b ≡ x → ends_name x ≡ true → starts (x ∷ l) (b ∷ w) ≡ true
  unfolding starts
  starts_ends e f = rw (eq-eqb b x e, f)

  pub starts_on : b ≡ x → ends_name x ≡ false → starts (x ∷ l) (b ∷ w) ≡ starts l w
  unfolding starts
  starts_on e f = rw (eq-eqb b x e, f)

pub starts_over : (l w : List ℕ) → length l ≡ 0 → starts l w ≡ false
unfolding starts
starts_over [] w h = refl
starts_over (x ∷ l) w h = absurd (omega arith)

pub starts_out : (l w : List ℕ) → length w ≡ 0 → starts l w ≡ false
unfolding starts
starts_out [] w h = refl
starts_out (x ∷ l) [] h = refl
starts_out (x ∷ l) (b ∷ w) h = absurd (omega arith)

-- going along a row to the end of its name
pub behind_found : (p : ℕ) (l : List ℕ) (i : ℕ) → i < length l → ends_name (get_or l i 0) ≡ true
    → ((k : ℕ) → k < i → ends_name (get_or l k 0) ≡ false) → behind_name p l ≡ suc (p + i)
unfolding behind_name
behind_found p [] i h e f = absurd (omega arith)
behind_found p (x ∷ l) zero h e f = let z : suc (p + 0) ≡ suc p = omega arith in rw (e, z)
behind_found p (x ∷ l) (suc i) h e f =
    let z : suc (suc p + i) ≡ suc (p + suc i) = omega arith in
    let g : ends_name x ≡ false = f 0 (omega arith) in
    rw g (behind_found (suc p) l i (omega arith) e (λ k h. f (suc k) (omega arith)) ∙ z)

pub behind_none : (p : ℕ) (l : List ℕ) → ((k : ℕ) → k < length l → ends_name (get_or l k 0) ≡ false) → behind_name p l ≡ p + length l
unfolding behind_name
behind_none p [] f = omega arith
behind_none p (x ∷ l) f =
    let z : suc p + length l ≡ p + suc (length l) = omega arith in
    let g : ends_name x ≡ false = f 0 (omega arith) in
    rw g (behind_none (suc p) l (λ k h. f (suc k) (omega arith)) ∙ z)

pub none_passes : (p : ℕ → Bool) (l : List ℕ) → position p l ≡ None → (k : ℕ) → k < length l → p (get_or l k 0) ≡ false
none_passes p l e k h =
    let past : length l ≤ position_or_len p l = grind (arith, common_steps) in
    fails_before_first p l k 0 (omega arith)

behind_le : (p : ℕ) (l : List ℕ) → p ≤ behind_name p l
unfolding behind_name
behind_le p [] = omega arith
behind_le p (x ∷ l) = go (ends_name x) (behind_name (suc p) l) (behind_le (suc p) l)
  where
    go : (b : Bool) (n : ℕ) → suc p ≤ n → p ≤ cond b (suc p) n
    go true n h = omega arith
    go false n h = omega arith

-- a name ends behind its row's beginning
pub name_after : (r : ℕ) → row_at r ≤ name_end r
unfolding name_end
name_after r = behind_le (row_at r) (drop (row_at r) names)

-- the codes behind the name of a kind's form
module _ (k : ℕ) {n : ℕ} (is : n ≡ name_end (form_row k)) where
  pub code_behind : (j : ℕ) → code_at (n + j) ≡ inside k j
  unfolding inside
  code_behind j = rw is

  pub code_first : code_at n ≡ inside k 0
  code_first = ap code_at (sym (add-zero n)) ∙ code_behind 0

-- the search for a name, form by form
left_over : (k : ℕ) → k < form_count → form_count - k ≡ suc (form_count - suc k)
left_over k h = omega arith

module _ (w : List ℕ) (k : ℕ) where
  pub form_here : k < form_count → named (form_row k) w ≡ true → form_from (form_count - k) k w ≡ k
  unfolding form_from
  form_here h e = rw (left_over k h, e)

  pub form_next : k < form_count → named (form_row k) w ≡ false → form_from (form_count - k) k w ≡ form_from (form_count - suc k) (suc k) w
  unfolding form_from
  form_next h e = rw (left_over k h, e)

  pub form_none : form_count ≤ k → form_from (form_count - k) k w ≡ k
  unfolding form_from
  form_none h = let e : form_count - k ≡ 0 = omega arith in rw e

-- what the bytes say of form k, each by a test over all forms: its name and bracket stand before what is inside
unfoldable spelt : ℕ → Bool
spelt k = same (take (name_end (form_row k) - row_at (form_row k)) (drop (row_at (form_row k)) names)) ((form_of k).name ++ bytes "(")

pub name_there : (k : ℕ) → k < form_count
    → take (name_end (form_row k) - row_at (form_row k)) (drop (row_at (form_row k)) names) ≡ (form_of k).name ++ bytes "("
unfolding all spelt same names name_end form_of
name_there k h = same_list _ _ (all_at form_count spelt refl k h)

-- so far behind its row's beginning, and four codes more are in the table
unfoldable apart : ℕ → Bool
apart k = eqb (name_end (form_row k)) (row_at (form_row k) + (length (form_of k).name + 1)) && leb (name_end (form_row k)) (long - 4)

pub name_long : (k : ℕ) → k < form_count → name_end (form_row k) ≡ row_at (form_row k) + (length (form_of k).name + 1)
unfolding all apart name_end form_of
name_long k h = eqb-true _ _ (both {b = leb (name_end (form_row k)) (long - 4)} (all_at form_count apart refl k h)).0

pub name_low : (k : ℕ) → k < form_count → name_end (form_row k) ≤ (long - 4)
unfolding all apart name_end form_of
name_low k h = leb-true _ _ (both {a = eqb (name_end (form_row k)) (row_at (form_row k) + (length (form_of k).name + 1))} (all_at form_count apart refl k h)).1

-- a text that begins with a name is told by that alone
starts_only : (l u y : List ℕ) → starts l (u ++ (40 ∷ y)) ≡ starts l (u ++ (40 ∷ []))
unfolding starts ends_name
starts_only [] u y = refl
starts_only (x ∷ l) [] y = go (eqb 40 x) refl
  where
    go : (b : Bool) → eqb 40 x ≡ b → cond b (cond (eqb x 40 || eqb x 32) true (starts l y)) false ≡ cond b
        (cond (eqb x 40 || eqb x 32) true (starts l [])) false
    go true e = rw (← eqb-true 40 x e)
    go false e = refl
starts_only (x ∷ l) (b ∷ u) y = rw (starts_only l u y)

form_only : (n k : ℕ) (u y : List ℕ) → form_from n k (u ++ (40 ∷ y)) ≡ form_from n k (u ++ (40 ∷ []))
unfolding form_from
form_only zero k u y = refl
form_only (suc n) k u y = rw (starts_only (drop (row_at (form_row k)) names) u y, form_only n (suc k) u y)

unfoldable told : ℕ → Bool
told k = eqb (form_in ((form_of k).name ++ bytes "(")) k

-- a name tells its kind
pub form_told : (k : ℕ) → k < form_count → (y : List ℕ) → form_in ((form_of k).name ++ (40 ∷ y)) ≡ k
unfolding all told form_in form_of
form_told k h y = form_only form_count 0 (form_of k).name y ∙ eqb-true _ _ (all_at form_count told refl k h)

-- no word begins with these bytes
pub no_pair : (x : List ℕ) → get_or x 0 0 < 97 → pair_of x ≡ 0
unfolding pair_of
no_pair [] h = refl
no_pair (b ∷ x) h = rw (ne_eqb b 97 (λ e. omega arith), ne_eqb b 111 (λ e. omega arith))

pub no_not : (x : List ℕ) → get_or x 0 0 < 110 → named (word_row 1) x ≡ false
unfolding named
no_not [] h = refl
no_not (b ∷ x) h = rw (ne_eqb b 110 (λ e. omega arith))
