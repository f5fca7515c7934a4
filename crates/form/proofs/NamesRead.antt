-- Reading on within a name: where each letter leads in the table of names, and what stands behind a name's bracket.
use Prim.Native.Nat.{ℕ, zero, suc, ◌+◌, ◌-◌, ◌/◌, ◌%◌, ◌≤◌, ◌<◌}
use mathlib.Core.Bool.{Bool, true, false, cond, ◌&&◌, ◌||◌, false≢true}
use mathlib.Core.Path.{◌≡◌, refl, sym, ap, ◌∙◌}
use mathlib.Core.List.{List, [], ◌∷◌, ◌++◌}
use native.Mathlib.Omega.{arith}
use lib.Dec.{eqb, ltb, leb}
use lib.ListN.{get_or, drop}
use borrow.Author.Tests.{eqb-true, eqb-false, eq-eqb, ne_eqb, leb-true, ltb-true, ltb-false, le-ltb}
use Rattle.form.specs.Names.{form_of}
use Rattle.form.specs.Inside.Rows.{names, code_at, row_at, form_row, form_count, long, name_end, same, codes_of, cut, codes, opens}
use Rattle.form.specs.Inside.Rows.{in_name, first_name, home, codes_from, letters, agree, place_from, place_of}
use Rattle.form.proofs.ComputedTests.{both, all, all_at, same_list}
use Rattle.form.proofs.Rows.{behind}

cut_at : (l : List ℕ) (p : ℕ) → cut (drop p l) ≡ cond (eqb (get_or l p 0) 0) [] (get_or l p 0 ∷ cut (drop (suc p) l))
unfolding cut
cut_at [] zero = refl
cut_at [] (suc p) = refl
cut_at (x ∷ l) zero = refl
cut_at (x ∷ l) (suc p) = cut_at l p

pub codes_at : (p : ℕ) → codes p ≡ cond (eqb (code_at p) 0) [] (code_at p ∷ codes (suc p))
unfolding code_at codes
codes_at p = cut_at names p

pub codes_end : (p : ℕ) → code_at p ≡ 0 → codes p ≡ []
codes_end p e = rw (codes_at p, eq-eqb (code_at p) 0 e)

pub codes_more : (p : ℕ) → (code_at p ≡ 0 → ⊥) → codes p ≡ code_at p ∷ codes (suc p)
codes_more p e = codes_at p ∙ rw (ne_eqb (code_at p) 0 e)

pub in_names : (p : ℕ) → (code_at p ≡ 0 → ⊥) → p < long
in_names p e = go (ltb p long) refl
  where
    go : (b : Bool) → ltb p long ≡ b → p < long
    go true h = ltb-true p long h
    go false h = absurd (e (behind p (ltb-false p long h)))

-- a test of each place with the code x
unfoldable pub at_code : ℕ → (ℕ → Bool) → ℕ → Bool
at_code x f p = cond (eqb (code_at p) x) (f p) true

pub by_code : (x : ℕ) (f : ℕ → Bool) → (x ≡ 0 → ⊥) → all long (at_code x f) ≡ true → (p : ℕ) → code_at p ≡ x → f p ≡ true
unfolding at_code
by_code x f z a p e = simp (eq-eqb (code_at p) x e) at (all_at long (at_code x f) a p (in_names p (λ o. z (sym e ∙ o))))

-- a place in a name
pub home_in : (p : ℕ) → in_name (home p) ≡ true
unfolding in_name
home_in p = go (in_name p) refl
  where
    go : (b : Bool) → in_name p ≡ b → in_name (cond b p first_name) ≡ true
    go true e = e
    go false e = refl

module _ (p : ℕ) (h : in_name p ≡ true) where
  pub name_code : code_at p ≡ 0 → ⊥
  unfolding in_name opens
  name_code e = false≢true (rw (codes_end p e) at h)

  -- before the bracket the name goes on
  pub name_on : (code_at p ≡ 40 → ⊥) → in_name (suc p) ≡ true
  unfolding in_name opens
  name_on e = rw (codes_more p name_code, ne_eqb (code_at p) 40 e) at h

  pub not_first : p ≡ 0 → ⊥
  unfolding in_name
  not_first e = false≢true (rw e at h)

-- behind a place that is in no name there is none either, up to the row's end
pub out_on : (p : ℕ) → in_name p ≡ false → (code_at p ≡ 0 → ⊥) → in_name (suc p) ≡ false
unfolding in_name opens
out_on p h e = go (eqb (code_at p) 40) (opens (codes (suc p))) (rw (codes_more p e) at h)
  where
    go : (s t : Bool) → s || t ≡ false → t ≡ false
    go true t f = absurd (false≢true (sym f))
    go false t f = f

-- a name has letters only, and behind its bracket there is none
unfoldable lettered : ℕ → Bool
lettered p = cond (in_name p) (ltb (code_at p) 128) true

pub name_letter : (p : ℕ) → in_name p ≡ true → code_at p < 128
unfolding all lettered code_at in_name
name_letter p h = ltb-true _ 128 (rw h at (all_at long lettered refl p (in_names p (name_code p h))))

unfoldable from_first : ℕ → Bool
from_first p = cond (in_name p) (leb first_name p) true

pub name_from : (p : ℕ) → in_name p ≡ true → first_name ≤ p
unfolding all from_first in_name
name_from p h = leb-true first_name p (rw h at (all_at long from_first refl p (in_names p (name_code p h))))

pub symbol_out : (p : ℕ) → 128 ≤ code_at p → in_name p ≡ false
symbol_out p h = go (in_name p) refl
  where
    go : (b : Bool) → in_name p ≡ b → b ≡ false
    go true e = let l = name_letter p e in absurd (omega arith)
    go false e = refl

pub end_out : (p : ℕ) → code_at p ≡ 0 → in_name p ≡ false
unfolding in_name opens
end_out p e = rw (codes_end p e)

-- nor is there one behind a symbol
pub behind_symbol : (p : ℕ) → 128 ≤ code_at (p - 1) → in_name p ≡ false
unfolding in_name
behind_symbol zero h = refl
behind_symbol (suc p) h =
    let e : suc p - 1 ≡ p = omega arith in
    let g : 128 ≤ code_at p = rw e at h in
    out_on p (symbol_out p g) (λ z. omega arith)

unfoldable shut_at : ℕ → Bool
shut_at p = cond (in_name (suc p)) false true

pub behind_out : (p : ℕ) → code_at p ≡ 40 → in_name (suc p) ≡ false
unfolding all at_code code_at in_name shut_at
behind_out p e = go (in_name (suc p)) (by_code 40 shut_at (λ z. omega arith) refl p e)
  where
    go : (b : Bool) → cond b false true ≡ true → b ≡ false
    go true f = absurd (false≢true f)
    go false f = refl

-- each row ends with a zero
unfoldable ended : ℕ → Bool
ended p = cond (eqb (p % 20) 19) (eqb (code_at p) 0) true

pub column : (p : ℕ) → (code_at p ≡ 0 → ⊥) → p % 20 < 19
unfolding all ended code_at
column p e = go (eqb (p % 20) 19) refl (all_at long ended refl p (in_names p e))
  where
    go : (b : Bool) → eqb (p % 20) 19 ≡ b → cond b (eqb (code_at p) 0) true ≡ true → p % 20 < 19
    go true f g = absurd (e (eqb-true _ 0 g))
    go false f g = let n = eqb-false (p % 20) 19 f in omega arith

pub edge : (p : ℕ) → p % 20 ≡ 19 → code_at p ≡ 0
edge p h = go (eqb (code_at p) 0) refl
  where
    go : (b : Bool) → eqb (code_at p) 0 ≡ b → code_at p ≡ 0
    go true e = eqb-true _ 0 e
    go false e = let l = column p (eqb-false _ 0 e) in absurd (omega arith)

-- the letters, one by one
one_more : (n a : ℕ) → codes_from (suc n) a ≡ codes_from n a ++ (code_at (a + n) ∷ [])
unfolding codes_from
one_more zero a = let e : a + 0 ≡ a = omega arith in rw e
one_more (suc n) a = let e : a + suc n ≡ suc a + n = omega arith in rw e (ap (λ l. code_at a ∷ l) (one_more n (suc a)))

pub letters_on : (p : ℕ) → p % 20 < 19 → letters (suc p) ≡ letters p ++ (code_at p ∷ [])
unfolding letters
letters_on p h =
    let e : suc p % 20 ≡ suc (p % 20) = omega arith in
    let f : suc p - suc (p % 20) ≡ p - p % 20 = omega arith in
    let g : p - p % 20 + p % 20 ≡ p = omega arith in
    rw (e, f) (one_more (p % 20) (p - p % 20) ∙ rw g)

agrees : (n a c : ℕ) → agree n a c ≡ true → codes_from n a ≡ codes_from n c
unfolding agree codes_from
agrees zero a c e = refl
agrees (suc n) a c e =
    let x = eqb-true (code_at a) (code_at c) (both {a = eqb (code_at a) (code_at c)} e).0 in
    let l = agrees n (suc a) (suc c) (both {a = eqb (code_at a) (code_at c)} e).1 in
    rw (x, l)

pub agree_at : (n a c j : ℕ) → agree n a c ≡ true → j < n → code_at (a + j) ≡ code_at (c + j)
unfolding agree
agree_at zero a c j e h = absurd (omega arith)
agree_at (suc n) a c zero e h =
    let x : a + 0 ≡ a = omega arith in
    let y : c + 0 ≡ c = omega arith in
    rw (x, y) (eqb-true _ _ (both {b = agree n (suc a) (suc c)} e).0)
agree_at (suc n) a c (suc j) e h =
    let x : a + suc j ≡ suc a + j = omega arith in
    let y : c + suc j ≡ suc c + j = omega arith in
    rw (x, y) (agree_at n (suc a) (suc c) j (both {a = eqb (code_at a) (code_at c)} e).1 (omega arith))

-- the row in which another letter was found
pub record Found (r n p b q : ℕ) : Type 0 where
  pub row : ℕ
  pub from : r ≤ row
  pub below : row < r + n
  pub place_is : q ≡ row_at row + p % 20
  pub code_is : code_at q ≡ b
  pub alike : agree (p % 20) (p - p % 20) (row_at row) ≡ true

later : {r n p b q : ℕ} → Found (suc r) n p b q → Found r (suc n) p b q
later o =
    record { row = o.row; from = omega arith; below = omega arith; place_is = o.place_is; code_is = o.code_is; alike = o.alike }

pub found : (n r p b : ℕ) → (place_from n r p b ≡ 0 → ⊥) → Found r n p b (place_from n r p b)
unfolding place_from
found zero r p b z = absurd (z refl)
found (suc n) r p b z =
    go (eqb b (code_at q)) refl (agree (p % 20) (p - p % 20) (row_at r)) refl z (λ y. later (found n (suc r) p b y))
  where
    q : ℕ
    q = row_at r + p % 20

    go : (s : Bool) → eqb b (code_at q) ≡ s → (t : Bool) → agree (p % 20) (p - p % 20) (row_at r) ≡ t
        → (cond (s && t) q (place_from n (suc r) p b) ≡ 0 → ⊥)
        → ((place_from n (suc r) p b ≡ 0 → ⊥) → Found r (suc n) p b (place_from n (suc r) p b))
        → Found r (suc n) p b (cond (s && t) q (place_from n (suc r) p b))
    go true e true f y k =
        record { row = r; from = omega arith; below = omega arith; place_is = refl; code_is = sym (eqb-true b (code_at q) e); alike = f }
    go true e false f y k = k y
    go false e t f y k = k y

-- a row that begins as another has a name as long as that
unfoldable alike_at : ℕ → ℕ → Bool
alike_at p j = cond (agree (p % 20) (p - p % 20) (row_at (form_row j))) (in_name (row_at (form_row j) + p % 20)) true

unfoldable alike_all : ℕ → Bool
alike_all p = cond (in_name p) (all form_count (alike_at p)) true

named_alike : (p j : ℕ) → in_name p ≡ true → j < form_count → agree (p % 20) (p - p % 20) (row_at (form_row j)) ≡ true
    → in_name (row_at (form_row j) + p % 20) ≡ true
unfolding all alike_at alike_all in_name agree
named_alike p j h l e =
    let a : all form_count (alike_at p) ≡ true = rw h at (all_at long alike_all refl p (in_names p (name_code p h))) in
    rw e at (all_at form_count (alike_at p) a j l)

-- where a byte is read in a name: it stands there, and the same letters before it
pub record Read (p b q : ℕ) : Type 0 where
  pub code_is : code_at q ≡ b
  pub within_name : in_name q ≡ true
  pub letters_are : letters q ≡ letters p

pub read_other : (p b q : ℕ) → in_name p ≡ true → Found (form_row 0) form_count p b q → Read p b q
unfolding letters
read_other p b q h o =
    let k : ℕ = p % 20 in
    let s : form_row (o.row - 6) ≡ o.row = omega arith in
    let l : o.row - 6 < form_count = omega arith in
    let a : agree k (p - k) (row_at (form_row (o.row - 6))) ≡ true = rw s o.alike in
    let m : (row_at o.row + k) % 20 ≡ k = omega arith in
    let d : row_at o.row + k - k ≡ row_at o.row = omega arith in
    record {
      code_is = o.code_is;
      within_name = rw o.place_is (rw s at (named_alike p (o.row - 6) h l a));
      letters_are = rw (o.place_is, m, d) (sym (agrees k (p - k) (row_at o.row) o.alike));
    }

pub read : (p b : ℕ) → in_name p ≡ true → (place_of p b ≡ 0 → ⊥) → Read p b (place_of p b)
unfolding place_of
read p b h z = go (eqb b (code_at p)) refl z
  where
    go : (s : Bool) → eqb b (code_at p) ≡ s → (cond s p (place_from form_count (form_row 0) p b) ≡ 0 → ⊥)
        → Read p b (cond s p (place_from form_count (form_row 0) p b))
    go true e y = record { code_is = sym (eqb-true b (code_at p) e); within_name = h; letters_are = refl }
    go false e y = read_other p b _ h (found form_count (form_row 0) p b y)

-- a bracket ends the name of its row
unfoldable bracketed : ℕ → Bool
bracketed q =
    (leb 6 (q / 20) && ltb (q / 20 - 6) form_count)
    && (eqb (suc q) (name_end (form_row (q / 20 - 6))) && same (letters q) (form_of (q / 20 - 6)).name)

pub record Opened (q : ℕ) : Type 0 where
  pub form : ℕ
  pub known : form < form_count
  pub row_is : q / 20 - 6 ≡ form
  pub end_is : suc q ≡ name_end (form_row form)
  pub name_is : letters q ≡ (form_of form).name

pub opened : (q : ℕ) → code_at q ≡ 40 → Opened q
unfolding all at_code bracketed code_at name_end same letters form_of
opened q e =
    let k : ℕ = q / 20 - 6 in
    let t : bracketed q ≡ true = by_code 40 bracketed (λ z. omega arith) refl q e in
    let u = both {a = leb 6 (q / 20) && ltb k form_count} t in
    let v = both {a = eqb (suc q) (name_end (form_row k))} u.1 in
    record {
      form = k;
      known = ltb-true k form_count (both {a = leb 6 (q / 20)} u.0).1;
      row_is = refl;
      end_is = eqb-true _ _ v.0;
      name_is = same_list _ _ v.1;
    }

-- what stands behind the name of each form is what the table says
unfoldable filled_in : ℕ → Bool
filled_in k = same (codes (name_end (form_row k))) (codes_of (form_of k).inside)

pub codes_inside : (k : ℕ) → k < form_count → codes (name_end (form_row k)) ≡ codes_of (form_of k).inside
unfolding all filled_in codes name_end codes_of same form_of
codes_inside k h = same_list _ _ (all_at form_count filled_in refl k h)

-- behind its bracket no other row begins as its own does
unfoldable sole_at : ℕ → ℕ → Bool
sole_at p j = cond (agree (p % 20) (p - p % 20) (row_at (form_row j))) (eqb (row_at (form_row j) + p % 20) p) true

unfoldable sole_all : ℕ → Bool
sole_all p = cond (in_name p) true (cond (ltb p first_name) true (cond (eqb (code_at p) 0) true (all form_count (sole_at p))))

pub sole : (p b : ℕ) → in_name p ≡ false → first_name ≤ p → (code_at p ≡ 0 → ⊥) → (b ≡ code_at p → ⊥) → place_from form_count (form_row 0) p b ≡ 0
unfolding all sole_at sole_all in_name agree code_at
sole p b h l e n = go (eqb (place_from form_count (form_row 0) p b) 0) refl
  where
    a : all form_count (sole_at p) ≡ true
    a = simp (h, le-ltb p first_name l, ne_eqb (code_at p) 0 e) at (all_at long sole_all refl p (in_names p e))

    other : {q : ℕ} → Found (form_row 0) form_count p b q → ⊥
    other {q} o =
        let s : form_row (o.row - 6) ≡ o.row = omega arith in
        let i : agree (p % 20) (p - p % 20) (row_at (form_row (o.row - 6))) ≡ true = rw s o.alike in
        let t : eqb (row_at (form_row (o.row - 6)) + p % 20) p ≡ true = rw i at (all_at form_count (sole_at p) a (o.row - 6) (omega arith)) in
        let k : q ≡ p = o.place_is ∙ (rw s at (eqb-true _ p t)) in
        n (sym o.code_is ∙ ap code_at k)

    go : (s : Bool) → eqb (place_from form_count (form_row 0) p b) 0 ≡ s → place_from form_count (form_row 0) p b ≡ 0
    go true f = eqb-true _ 0 f
    go false f = absurd (other (found form_count (form_row 0) p b (eqb-false _ 0 f)))
