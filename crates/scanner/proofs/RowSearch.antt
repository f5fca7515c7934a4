-- Searches in the table of names, step by step: for the row that goes on with a byte, and for the level that a name tells.
use Prim.Native.Nat.{ℕ, zero, suc, ◌+◌, ◌-◌, ◌%◌, ◌<◌, ◌≤◌}
use mathlib.Core.Bool.{Bool, true, false, ◌&&◌}
use mathlib.Core.Path.{◌≡◌, refl, ap}
use native.Mathlib.Omega.{arith}
use lib.Dec.{eqb}
use lib.ListN.{get_or, take, drop}
use lib.Seq.{drop-cons}
use lib.Pointwise.{pointwise}
use Rattle.form.specs.Inside.Rows.{names, long, row_at, form_row, form_count, code_at, name_end, agree, place_from}
use Rattle.form.proofs.Rows.{length_names}
use Rattle.scanner.specs.declared.levels.Level.TheVariants.{One}
use Rattle.scanner.specs.Levels.{level_in, level_from}

one_fewer : (n j : ℕ) → j < n → n - j ≡ suc (n - suc j)
one_fewer n j h = omega arith

none_left : (n j : ℕ) → n ≤ j → n - j ≡ 0
none_left n j h = omega arith

-- two parts of the table are the same where their codes agree
pub parts_agree : (n a c : ℕ) → a + n ≤ long → c + n ≤ long
    → pointwise eqb (take n (drop a names)) (take n (drop c names)) ≡ agree n a c
unfolding agree code_at
parts_agree zero a c h k = refl
parts_agree (suc n) a c h k =
    let l = length_names in
    rw (drop-cons names a 0 (omega arith), drop-cons names c 0 (omega arith))
    (ap (λ (b : Bool). eqb (get_or names a 0) (get_or names c 0) && b) (parts_agree n (suc a) (suc c) (omega arith) (omega arith)))

-- row by row
module _ (p b r : ℕ) where
  abbrev on_here : Bool
  on_here = eqb b (code_at (row_at r + p % 20)) && agree (p % 20) (p - p % 20) (row_at r)

  pub place_here : r < form_row form_count → on_here ≡ true → place_from (form_row form_count - r) r p b ≡ row_at r + p % 20
  unfolding place_from
  place_here h e = rw (one_fewer (form_row form_count) r h, e)

  pub place_next : r < form_row form_count → on_here ≡ false → place_from (form_row form_count - r) r p b ≡ place_from (form_row form_count - suc r) (suc r) p b
  unfolding place_from
  place_next h e = rw (one_fewer (form_row form_count) r h, e)

  pub place_none : form_row form_count ≤ r → place_from (form_row form_count - r) r p b ≡ 0
  unfolding place_from
  place_none h = rw (none_left (form_row form_count) r h)

-- form by form
module _ (a b k : ℕ) where
  abbrev told_here : Bool
  told_here = eqb b (code_at (name_end (form_row k) - 2)) && eqb a (code_at (name_end (form_row k) - 3))

  pub level_here : k < form_count → told_here ≡ true → level_from (form_count - k) k a b ≡ level_in (name_end (form_row k))
  unfolding level_from
  level_here h e = rw (one_fewer form_count k h, e)

  pub level_next : k < form_count → told_here ≡ false → level_from (form_count - k) k a b ≡ level_from (form_count - suc k) (suc k) a b
  unfolding level_from
  level_next h e = rw (one_fewer form_count k h, e)

  pub level_none : form_count ≤ k → level_from (form_count - k) k a b ≡ One
  unfolding level_from
  level_none h = rw (none_left form_count k h)
