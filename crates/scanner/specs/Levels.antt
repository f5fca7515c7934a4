-- The bracket that a place of a text stands in, and what is still to come of the levels round it.
use Rattle.std.specs.Prelude.{ℕ, zero, suc, ◌+◌, ◌-◌, ◌<◌, Bool, cond, ◌&&◌, List, [], ◌++◌, eqb, ltb, get_or, None}
use Rattle.scanner.specs.declared.levels.Bracket.{Bracket}
use Rattle.scanner.specs.declared.levels.Level.{Level}
use Rattle.scanner.specs.declared.levels.Level.TheVariants.{Top, Several, Branches, Test, One}
use Rattle.form.specs.Inside.Rows.{code_at, row_at, word_row, form_row, form_count, name_end}
use Rattle.form.specs.Inside.Machine.{Stack}
use Rattle.scanner.specs.Rules.{held}

abbrev pub found : ℕ → ℕ → Bracket
found i m = record { at = i; spaces = m }

-- going back over the byte b, n brackets being closed: is this the one; how many are closed then; spaces so far
unfoldable pub is_open : ℕ → ℕ → Bool
is_open b n = eqb b 40 && eqb n 0

unfoldable pub nested : ℕ → ℕ → ℕ
nested b n = cond (eqb b 41) (suc n) (cond (eqb b 40) (n - 1) n)

unfoldable pub spaced : ℕ → ℕ → ℕ → ℕ
spaced b n m = cond (eqb b 32 && eqb n 0) (suc m) m

-- from place i back to the bracket that is open there, n brackets being closed and m spaces seen; 0 if there is none
unfoldable pub back : List ℕ → ℕ → ℕ → ℕ → Bracket
unfolding is_open nested spaced
back t zero n m = found 0 m
back t (suc i) n m =
    let b = get_or t i 0 in
    cond (is_open b n) (found i m) (back t i (nested b n) (spaced b n m))

abbrev pub around : List ℕ → ℕ → Bracket
around t i = back t i 0 0

-- the level in the brackets of a form, which begin at place n of the table of names: parts, two programs, or not so
unfoldable pub level_in : ℕ → Level
unfolding code_at
level_in n = cond (eqb (code_at (n + 4)) 133) Several (cond (eqb (code_at (n + 6)) 128) Branches One)

-- the level of the form of kind k or higher, of which n are left, whose name ends with these two letters
unfoldable pub level_from : ℕ → ℕ → ℕ → ℕ → Level
unfolding code_at name_end level_in
level_from zero k before last = One
level_from (suc n) k before last =
    let e = name_end (form_row k) in
    cond (eqb last (code_at (e - 2)) && eqb before (code_at (e - 3))) (level_in e) (level_from n (suc k) before last)

-- the level of a bracket behind these two bytes: a form's name ends with a small letter
unfoldable pub level_of : ℕ → ℕ → Level
unfolding level_from
level_of before last = cond (ltb last 97) Test (level_from form_count 0 before last)

unfoldable pub level_at : List ℕ → ℕ → Level
unfolding level_of
level_at t o = cond (eqb o 0) Top (level_of (get_or t (o - 2) 0) (get_or t (o - 1) 0))

abbrev pub by_spaces : ℕ → ℕ → ℕ → ℕ → ℕ
by_spaces none one more zero = none
by_spaces none one more (suc zero) = one
by_spaces none one more (suc (suc c)) = more

-- where the rules go on behind a part of a Seq or Par, its first or a later one; behind the test and the first branch of a When or Until;
-- behind the first part of a configuration; and behind any other part, before the closing bracket
abbrev pub first_part : ℕ
first_part = row_at (form_row 3) + 5

abbrev pub later_part : ℕ
later_part = row_at (form_row 3) + 8

abbrev pub branch_test : ℕ
branch_test = row_at (form_row 9) + 6

abbrev pub first_branch : ℕ
first_branch = row_at (form_row 9) + 9

abbrev pub first_test : ℕ
first_test = row_at (word_row 0) + 1

abbrev pub last_part : ℕ
last_part = row_at (form_row 9) + 12

-- where a level's rule goes on behind a bracket in it, by the spaces before that
unfoldable pub rest_of : Level → ℕ → ℕ
rest_of Top c = 1
rest_of Several c = by_spaces first_part later_part later_part c
rest_of Branches c = by_spaces branch_test first_branch last_part c
rest_of Test c = by_spaces first_test last_part last_part c
rest_of One c = last_part

unfoldable pub outer_at : List ℕ → ℕ → ℕ
unfolding back
outer_at t o = (around t o).at

unfoldable pub rest_at : List ℕ → ℕ → ℕ
unfolding back level_at rest_of
rest_at t o = rest_of (level_at t (around t o).at) (around t o).spaces

-- what is still to come of the levels round the bracket at o
pub data Under (t : List ℕ) : ℕ → Stack → Type 0 where
  top : Under t 0 []
  level : {o : ℕ} {σ : Stack} → 0 < o → Under t (outer_at t o) σ → Under t o (held (rest_at t o) None ++ σ)
