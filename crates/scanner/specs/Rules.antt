-- The table of names as the rules that the scanner goes along: the places where it goes on, and the reading machine's symbols that a place
-- stands for.
use Rattle.std.specs.Prelude.{ℕ, ◌+◌, ◌-◌, true, false, cond, [], ◌∷◌, Option, None, Some}
use Rattle.form.specs.Inside.Rows.{code_at, row_at, word_row, form_row, codes, in_name}
use Rattle.form.specs.Inside.Machine.{ending, sort_of, name, tail, syms, Stack}

-- behind the J of a program, the bracket of a configuration, the n of a `not`, the a of an `and`, the o of an `or`, and the comma before a
-- later part
abbrev pub place_behind_j : ℕ
place_behind_j = row_at 1 + 1

abbrev pub behind_bracket : ℕ
behind_bracket = row_at (word_row 0)

abbrev pub behind_n : ℕ
behind_n = row_at (word_row 1) + 1

abbrev pub behind_a : ℕ
behind_a = row_at (word_row 2) + 1

abbrev pub behind_o : ℕ
behind_o = row_at (word_row 3) + 1

abbrev pub behind_comma : ℕ
behind_comma = row_at (form_row 3) + 6

-- What is still to come of a place's row. Within a number the place is that of its end byte, and the number's value so far is kept.
unfoldable pub held : ℕ → Option ℕ → Stack
unfolding code_at codes in_name syms
held p None = cond (in_name p) (name p ∷ []) (syms false (codes p))
held p (Some v) = tail (sort_of (code_at (p - 1))) v (ending (code_at p)) ∷ syms true (codes p)
