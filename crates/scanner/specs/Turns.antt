-- What a byte does at a place of the rules.
use Rattle.std.specs.Prelude.{ℕ, suc, ◌-◌, cond, ◌&&◌, ◌++◌, eqb, ltb, leb, Option, None, Some}
use Rattle.scanner.specs.declared.rules.Turn.{Turn}
use Rattle.scanner.specs.declared.rules.Turn.TheVariants.{On, Opens, Into, Out}
use Rattle.form.specs.Inside.Rows.{code_at, row_at, word_row, form_row, form_count, first_name, place_from}
use Rattle.form.specs.Inside.Machine.{is_digit_byte, grown, limit, sort_of, Stack, Next, dead, on}
use Rattle.scanner.specs.Rules.{place_behind_j, behind_bracket, behind_n, behind_a, behind_o, behind_comma, held}

-- in another form's name that begins with the same letters
unfoldable pub other_turn : ℕ → ℕ → Option Turn
unfolding place_from
other_turn p b =
    let q = place_from form_count (form_row 0) p b in
    cond (ltb p first_name) None (cond (eqb q 0) None (cond (eqb b 40) (Some (Opens (suc q))) (Some (On (suc q) None))))

unfoldable pub literal_turn : ℕ → ℕ → Option Turn
unfolding code_at other_turn
literal_turn p b =
    let other = other_turn p b in
    cond (eqb (code_at p) 0) None
    (cond (eqb b (code_at p)) (cond (eqb b 40) (Some (Opens (suc p))) (cond (eqb b 41) (Some Out) (Some (On (suc p) None)))) other)

unfoldable pub digit_turn : ℕ → ℕ → Option Turn
digit_turn p b = cond (is_digit_byte b) (Some (On (suc p) (Some (b - 48)))) None

unfoldable pub test_turn : ℕ → ℕ → Option Turn
unfolding digit_turn
test_turn p b = cond (eqb b 40) (Some (Into behind_bracket)) (digit_turn p b)

unfoldable pub inner_turn : ℕ → ℕ → Option Turn
unfolding test_turn
inner_turn p b = cond (eqb b 110) (Some (On behind_n None)) (test_turn p b)

unfoldable pub parts_turn : ℕ → Option Turn
parts_turn b = cond (eqb b 41) (Some Out) (cond (eqb b 44) (Some (On behind_comma None)) None)

unfoldable pub joint_turn : ℕ → Option Turn
unfolding code_at
joint_turn b = cond (eqb b (code_at (row_at (word_row 2)))) (Some (On behind_a None)) (cond (eqb b (code_at (row_at (word_row 3)))) (Some (On behind_o None)) None)

unfoldable pub program_turn : ℕ → Option Turn
program_turn b = cond (eqb b 74) (Some (Into place_behind_j)) None

unfoldable pub symbol_turn : ℕ → ℕ → ℕ → Option Turn
unfolding digit_turn test_turn inner_turn parts_turn joint_turn program_turn literal_turn
symbol_turn x p b =
    cond (eqb x 128) (program_turn b)
    (cond (eqb x 133) (parts_turn b)
    (cond (eqb x 134) (test_turn p b)
    (cond (eqb x 136) (inner_turn p b)
    (cond (eqb x 129) (literal_turn first_name b) (cond (ltb x 138) (joint_turn b) (digit_turn p b))))))

unfoldable pub number_turn : ℕ → ℕ → ℕ → Option Turn
unfolding code_at literal_turn
number_turn p v b =
    cond (is_digit_byte b)
    (cond (leb 1 v && leb (grown v b) (limit (sort_of (code_at (p - 1))))) (Some (On p (Some (grown v b)))) None)
    (literal_turn p b)

-- at a place, within a number or not
unfoldable pub turn_of : ℕ → Option ℕ → ℕ → Option Turn
unfolding code_at literal_turn symbol_turn number_turn
turn_of p None b = cond (ltb (code_at p) 128) (literal_turn p b) (symbol_turn (code_at p) p b)
turn_of p (Some v) b = number_turn p v b

-- what is to come behind a turn at place p, over σ
abbrev pub after : ℕ → Option Turn → Stack → Next
after p None σ = dead
after p (Some (On q n)) σ = on (held q n ++ σ)
after p (Some (Opens q)) σ = on (held q None ++ σ)
after p (Some (Into q)) σ = on (held q None ++ (held (suc p) None ++ σ))
after p (Some Out) σ = on σ
