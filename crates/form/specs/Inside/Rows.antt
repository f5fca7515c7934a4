-- The table of names as the bytes that the reader and the printer share (src/names.rt): rows of 20, each filled up with zeros.
use Rattle.std.specs.Prelude.{ℕ, zero, suc, ◌+◌, ◌-◌, ◌*◌, ◌%◌, Bool, true, false, cond, ◌&&◌, ◌||◌, ◌≡◌, List, [], ◌∷◌, ◌++◌, map, eqb, get_or, drop}
use Rattle.letters.specs.Text.{bytes}
use Rattle.form.specs.Names.{Part, number, event, value, cap, test, program, programs, Form, forms, words}

-- A byte below 128 is to be read as it is. 128 is a program; 129 a form's name; 133 stands behind a second or later part; 134 is a
-- configuration; 136 stands behind its bracket; 137 behind its first part and a space; 138 is an event, 139 a number, 140 the number of a
-- value, 141 a cap.
abbrev pub with_part : Part → List ℕ → List ℕ
with_part number l = 139 ∷ l
with_part event l = 138 ∷ l
with_part value l = 140 ∷ l
with_part cap l = 141 ∷ l
with_part test l = 134 ∷ l
with_part program l = 128 ∷ l
with_part programs l = 128 ∷ 133 ∷ []

-- what stands in a form's brackets, and the closing one
unfoldable pub codes_of : List Part → List ℕ
codes_of [] = bytes ")"
codes_of (p ∷ []) = with_part p (bytes ")")
codes_of (p ∷ q ∷ l) = with_part p (bytes ", " ++ codes_of (q ∷ l))

abbrev pub codes_of_form : Form → List ℕ
codes_of_form f = f.name ++ (bytes "(" ++ codes_of f.inside)

abbrev pub codes_of_word : List ℕ → List ℕ
codes_of_word w = w ++ (134 ∷ bytes ")")

-- a text; a program; a configuration behind its bracket; the words of the configurations; the forms
unfoldable pub rows : List (List ℕ)
unfolding codes_of forms words
rows =
    (128 ∷ [])
    ∷ (bytes "Jr." ++ (129 ∷ []))
    ∷ (136 ∷ 32 ∷ 137 ∷ [])
    ∷ (map codes_of_word (drop 1 words) ++ map codes_of_form forms)

-- w in n bytes
unfoldable pub filled : ℕ → List ℕ → List ℕ
filled zero w = []
filled (suc n) [] = 0 ∷ filled n []
filled (suc n) (x ∷ w) = x ∷ filled n w

unfoldable pub flat : List (List ℕ) → List ℕ
unfolding filled
flat [] = []
flat (w ∷ l) = filled 20 w ++ flat l

unfoldable pub names : List ℕ
unfolding rows flat
names = flat rows

-- the bytes that functions are lent
abbrev pub TheNames : List ℕ → Type 0
TheNames w = w ≡ names

unfoldable pub code_at : ℕ → ℕ
unfolding names
code_at p = get_or names p 0

-- where row r begins
abbrev pub row_at : ℕ → ℕ
row_at r = 20 * r

-- the rows of a configuration and of a form of kind k
abbrev pub word_row : ℕ → ℕ
word_row k = 2 + k

abbrev pub form_row : ℕ → ℕ
form_row k = 6 + k

-- how many forms there are, and how many bytes
abbrev pub form_count : ℕ
form_count = 16

abbrev pub long : ℕ
long = row_at (form_row form_count)

-- a name ends with its bracket, a word with a space
unfoldable pub ends_name : ℕ → Bool
ends_name x = eqb x 40 || eqb x 32

-- behind the name of codes that begin at place p
unfoldable pub behind_name : ℕ → List ℕ → ℕ
unfolding ends_name
behind_name p [] = p
behind_name p (x ∷ l) = cond (ends_name x) (suc p) (behind_name (suc p) l)

-- behind the name of row r
unfoldable pub name_end : ℕ → ℕ
unfolding names behind_name
name_end r = behind_name (row_at r) (drop (row_at r) names)

-- the code at place j of what stands in the brackets of kind k
unfoldable pub inside : ℕ → ℕ → ℕ
unfolding code_at name_end
inside k j = code_at (name_end (form_row k) + j)

-- a text begins with the name of these codes
unfoldable pub starts : List ℕ → List ℕ → Bool
unfolding ends_name
starts [] w = false
starts (x ∷ l) [] = false
starts (x ∷ l) (b ∷ w) = cond (eqb b x) (cond (ends_name x) true (starts l w)) false

-- a text begins with the name of row r
unfoldable pub named : ℕ → List ℕ → Bool
unfolding names starts
named r w = starts (drop (row_at r) names) w

-- the kind, i or higher, of the form whose name a text begins with, n being left; if none, the number of forms
unfoldable pub form_from : ℕ → ℕ → List ℕ → ℕ
unfolding named
form_from zero i w = i
form_from (suc n) i w = cond (named (form_row i) w) i (form_from n (suc i) w)

unfoldable pub form_in : List ℕ → ℕ
unfolding form_from
form_in w = form_from form_count 0 w

-- 2 if it begins with `and`, 3 if with `or`
unfoldable pub pair_of : List ℕ → ℕ
unfolding named
pair_of w = cond (named (word_row 2) w) 2 (cond (named (word_row 3) w) 3 0)

unfoldable pub same : List ℕ → List ℕ → Bool
same [] [] = true
same [] (y ∷ m) = false
same (x ∷ l) [] = false
same (x ∷ l) (y ∷ m) = eqb x y && same l m

-- up to the end of a row's codes
unfoldable pub cut : List ℕ → List ℕ
cut [] = []
cut (x ∷ l) = cond (eqb x 0) [] (x ∷ cut l)

-- the codes from a place to its row's end
unfoldable pub codes : ℕ → List ℕ
unfolding names cut
codes p = cut (drop p names)

-- a bracket is to come
unfoldable pub opens : List ℕ → Bool
opens [] = false
opens (x ∷ l) = eqb x 40 || opens l

-- within the name of a form, its bracket to come
unfoldable pub in_name : ℕ → Bool
unfolding codes opens
in_name p = opens (codes p)

-- the first name; a place in a name, any other standing for that one
abbrev pub first_name : ℕ
first_name = row_at (form_row 0)

abbrev pub home : ℕ → ℕ
home p = cond (in_name p) p first_name

-- n codes from place a on; those of its row before place p
unfoldable pub codes_from : ℕ → ℕ → List ℕ
unfolding code_at
codes_from zero a = []
codes_from (suc n) a = code_at a ∷ codes_from n (suc a)

unfoldable pub letters : ℕ → List ℕ
unfolding codes_from
letters p = codes_from (p % 20) (p - p % 20)

-- the n codes from places a and c on are the same
unfoldable pub agree : ℕ → ℕ → ℕ → Bool
unfolding code_at
agree zero a c = true
agree (suc n) a c = eqb (code_at a) (code_at c) && agree n (suc a) (suc c)

-- the place in row r or a later one, of which n are left, that has b behind the letters before place p; 0 if there is none
unfoldable pub place_from : ℕ → ℕ → ℕ → ℕ → ℕ
unfolding code_at agree
place_from zero r p b = 0
place_from (suc n) r p b =
    cond (eqb b (code_at (row_at r + p % 20)) && agree (p % 20) (p - p % 20) (row_at r)) (row_at r + p % 20) (place_from n (suc r) p b)

-- where b is read in a name: at place p, or in another row that begins as its row does; 0 if nowhere
unfoldable pub place_of : ℕ → ℕ → ℕ
unfolding code_at place_from
place_of p b = cond (eqb b (code_at p)) p (place_from form_count (form_row 0) p b)
