-- How long the rooms are that the program lends.
use Rattle.std.specs.Prelude.{ℕ, ◌≤◌, List, length}

-- Those that a line's words are read into; a longer word makes a bad line: for a table or a text, a state, a row, a store.
abbrev pub LongRoom : List ℕ → Type 0
LongRoom room = length room ≤ 33000

abbrev pub StateRoom : List ℕ → Type 0
StateRoom state = length state ≤ 17000

abbrev pub RowRoom : List ℕ → Type 0
RowRoom row = length row ≤ 4200

abbrev pub StoreRoom : List ℕ → Type 0
StoreRoom store = length store ≤ 66000

abbrev pub Lengths : List ℕ → List ℕ → List ℕ → List ℕ → List ℕ → Type 0
Lengths table state row text store = LongRoom table × StateRoom state × RowRoom row × LongRoom text × StoreRoom store

-- any answer line fits
abbrev pub AnswerRoom : List ℕ → Type 0
AnswerRoom output = 233000 ≤ length output
