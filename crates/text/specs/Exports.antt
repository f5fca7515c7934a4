-- What the calls for C write into the lent places of an answer, as numbers: number, index, length.
use Rattle.std.specs.Prelude.{ℕ, ◌≡◌, Result, List, [], ◌∷◌}
use Rattle.table.specs.Verdict.{numbered_by}
use Rattle.text.specs.declared.ReadRefusal.{ReadRefusal}
use Rattle.text.specs.declared.PrintRefusal.{PrintRefusal}
use Rattle.text.specs.Answers.{Reads, read_number, read_index, Prints, print_number, print_index, length_of}

abbrev pub read_places : Result ℕ ReadRefusal → List ℕ
read_places r = numbered_by read_number r ∷ numbered_by read_index r ∷ length_of r ∷ []

abbrev pub print_places : Result ℕ PrintRefusal → List ℕ
print_places r = numbered_by print_number r ∷ numbered_by print_index r ∷ length_of r ∷ []

pub record ReadInPlaces (text room after places : List ℕ) : Type 0 where
  pub answer : Result ℕ ReadRefusal
  pub reads : Reads text room after answer
  pub written : places ≡ read_places answer

pub record PrintedInPlaces (table room after places : List ℕ) : Type 0 where
  pub answer : Result ℕ PrintRefusal
  pub prints : Prints table room after answer
  pub written : places ≡ print_places answer
