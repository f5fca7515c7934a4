-- The table of names (01, "Written form"; L8, L14): for each form its name and what stands in its brackets, row by row in the order of the
-- kinds (01, "The table"); and the words of the configurations in the order of theirs.
use Prim.Native.String.{String}
use Rattle.std.specs.Prelude.{ℕ, List, [], ◌∷◌, ◌++◌, get_or}
use Rattle.letters.specs.Text.{bytes}

-- a number, an event, the number of a value, a cap, a configuration, a program; one program or more
pub data Part : Type 0 where
  number event value cap test program programs : Part

pub record Form : Type 0 where
  pub name : List ℕ
  pub inside : List Part

abbrev form : String → List Part → Form
form s l = record { name = bytes s; inside = l }

unfoldable pub forms : List Form
forms =
    form "Nothing" []
    ∷ form "Stop" []
    ∷ form "Atom" (number ∷ [])
    ∷ form "Seq" (program ∷ programs ∷ [])
    ∷ form "Par" (program ∷ programs ∷ [])
    ∷ form "Loop" (program ∷ [])
    ∷ form "Repeat" (number ∷ program ∷ [])
    ∷ form "Generate" (event ∷ [])
    ∷ form "Await" (test ∷ [])
    ∷ form "When" (test ∷ program ∷ program ∷ [])
    ∷ form "Until" (test ∷ program ∷ program ∷ [])
    ∷ form "Control" (event ∷ program ∷ [])
    ∷ form "Local" (event ∷ program ∷ [])
    ∷ form "Freezable" (event ∷ program ∷ [])
    ∷ form "If" (value ∷ program ∷ program ∷ [])
    ∷ form "RepeatExt" (value ∷ cap ∷ program ∷ [])
    ∷ []

-- the form of kind k
unfoldable pub form_of : ℕ → Form
unfolding forms
form_of k = get_or forms k (form "" [])

-- how it begins
unfoldable pub opening : ℕ → List ℕ
unfolding form_of
opening k = bytes "Jr." ++ ((form_of k).name ++ bytes "(")

-- the words before the last part of a configuration; an event has none
unfoldable pub words : List (List ℕ)
words = [] ∷ bytes "not " ∷ bytes "and " ∷ bytes "or " ∷ []
