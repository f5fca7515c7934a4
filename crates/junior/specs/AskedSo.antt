-- Examples of what is asked of the box: which branch runs, how often, and when the value is read.
use Rattle.std.specs.Prelude.{ℕ, cond, ◌≡◌, List, [], ◌∷◌, eqb}
use Rattle.events.specs.Events.{none}
use Rattle.junior.specs.declared.Flag.{Flag}
use Rattle.junior.specs.declared.Flag.TheVariants.{STOP, TERM}
use Rattle.junior.specs.Configuration.{handed_in}
use Rattle.junior.specs.Values.{Values, zeros, asked}
use Rattle.junior.specs.Program.{Program, Stop, Atom, Seq, Repeat, If}
use Rattle.junior.specs.Term.{Term, fresh}
use Rattle.junior.specs.Trace.{atoms}
use Rattle.junior.specs.Rules.{left_first, Result}
use Rattle.junior.specs.Instant.{Instant}

-- value v is n, the others as before
abbrev pub set : ℕ → ℕ → Values → Values
set v n value u = cond (eqb u v) n (value u)

-- what an instant with these values answers, and the atoms that it does
pub record Expected : Type 0 where
  pub values : Values
  pub answer : Flag
  pub atoms : List ℕ

abbrev pub gives : Values → Flag → List ℕ → Expected
gives value α l = record { values = value; answer = α; atoms = l }

-- so do the instants from t, no event being handed in, each from the state that the one before left
pub data Gives : Term → List Expected → Type 0 where
  no_more : {t : Term} → Gives t []
  next : {t : Term} {x : Expected} {n : ℕ} {r : Result} {l : List Expected}
      (i : Instant (left_first x.values) t (handed_in none) n r)
      → r.flag ≡ x.answer
      → atoms r.acts ≡ x.atoms
      → Gives r.to l
      → Gives t (x ∷ l)

abbrev pub RepeatExt : ℕ → ℕ → Program → Program
RepeatExt v cap p = Repeat (asked v cap) p

pub record AskedSo : Type 0 where
  -- nonzero means the first branch
  pub nonzero_first : Gives (fresh (If 3 (Atom 1) (Atom 2))) (gives (set 3 255 zeros) TERM (1 ∷ []) ∷ [])
  pub zero_second : Gives (fresh (If 3 (Atom 1) (Atom 2))) (gives zeros TERM (2 ∷ []) ∷ [])
  -- chosen when reached: the second instant's value changes nothing
  pub chosen_once : Gives (fresh (If 0 Stop (Atom 1))) (gives (set 0 1 zeros) STOP [] ∷ gives zeros TERM [] ∷ [])
  -- the lesser of cap and value; a value of 0 ends it at once
  pub by_value : Gives (fresh (RepeatExt 2 5 (Atom 7))) (gives (set 2 3 zeros) TERM (7 ∷ 7 ∷ 7 ∷ []) ∷ [])
  pub by_cap : Gives (fresh (RepeatExt 2 5 (Atom 7))) (gives (set 2 9 zeros) TERM (7 ∷ 7 ∷ 7 ∷ 7 ∷ 7 ∷ []) ∷ [])
  pub not_at_all : Gives (fresh (RepeatExt 2 5 (Atom 7))) (gives zeros TERM [] ∷ [])
  -- the value is read when it begins, and then the count is kept
  pub read_once :
      Gives
      (fresh (RepeatExt 0 4 (Seq Stop (Atom 1))))
      (gives (set 0 2 zeros) STOP [] ∷ gives (set 0 200 zeros) STOP (1 ∷ []) ∷ gives (set 0 200 zeros) TERM (1 ∷ []) ∷ [])
  -- each round's If is a new one and asks anew; the round begun before keeps its choice
  pub each_round_anew :
      Gives
      (fresh (RepeatExt 0 3 (If 1 Stop (Atom 4))))
      (gives (set 0 3 (set 1 1 zeros)) STOP [] ∷ gives zeros TERM (4 ∷ 4 ∷ []) ∷ [])
