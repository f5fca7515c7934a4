-- Verdicts as numbers: the smaller wins an and, the larger an or, and a not mirrors.
use Rattle.std.specs.Prelude.{ℕ, min, max, Bool, cond, ◌≡◌, List, eqb}
use Rattle.junior.specs.declared.Verdict.{Verdict}
use Rattle.junior.specs.declared.Verdict.TheVariants.{Sat, Unsat, Unknown}
use Rattle.junior.specs.Configuration.{Config, test}
use Rattle.table.specs.Spells.{Configured}
use Rattle.table.specs.Reading.{environment}

abbrev pub rank : Verdict → ℕ
rank Unsat = 0
rank Unknown = 1
rank Sat = 2

unfoldable pub unranked : ℕ → Verdict
unranked r = cond (eqb r 0) Unsat (cond (eqb r 1) Unknown Sat)

-- of an event that isn't present
abbrev pub absent_rank : Bool → ℕ
absent_rank ended = cond ended 0 1

-- of an and (kind 2) or an or, by the parts'
abbrev pub joined_rank : ℕ → ℕ → ℕ → ℕ
joined_rank k a b = cond (eqb k 2) (min a b) (max a b)

-- whatever configuration stands at byte c, r is its rank, an absent event's being given
abbrev pub RanksAs : List ℕ → ℕ → List ℕ → ℕ → ℕ → Type 0
RanksAs t c words absent r =
    (d : Config) (ended moved : Bool) → Configured t c d → absent ≡ absent_rank ended
    → r ≡ rank (test d (environment words ended moved))

abbrev pub IsAbsentRank : ℕ → Type 0
IsAbsentRank absent = (ended : Bool) × (absent ≡ absent_rank ended)
