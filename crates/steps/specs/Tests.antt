-- What reading the configuration that a node tests asks and gives, over how far the instant has come; what an Until* becomes by it.
use Rattle.std.specs.Prelude.{ℕ, ◌+◌, ◌-◌, Bool, true, false, ◌≡◌, List, eqb, set, replicate}
use borrow.Rule.Slice.PartMut.{put_mid}
use Rattle.table.specs.Records.{part_kind}
use Rattle.table.specs.Spells.{tested}
use Rattle.junior.specs.declared.Flag.{Flag}
use Rattle.junior.specs.declared.Flag.TheVariants.{SUSP, STOP, TERM}
use Rattle.junior.specs.declared.Verdict.{Verdict}
use Rattle.junior.specs.declared.Verdict.TheVariants.{Sat, Unsat, Unknown}
use Rattle.steps.specs.Running.{HasTest, TestRead}
use Rattle.steps.specs.declared.progress.Progress.{Progress}
use Rattle.steps.specs.Progress.{Holds, words_of, tally_of}

pub record CanTest (table : List ℕ) (i : ℕ) (m : Progress) : Type 0 where
  pub has : HasTest table i (tally_of m)
  pub holds : Holds table m

-- node i tests a lone event
abbrev pub lone_event : List ℕ → ℕ → Bool
lone_event table i = eqb (part_kind table (tested table i)) 0

-- v is what it is read as
abbrev pub TestIs : List ℕ → ℕ → Progress → Verdict → Type 0
TestIs table i m v = TestRead table i (words_of m) (tally_of m) v

-- the bytes s of a state in which the body of an Until, at byte `at` with its handler at byte `second`, is made fresh
abbrev pub body_cleared : ℕ → ℕ → List ℕ → List ℕ
body_cleared at second s = let long = second - (at + 4) in put_mid (at + 4) long s (replicate long 0)

-- what the state s and the flag become, by what an Until*'s test is read as: rules 34, 33, 32, and 31, where TERM says that the handler is now to be run
pub data StarRead (v : Verdict) (ended : Bool) (at second : ℕ) (s : List ℕ) : List ℕ → Flag → Type 0 where
  waits : v ≡ Unknown → StarRead v ended at second s (set s at 1) SUSP
  refused : v ≡ Unsat → StarRead v ended at second s (set s at 0) STOP
  satisfied_late : v ≡ Sat → ended ≡ true → StarRead v ended at second s (set (body_cleared at second s) at 2) STOP
  satisfied : v ≡ Sat → ended ≡ false → StarRead v ended at second s (body_cleared at second s) TERM
