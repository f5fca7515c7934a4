-- Reading a configuration from its first record on, no call nested in another: what is open around the record looked at. Private contracts
-- alone cite this file.
use Rattle.std.specs.Prelude.{ℕ, ◌+◌, ◌-◌, ◌*◌, ◌/◌, ◌≤◌, min, max, Bool, cond, ◌≡◌, List, [], ◌∷◌, length}
use Rattle.std.specs.declared.ops.ControlFlow.{ControlFlow}
use Rattle.std.specs.declared.ops.ControlFlow.TheVariants.{Continue, Break}
use Rattle.junior.specs.declared.Verdict.{Verdict}
use Rattle.junior.specs.Configuration.{Config, Env, test}
use Rattle.table.specs.declared.reading.Place.{Place}
use Rattle.table.specs.declared.reading.Closed.{Closed}
use Rattle.table.specs.declared.reading.Closed.TheVariants.{Decided, Undecided, Second}
use Rattle.table.specs.Spells.{weight, Configured}
use Rattle.table.specs.Reading.{height}
use Rattle.table.specs.Inside.Ranks.{rank}

-- a not; the first part of an and or an or, whose second is still to come; the second part, the first being unknown
pub data Level : Type 0 where
  denied : Level
  and_first or_first : Config → Level
  and_second or_second : Level

abbrev pub digit : Level → ℕ
digit denied = 1
digit (and_first d) = 2
digit (or_first d) = 3
digit and_second = 4
digit or_second = 5

-- levels, the innermost first, as a number: digits to base 16 behind a leading 2
unfoldable pub levelled : List Level → ℕ
levelled [] = 2
levelled (l ∷ o) = 16 * levelled o + digit l

abbrev pub SomeLevels : ℕ → Type 0
SomeLevels n = (o : List Level) × (n ≡ levelled o)

-- the rank of the whole, by the rank of the part within
unfoldable pub closing : Env → List Level → ℕ → ℕ
closing E [] r = r
closing E (denied ∷ o) r = closing E o (2 - r)
closing E (and_first d ∷ o) r = closing E o (min r (rank (test d E)))
closing E (or_first d ∷ o) r = closing E o (max r (rank (test d E)))
closing E (and_second ∷ o) r = closing E o (min 1 r)
closing E (or_second ∷ o) r = closing E o (max 1 r)

-- d stands at byte c, within the table, and no more than 16 levels are open in its last record
pub record Standing (t : List ℕ) (c : ℕ) (d : Config) (o : List Level) : Type 0 where
  pub configured : Configured t c d
  pub inside : c + 4 * weight d ≤ length t
  pub low : height d + length o ≤ 16

-- the parts still to come stand one behind another from byte c on
unfoldable pub ToCome : List ℕ → ℕ → List Level → Type 0
ToCome t c [] = Unit {0}
ToCome t c (denied ∷ o) = ToCome t c o
ToCome t c (and_first d ∷ o) = Standing t c d (and_second ∷ o) × ToCome t (c + 4 * weight d) o
ToCome t c (or_first d ∷ o) = Standing t c d (or_second ∷ o) × ToCome t (c + 4 * weight d) o
ToCome t c (and_second ∷ o) = ToCome t c o
ToCome t c (or_second ∷ o) = ToCome t c o

-- the levels of that number are open behind byte c
pub record Open (t : List ℕ) (c n : ℕ) (o : List Level) : Type 0 where
  pub number : n ≡ levelled o
  pub to_come : ToCome t c o

abbrev pub SomeOpen : List ℕ → ℕ → ℕ → Type 0
SomeOpen t c n = (o : List Level) × Open t c n o

-- the part within has rank r; then, no further back, some of the levels are left, with rank r' within
pub record Left (t : List ℕ) (c : ℕ) (o : List Level) (r c' n' r' : ℕ) : Type 0 where
  pub still : List Level
  pub opened : Open t c' n' still
  pub same : (E : Env) → closing E o r ≡ closing E still r'
  pub onward : c ≤ c'

-- or the part d is to be read next
pub record Next (t : List ℕ) (c : ℕ) (o : List Level) (r c' n' : ℕ) : Type 0 where
  pub part : Config
  pub still : List Level
  pub stands : Standing t c' part still
  pub opened : Open t (c' + 4 * weight part) n' still
  pub same : (E : Env) → closing E o r ≡ closing E still (rank (test part E))
  pub onward : c ≤ c'

-- the rank of a verdict other than unknown: is it sat?
abbrev pub sat_rank : Bool → ℕ
sat_rank b = cond b 2 0

-- one level is closed by a decided part: the rank is decided again, or it is 1, or a part is to be read next
abbrev pub ClosesOne : List ℕ → ℕ → List Level → ℕ → Closed → Type 0
ClosesOne t c o r (Decided p b) = Left t c o r p.at p.levels (sat_rank b)
ClosesOne t c o r (Undecided p) = Left t c o r p.at p.levels 1
ClosesOne t c o r (Second p) = Next t c o r p.at p.levels

-- of the levels n that one is gone
abbrev pub Falls : ℕ → Closed → Type 0
Falls n (Decided p b) = p.levels ≡ n / 16
Falls n (Undecided p) = p.levels ≡ n / 16
Falls n (Second p) = p.levels ≡ n / 16

-- all levels are closed, or a part is to be read next
abbrev pub Closes : List ℕ → ℕ → List Level → ℕ → ControlFlow Verdict Place → Type 0
Closes t c o r (Break v) = (E : Env) → closing E o r ≡ rank v
Closes t c o r (Continue p) = Next t c o r p.at p.levels

-- a part unknown leaves open, of these levels, those from the innermost whose second part is to come
unfoldable pub unsettled : List Level → List Level
unsettled [] = []
unsettled (denied ∷ o) = unsettled o
unsettled (and_first d ∷ o) = and_first d ∷ o
unsettled (or_first d ∷ o) = or_first d ∷ o
unsettled (and_second ∷ o) = unsettled o
unsettled (or_second ∷ o) = unsettled o
