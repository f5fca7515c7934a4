-- What a script can ask the box (L14): "The box hands in sixteen 8-bit values with each instant .., fixed throughout."
use Rattle.std.specs.Prelude.{ℕ, min, Bool, false, leb}

-- each value by its number
abbrev pub Values : Type 0
Values = ℕ → ℕ

abbrev pub zeros : Values
zeros v = 0

-- "nonzero meaning the first branch"
abbrev pub nonzero : ℕ → Bool
nonzero n = leb 1 n

-- how often a repetition runs its body: a Repeat's count; a RepeatExt's value, by its number, and cap
pub data Times : Type 0 where
  exactly : ℕ → Times
  asked : ℕ → ℕ → Times

-- "it runs the lesser of cap and value"
abbrev pub runs_of : Values → Times → ℕ
runs_of value (exactly n) = n
runs_of value (asked v cap) = min cap (value v)

-- the most runs, whatever the values are; whether there is one at least, whatever they are
abbrev pub most : Times → ℕ
most (exactly n) = n
most (asked v cap) = cap

abbrev pub surely : Times → Bool
surely (exactly n) = leb 1 n
surely (asked v cap) = false
