-- Where a byte stands in a text, and a part of a text.
use Rattle.std.specs.Prelude.{ℕ, List, take, drop, ◌==◌}
use Rattle.std.specs.List.{position_or_len}

-- the place of the first byte c; the text's length if there is none
abbrev pub index_of : ℕ → List ℕ → ℕ
index_of c text = position_or_len (λ b. b == c) text

-- the bytes from `from` on and before `to`
abbrev pub slice : ℕ → ℕ → List ℕ → List ℕ
slice from to text = drop from (take to text)
