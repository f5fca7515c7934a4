-- Numbers in decimal without leading zeros, as bytes.
use Rattle.std.specs.Prelude.{ℕ, zero, suc, ◌+◌, ◌-◌, ◌/◌, ◌%◌, ◌<◌, ◌≡◌, cond, ◌&&◌, List, [], ◌∷◌, ◌++◌, leb, ltb, MatchOption}
use Rattle.std.proofs.Common.{Option}

-- the digits of n, at most f of them
unfoldable pub digits : ℕ → ℕ → List ℕ
digits zero n = []
digits (suc f) n =
    let front = digits f (n / 10) in
    cond (ltb n 10) [] front ++ ((48 + n % 10) ∷ [])

-- n in decimal: it has no more digits than n + 1
unfoldable pub decimal : ℕ → List ℕ
unfolding digits
decimal n = digits (suc n) n

-- the value of a digit; 10 if it is none
unfoldable pub figure : ℕ → ℕ
figure b = cond (leb 48 b && leb b 57) (b - 48) 10

-- the same of an answer: the value, or none
abbrev pub FigureOf : ℕ → Option ℕ → Type 0
FigureOf b r = MatchOption r (figure b ≡ 10) (λ d. (d ≡ figure b) × (d < 10))
