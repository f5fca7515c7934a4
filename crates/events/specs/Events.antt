-- Sets of events as their tests: what document 000, 2.4, writes E+S, E-S and E/F[S] is one operation, `put`.
-- No size appears here, so the rules of crate `junior` speak of no number of places.
use Rattle.std.specs.Prelude.{ℕ, zero, suc, ◌+◌, Bool, false, cond, eqb}

-- which events are present
abbrev pub Events : Type 0
Events = ℕ → Bool

-- no event is
abbrev pub none : Events
none n = false

-- X but for s, which is in it exactly if b: E+S at b = true, E-S at b = false, E/F[S] at b = F s
unfoldable pub put : ℕ → Bool → Events → Events
put s b X n = cond (eqb n s) b (X n)

-- how many of the first n events are present
unfoldable pub how_many : ℕ → Events → ℕ
how_many zero X = 0
how_many (suc n) X = how_many n X + cond (X n) 1 0

-- the lowest of the first n events that is present; n if none is
unfoldable pub lowest : ℕ → Events → ℕ
lowest zero X = 0
lowest (suc n) X = cond (X 0) 0 (suc (lowest n (λ k. X (suc k))))
