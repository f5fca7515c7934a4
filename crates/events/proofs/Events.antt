-- Laws of `put`, `how_many` and `lowest`, of any events.
use mathlib.Core.Path.{◌≡◌, refl, sym, ap, ◌∙◌, fun_ext}
use mathlib.Core.Bool.{Bool, true, false, cond}
use Prim.Native.Nat.{ℕ, zero, suc, ◌+◌, ◌≤◌, ◌<◌}
use native.Mathlib.Omega.{arith}
use native.Mathlib.Nat.{add-suc, add-zero}
use lib.Dec.{eqb, lit≤}
use borrow.Author.Tests.{eqb-true}
use Rattle.events.specs.Events.{Events, put, how_many, lowest}

-- putting what is there already changes nothing
pub put_same : (s : ℕ) (b : Bool) (X : Events) → X s ≡ b → put s b X ≡ X
unfolding put
put_same s b X e = fun_ext (λ n. go n (eqb n s) refl)
  where
    go : (n : ℕ) (t : Bool) → eqb n s ≡ t → cond t b (X n) ≡ X n
    go n true h = sym e ∙ ap X (sym (eqb-true n s h))
    go n false h = refl

one_le : (b : Bool) → cond b 1 0 ≤ 1
one_le true = lit≤ tt
one_le false = lit≤ tt

-- at most all are present
pub how_many_le : (n : ℕ) (X : Events) → how_many n X ≤ n
unfolding how_many
how_many_le zero X = omega arith
how_many_le (suc n) X = omega (arith, how_many_le n X, one_le (X n))

-- the first is counted apart
pub how_many_first : (n : ℕ) (X : Events) → how_many (suc n) X ≡ cond (X 0) 1 0 + how_many n (λ k. X (suc k))
unfolding how_many
how_many_first zero X = omega arith
how_many_first (suc n) X = omega (arith, how_many_first n X)

-- n events behind the first a count like the first n of Y, where they are like these
pub how_many_then : (a n : ℕ) (X Y : Events) → ((k : ℕ) → k < n → X (a + k) ≡ Y k) → how_many (a + n) X ≡ how_many a X + how_many n Y
unfolding how_many
how_many_then a zero X Y h = simp add-zero
how_many_then a (suc n) X Y h = rw (add-suc, h n (omega arith)) (omega (arith, how_many_then a n X Y (λ k l. h k (omega arith))))

-- none before the lowest is present
pub before_lowest : (n : ℕ) (X : Events) (k : ℕ) → k < lowest n X → X k ≡ false
unfolding lowest
before_lowest zero X k h = absurd (omega arith)
before_lowest (suc n) X k h = go (before_lowest n (λ j. X (suc j))) (X 0) refl k h
  where
    rest : ℕ
    rest = lowest n (λ j. X (suc j))

    go : ((j : ℕ) → j < rest → X (suc j) ≡ false) → (b : Bool) → X 0 ≡ b → (j : ℕ) → j < cond b 0 (suc rest) → X j ≡ false
    go later true e j l = absurd (omega arith)
    go later false e zero l = e
    go later false e (suc j) l = later j (omega arith)

-- the lowest is present
pub at_lowest : (n : ℕ) (X : Events) → lowest n X < n → X (lowest n X) ≡ true
unfolding lowest
at_lowest zero X h = absurd (omega arith)
at_lowest (suc n) X h = go (at_lowest n (λ j. X (suc j))) (X 0) refl h
  where
    rest : ℕ
    rest = lowest n (λ j. X (suc j))

    go : (rest < n → X (suc rest) ≡ true) → (b : Bool) → X 0 ≡ b → cond b 0 (suc rest) < suc n → X (cond b 0 (suc rest)) ≡ true
    go later true e l = e
    go later false e l = later (omega arith)

-- nothing else is the lowest
pub lowest_is : (n r : ℕ) (X : Events) → r ≤ n → ((k : ℕ) → k < r → X k ≡ false) → (r < n → X r ≡ true) → r ≡ lowest n X
unfolding lowest
lowest_is zero r X w b t = omega arith
lowest_is (suc n) zero X w b t = simp (t (omega arith))
lowest_is (suc n) (suc r) X w b t =
    simp (b 0 (omega arith)) (ap suc (lowest_is n r (λ k. X (suc k)) (omega arith) (λ k h. b (suc k) (omega arith)) (λ h. t (omega arith))))
