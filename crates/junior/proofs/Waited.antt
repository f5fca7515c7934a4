-- What an instant names: the rules leave no choice of it, and it names a test exactly if the end was declared.
use Prim.Native.Nat.{ℕ}
use mathlib.Core.Bool.{true, false}
use mathlib.Core.Path.{◌≡◌, refl, ap, sym, subst⁻¹, ◌∙◌}
use Rattle.junior.specs.Configuration.{Env, unmoved}
use Rattle.junior.specs.Values.{Values}
use Rattle.junior.specs.Term.{Term}
use Rattle.junior.specs.Trace.{root}
use Rattle.junior.specs.Rules.{Allowed, left_first, Result, Rewrites}
use Rattle.junior.specs.Instant.{Instant, r47, r48, r49}
use Rattle.junior.specs.Waited.{first_wait, before_the_end, waited}
use Rattle.junior.proofs.Deterministic.{one_result}
use Rattle.junior.proofs.Grows.{end_kept}
use Rattle.junior.proofs.Lower.{found}
use Rattle.junior.proofs.Waits.{suspended, waits_exactly}

-- from one term in one environment, however that is said
same_result : {value : Values} {t t' : Term} {E E' : Env} {r s : Result} → t ≡ t' → E ≡ E' → Rewrites (left_first value) root t E r
    → Rewrites (left_first value) root t' E' s
    → r ≡ s
same_result {value} {t} {t'} {E} {E'} {r} {s} x y d e =
    one_result d (subst⁻¹ (λ u. Rewrites (left_first value) root u E s) x (subst⁻¹ (λ F. Rewrites (left_first value) root t' F s) y e))

same_pass : {value : Values} {t t' : Term} {E E' : Env} {m n : ℕ} {r s : Result} → t ≡ t' → E ≡ E'
    → (i : Instant (left_first value) t E m r) (j : Instant (left_first value) t' E' n s)
    → before_the_end i ≡ before_the_end j
unfolding before_the_end
same_pass x y (r47 d h) (r47 d' h') = refl
same_pass x y (r47 d h) (r48 d' f m i) = absurd (h (ap (λ r. r.flag) (same_result x y d d') ∙ f))
same_pass x y (r47 d h) (r49 d' f m i) = absurd (h (ap (λ r. r.flag) (same_result x y d d') ∙ f))
same_pass x y (r48 d f m i) (r47 d' h) = absurd (h (sym (ap (λ r. r.flag) (same_result x y d d')) ∙ f))
same_pass x y (r48 d f m i) (r48 d' f' m' i') = ap (λ r. r.acts) (same_result x y d d')
same_pass x y (r48 d f m i) (r49 d' f' m' i') = let z = same_result x y d d' in cc
same_pass x y (r49 d f m i) (r47 d' h) = absurd (h (sym (ap (λ r. r.flag) (same_result x y d d')) ∙ f))
same_pass x y (r49 d f m i) (r48 d' f' m' i') = let z = same_result x y d d' in cc
same_pass x y (r49 d f m i) (r49 d' f' m' i') =
    let z = same_result x y d d' in
    same_pass (ap (λ r. r.to) z) (ap (λ r. unmoved r.env) z) i i'

pub one_waited : {value : Values} {t : Term} {E : Env} {m n : ℕ} {r s : Result} (i : Instant (left_first value) t E m r)
    (j : Instant (left_first value) t E n s)
    → waited i ≡ waited j
one_waited i j = ap first_wait (same_pass refl refl i j)

end_stays : {free : Allowed} {t : Term} {E : Env} {n : ℕ} {r : Result} → Instant free t E n r → E.eoi ≡ true → r.env.eoi ≡ true
end_stays (r47 d h) e = end_kept d ∙ e
end_stays (r48 d h m i) e = end_stays i refl
end_stays (r49 d h m i) e = end_stays i (end_kept d ∙ e)

-- a test is named exactly if the end was declared
pub named_at_the_end : {free : Allowed} {t : Term} {E : Env} {n : ℕ} {r : Result} (i : Instant free t E n r) → E.eoi ≡ false
    → found (waited i) ≡ r.env.eoi
unfolding before_the_end first_wait
named_at_the_end (r47 d h) e = sym (end_kept d ∙ e)
named_at_the_end (r48 d h m i) e = waits_exactly d ∙ (ap suspended h ∙ sym (end_stays i refl))
named_at_the_end (r49 d h m i) e = named_at_the_end i (end_kept d ∙ e)
